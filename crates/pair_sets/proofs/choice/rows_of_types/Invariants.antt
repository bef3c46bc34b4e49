use Rattle.std.proofs.Common.{◌≡◌, ◌-◌, ◌^◌, take}
use Rattle.std.specs.Prelude.{min, sum_by}
use Rattle.postings.specs.Stats.{type_row_count}
use Rattle.pair_sets.proofs.choice.rows_of_types.Given as goal

-- `rows` is how many rows the types so far have, saturated
abbrev pub invariant-loop-id : goal.invariant-loop-id
invariant-loop-id l = l.rows ≡ min (sum_by (type_row_count l.reader.indexes.now) (take l.id-index l.ids)) (2 ^ 64 - 1)
