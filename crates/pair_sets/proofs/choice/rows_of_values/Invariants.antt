use Rattle.std.proofs.Common.{◌≡◌, ◌-◌, ◌^◌, take}
use Rattle.std.specs.Prelude.{min, sum_by}
use Rattle.candidates.specs.RowCounts.{row_count_of}
use Rattle.pair_sets.proofs.choice.rows_of_values.Given as goal

-- `rows` is how many rows the concepts so far have, saturated
abbrev pub invariant-loop-concept : goal.invariant-loop-concept
invariant-loop-concept l =
    l.rows ≡ min (sum_by (row_count_of l.reader.indexes.now l.back) (take l.concept-index l.concepts)) (2 ^ 64 - 1)
