use Rattle.std.proofs.Common.{ℕ, Bool, ◌≡◌, take}
use Rattle.std.specs.Prelude.{filter}
use Rattle.candidates.specs.Numbers.{is_one_of}
use Rattle.postings.specs.Indexed.{types_of}
use Rattle.postings.specs.Stats.{type_row_count}
use Rattle.reading.specs.Counted.{full_sum}
use Rattle.pair_sets.proofs.choice.rows_typed.Given as goal

-- `rows` is how many rows have one of the types so far that are in the set, saturated
abbrev pub invariant-loop-place : goal.invariant-loop-place
invariant-loop-place g l =
    let one : ℕ → Bool = is_one_of l.reader.indexes.now.concepts (g.S.ConceptSet.items_of l.types) in
    l.rows ≡ full_sum (type_row_count l.reader.indexes.now)
    (filter one (take l.place (types_of l.reader.indexes.now.rows)))
