use Rattle.std.proofs.Common.{◌≡◌, get_or}
use Rattle.number_lists.specs.Rising.{numbers_where}
use Rattle.candidates.specs.Numbers.{is_one_of}
use Rattle.pair_sets.proofs.types.places_of_types.Given as goal

-- `places` are those of the types so far that are in the set
abbrev pub invariant-loop-place : goal.invariant-loop-place
invariant-loop-place g l =
    l.places.items ≡ numbers_where l.place
    (λ place. is_one_of l.reader.indexes.now.concepts (g.S.ConceptSet.items_of l.set) (get_or l.types place 0))
