-- What `refsets_among` has kept.
use Rattle.std.specs.Prelude.{◌≡◌, filter, take}
use Rattle.number_lists.specs.Members.{has}
use Rattle.walks.proofs.reference_sets.refsets_among.Given as goal

-- the reference sets in the set among the first `refset-index` are kept
abbrev pub invariant-loop-refset : goal.invariant-loop-refset
invariant-loop-refset g l = l.kept.items ≡ filter (has (g.S.ConceptSet.items_of l.from)) (take l.refset-index l.refsets)
