use Rattle.std.proofs.Common.{ℕ, List, ◌≡◌, ◌++◌, take}
use Rattle.walks.specs.inside.Joined.{AreJoined, with_length}
use Rattle.reading.specs.Counted.{CountsWithin}
use Rattle.walks.specs.Families.{items_in, lists_of}
use Rattle.walks.specs.inside.Counts.{Spends}
use Rattle.walks.proofs.walks.add_lists.Given as goal

-- the chosen lists of the concepts so far are joined to those before, and what was read for them is counted and taken
-- from the limit
abbrev pub invariant-loop-concept : goal.invariant-loop-concept
invariant-loop-concept g l = record {
  joined : (before : List ℕ)
      → AreJoined (lists_of l.reader.indexes.now.hierarchy l.family) before (g.S.ConceptSet.items_of l.initial.found)
      → AreJoined (lists_of l.reader.indexes.now.hierarchy l.family)
      (before ++ with_length (lists_of l.reader.indexes.now.hierarchy l.family) l.long
      (take l.concept-index l.concepts))
      (g.S.ConceptSet.items_of l.found);
  bound : g.S.ConceptSet.bound_of l.found ≡ g.S.ConceptSet.bound_of l.initial.found;
  counted : CountsWithin (items_in (lists_of l.reader.indexes.now.hierarchy l.family)
      (with_length (lists_of l.reader.indexes.now.hierarchy l.family) l.long (take l.concept-index l.concepts)))
      l.initial.visits l.visits;
  spends : Spends l.initial.left l.left l.initial.visits l.visits;
}
