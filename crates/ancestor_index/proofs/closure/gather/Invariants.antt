use Rattle.std.proofs.Common.{◌≡◌, ◌<◌, take}
use Rattle.std.specs.Prelude.{All, IfSome}
use Rattle.ancestor_index.specs.inside.Gathered.{AreGathered, gathered_by}
use Rattle.ancestor_index.proofs.closure.gather.Given as goal

-- list and set together hold what is gathered for the concepts so far
abbrev pub invariant-loop-concept : goal.invariant-loop-concept
invariant-loop-concept g l = record {
  gathered : AreGathered g.S.ConceptSet.items_of l.count
      (gathered_by l.places l.lists (take l.concept-index l.concepts)) l.list.items l.joined;
  below : All (λ item. item < l.count) l.list.items;
  bound : IfSome l.joined (λ set. g.S.ConceptSet.bound_of set ≡ l.count);
}
