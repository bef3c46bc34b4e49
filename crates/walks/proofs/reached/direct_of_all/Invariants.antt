use Rattle.std.proofs.Common.{◌≡◌, take}
use Rattle.number_lists.specs.Rising.{numbers_where}
use Rattle.idset.specs.Words.{is_set}
use Rattle.walks.specs.inside.Joined.{AreJoined, direct_of}
use Rattle.walks.specs.Families.{lists_of}
use Rattle.walks.proofs.reached.direct_of_all.Given as goal

-- `found` joins the direct lists of the concepts so far
abbrev pub invariant-loop-concept : goal.invariant-loop-concept
invariant-loop-concept l = record {
  joined : AreJoined (lists_of l.reader.indexes.now.hierarchy (direct_of l.fn._family))
      (take l.concept-index l.concepts) (numbers_where l.found.bound (is_set l.found.words.items));
  bound : l.found.bound ≡ l.count;
}
