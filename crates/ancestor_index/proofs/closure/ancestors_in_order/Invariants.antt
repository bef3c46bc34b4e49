use Rattle.std.proofs.Common.{ℕ, ◌≡◌, List, length, map, take}
use Rattle.hierarchy.specs.Hierarchy.{reaches}
use Rattle.number_lists.specs.KeyedLists.{AreItemsBelow}
use Rattle.number_lists.specs.Rising.{numbers_where}
use Rattle.ancestor_index.specs.inside.Gathered.{AreRisingBelow}
use Rattle.ancestor_index.specs.inside.Parents.{AreParentsBy}
use Rattle.ancestor_index.specs.Wide.{AreWide}
use Rattle.ancestor_index.proofs.closure.ancestors_in_order.Given as goal

-- the concepts of the order before the one at hand have their lists, which rise, and whose long ones are kept as words
abbrev pub invariant-loop-concept : goal.invariant-loop-concept
invariant-loop-concept l = record {
  known : (rows : List (ℕ × ℕ)) → AreParentsBy rows l.parents l.order
      → l.lists ≡ map (λ concept. numbers_where (length l.order) (reaches rows concept)) (take l.concept-index l.order);
  items : AreItemsBelow (length l.order) l.lists;
  rising : AreRisingBelow (length l.order) l.lists;
  wide : AreWide (length l.order) l.lists l.wide.ends.items l.wide.words.items;
}
