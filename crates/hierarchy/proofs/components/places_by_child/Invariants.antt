use Rattle.std.proofs.Common.{◌≡◌, length}
use Rattle.number_lists.specs.KeyedLists.{AreKeysBelow}
use Rattle.hierarchy.proofs.components.places_by_child.Given as goal

-- each row so far has a pair, whose key is below `count`
abbrev pub invariant-loop-place : goal.invariant-loop-place
invariant-loop-place l = record {
  keys : AreKeysBelow l.count l.pairs.items;
  each : length l.pairs.items ≡ l.place;
}
