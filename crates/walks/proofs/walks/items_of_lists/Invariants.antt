use Rattle.std.proofs.Common.{◌≡◌, take}
use Rattle.reading.specs.Counted.{full}
use Rattle.walks.specs.Families.{items_in, lists_of}
use Rattle.walks.proofs.walks.items_of_lists.Given as goal

-- `items` is how many items the lists of the concepts so far have, saturated
abbrev pub invariant-loop-concept : goal.invariant-loop-concept
invariant-loop-concept l =
    l.items ≡ full (items_in (lists_of l.reader.indexes.now.hierarchy l.family) (take l.concept-index l.concepts))
