use Rattle.std.proofs.Common.{◌≡◌, ◌∷◌, take}
use Rattle.std.specs.List.{flat_map}
use Rattle.number_lists.specs.KeyedLists.{list_of}
use Rattle.reading.specs.Counted.{CountsWithin}
use Rattle.walks.specs.Families.{items_in, lists_of}
use Rattle.walks.proofs.related.with_lists.Given as goal

-- `numbers` are the concepts so far, each followed by its list, and these lists are counted
abbrev pub invariant-loop-concept : goal.invariant-loop-concept
invariant-loop-concept l = record {
  numbers : l.numbers.items
      ≡ flat_map (λ concept. concept ∷ list_of (lists_of l.reader.indexes.now.hierarchy l.family) concept)
      (take l.concept-index l.concepts);
  counted : CountsWithin (items_in (lists_of l.reader.indexes.now.hierarchy l.family) (take l.concept-index l.concepts))
      l.initial.visits l.visits;
}
