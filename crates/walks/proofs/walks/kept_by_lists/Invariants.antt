use Rattle.std.proofs.Common.{◌≡◌, not, take}
use Rattle.std.specs.Prelude.{filter}
use Rattle.std.specs.List.{list_any}
use Rattle.number_lists.specs.Members.{has}
use Rattle.number_lists.specs.KeyedLists.{list_of}
use Rattle.reading.specs.Counted.{CountsWithin}
use Rattle.walks.specs.Families.{items_in, lists_of}
use Rattle.walks.proofs.walks.kept_by_lists.Given as goal

-- `kept` are the concepts so far whose list has none of the set, and the lists of the concepts so far are counted
abbrev pub invariant-loop-concept : goal.invariant-loop-concept
invariant-loop-concept g l = record {
  kept : l.kept.items
      ≡ filter (λ concept. not (list_any (has (g.S.ConceptSet.items_of l.set))
      (list_of (lists_of l.reader.indexes.now.hierarchy l.family) concept))) (take l.concept-index l.concepts);
  counted : CountsWithin (items_in (lists_of l.reader.indexes.now.hierarchy l.family) (take l.concept-index l.concepts))
      l.initial.visits l.visits;
}
