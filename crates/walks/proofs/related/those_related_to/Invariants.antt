use Rattle.std.proofs.Common.{◌≡◌, take}
use Rattle.std.specs.Prelude.{filter}
use Rattle.number_lists.specs.Members.{has}
use Rattle.reading.specs.Counted.{CountsWithin}
use Rattle.walks.specs.inside.Steps.{asked_of, stepped}
use Rattle.walks.specs.Families.{items_in, lists_of}
use Rattle.walks.proofs.related.those_related_to.Given as goal

-- `kept` are the concepts so far that the step leads to, and the lists of the concepts so far are counted
abbrev pub invariant-loop-concept : goal.invariant-loop-concept
invariant-loop-concept g l = record {
  kept : l.kept.items
      ≡ filter (has (stepped (lists_of l.reader.indexes.now.hierarchy l.step.family) (g.S.ConceptSet.bound_of l.operand)
      l.step.reach (g.S.ConceptSet.items_of l.operand))) (take l.concept-index l.concepts);
  counted : CountsWithin (items_in (lists_of l.reader.indexes.now.hierarchy (asked_of l.step))
      (take l.concept-index l.concepts))
      l.initial.visits l.visits;
}
