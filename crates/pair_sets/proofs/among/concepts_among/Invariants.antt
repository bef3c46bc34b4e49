use Rattle.std.proofs.Common.{◌≡◌, ◌<◌, All, length, take}
use Rattle.std.specs.Prelude.{filter, not}
use Rattle.std.specs.List.{sum_by}
use Rattle.reading.specs.Counted.{CountsWithin}
use Rattle.candidates.specs.RowCounts.{row_count_of}
use Rattle.constraint_tree.specs.Passing.{lies_in}
use Rattle.pair_sets.specs.inside.Among.{pairs_of_concept}
use Rattle.candidates.specs.Numbers.{is_one_of}
use Rattle.pair_sets.specs.Tested.{passes_of}
use Rattle.pair_sets.proofs.among.concepts_among.Given as goal

-- `kept` are the concepts so far whose number of pairs lies in `count`, and the rows of the concepts so far are counted
abbrev pub invariant-loop-concept : goal.invariant-loop-concept
invariant-loop-concept g l = record {
  within : All (λ number. number < length l.reader.indexes.now.concepts) l.kept.items;
  kept : l.kept.items ≡ filter
      (λ number. lies_in l.count (pairs_of_concept l.reader.indexes.now l.back
      (is_one_of l.reader.indexes.now.concepts (g.S.ConceptSet.items_of l.types))
      (passes_of g.S.ConceptSet.items_of l.reader.indexes.now.concepts l.tested) number))
      (take l.concept-index l.concepts);
  counted : CountsWithin (sum_by (row_count_of l.reader.indexes.now (not l.back)) (take l.concept-index l.concepts))
      l.initial.visits l.visits;
}
