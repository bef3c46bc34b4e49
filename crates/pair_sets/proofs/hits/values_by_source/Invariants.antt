use Rattle.std.proofs.Common.{◌<◌, All, length, take}
use Rattle.std.specs.List.{sum_by}
use Rattle.reading.specs.Counted.{CountsWithin}
use Rattle.std.specs.Prelude.{true}
use Rattle.candidates.specs.RowCounts.{row_count_of}
use Rattle.pair_sets.specs.inside.Hits.{AreHits, counts_for_value, entries_with_sources}
use Rattle.candidates.specs.Numbers.{is_one_of}
use Rattle.pair_sets.proofs.hits.values_by_source.Given as goal

-- `hits` has the hits of the rows of the sources so far, which are counted
abbrev pub invariant-loop-source : goal.invariant-loop-source
invariant-loop-source g l = record {
  within : All (λ number. number < length l.reader.indexes.now.concepts) l.hits.items;
  hits : AreHits (length l.reader.indexes.now.concepts)
      (counts_for_value l.reader.indexes.now.concepts
      (λ row. is_one_of l.reader.indexes.now.concepts (g.S.ConceptSet.items_of l.types) row.type_id))
      (entries_with_sources l.reader.indexes.now (take l.source-index l.sources)) l.hits.items;
  counted : CountsWithin (sum_by (row_count_of l.reader.indexes.now true) (take l.source-index l.sources))
      l.initial.visits l.visits;
}
