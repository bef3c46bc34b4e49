use Rattle.std.proofs.Common.{◌<◌, All, length, take}
use Rattle.std.specs.List.{sum_by}
use Rattle.reading.specs.Counted.{CountsWithin}
use Rattle.postings.specs.Stats.{type_row_count}
use Rattle.release_model.specs.Release.{concept_value}
use Rattle.pair_sets.specs.inside.Hits.{AreHits, counts_for_value, entries_with_types}
use Rattle.pair_sets.specs.Tested.{passes_of}
use Rattle.pair_sets.proofs.hits.values_by_type.Given as goal

-- `hits` has the hits of the rows of the types so far, which are counted
abbrev pub invariant-loop-id : goal.invariant-loop-id
invariant-loop-id g l = record {
  within : All (λ number. number < length l.reader.indexes.now.concepts) l.hits.items;
  hits : AreHits (length l.reader.indexes.now.concepts)
      (counts_for_value l.reader.indexes.now.concepts
      (λ row. passes_of g.S.ConceptSet.items_of l.reader.indexes.now.concepts l.tested
      (concept_value row.source)))
      (entries_with_types l.reader.indexes.now.rows (take l.id-index l.ids)) l.hits.items;
  counted : CountsWithin (sum_by (type_row_count l.reader.indexes.now) (take l.id-index l.ids)) l.initial.visits
      l.visits;
}
