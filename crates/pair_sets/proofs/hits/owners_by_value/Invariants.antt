use Rattle.std.proofs.Common.{◌<◌, All, take}
use Rattle.std.specs.List.{sum_by}
use Rattle.reading.specs.Counted.{CountsWithin}
use Rattle.std.specs.Prelude.{false}
use Rattle.candidates.specs.RowCounts.{row_count_of}
use Rattle.pair_sets.specs.inside.Hits.{AreHits, counts_for_owner, entries_with_values, owner_count}
use Rattle.candidates.specs.Numbers.{is_one_of}
use Rattle.pair_sets.proofs.hits.owners_by_value.Given as goal

-- `hits` has the hits of the rows of the values so far, which are counted
abbrev pub invariant-loop-value : goal.invariant-loop-value
invariant-loop-value g l = record {
  within : All (λ number. number < owner_count l.owner l.reader.indexes.now) l.hits.items;
  hits : AreHits (owner_count l.owner l.reader.indexes.now)
      (counts_for_owner l.owner l.reader.indexes.now
      (λ row. is_one_of l.reader.indexes.now.concepts (g.S.ConceptSet.items_of l.types) row.type_id))
      (entries_with_values l.reader.indexes.now (take l.value-index l.values)) l.hits.items;
  counted : CountsWithin (sum_by (row_count_of l.reader.indexes.now false) (take l.value-index l.values))
      l.initial.visits l.visits;
}
