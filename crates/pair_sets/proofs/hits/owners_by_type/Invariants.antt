use Rattle.std.proofs.Common.{◌<◌, All, take}
use Rattle.std.specs.List.{sum_by}
use Rattle.reading.specs.Counted.{CountsWithin}
use Rattle.postings.specs.Stats.{type_row_count}
use Rattle.pair_sets.specs.inside.Hits.{AreHits, counts_for_owner, entries_with_types, owner_count}
use Rattle.pair_sets.specs.Tested.{passes_of}
use Rattle.pair_sets.proofs.hits.owners_by_type.Given as goal

-- `hits` has the hits of the rows of the types so far, which are counted
abbrev pub invariant-loop-id : goal.invariant-loop-id
invariant-loop-id g l = record {
  within : All (λ number. number < owner_count l.owner l.reader.indexes.now) l.hits.items;
  hits : AreHits (owner_count l.owner l.reader.indexes.now)
      (counts_for_owner l.owner l.reader.indexes.now
      (λ row. passes_of g.S.ConceptSet.items_of l.reader.indexes.now.concepts l.tested row.value))
      (entries_with_types l.reader.indexes.now.rows (take l.id-index l.ids)) l.hits.items;
  counted : CountsWithin (sum_by (type_row_count l.reader.indexes.now) (take l.id-index l.ids)) l.initial.visits
      l.visits;
}
