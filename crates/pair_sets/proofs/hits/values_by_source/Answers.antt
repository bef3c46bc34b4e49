use Rattle.std.proofs.Common.{ℕ, Bool, List, ◌<◌, ◌+◌, ◌==◌, ◌∙◌, All, [], length, get_or, sym, ap, subst, arith}
use Rattle.std.specs.Prelude.{true}
use Rattle.candidates.specs.RowCounts.{row_count_of}
use Rattle.reading.proofs.CountLemmas.{counted_all, counted_next, counted_none, counted_out, counted_some}
use Rattle.std.specs.Prelude.{count_by, slice_get, slice_index}
use Rattle.std.proofs.lemmas.List.{take_all}
use Rattle.release_model.specs.Release.{Attribute}
use Rattle.postings.specs.Entries.{entries_of, entries_where}
use Rattle.postings.proofs.PlaceLemmas.{places_where-within}
use Rattle.pair_sets.specs.inside.Among.{at_entry}
use Rattle.number_lists.specs.Members.{times}
use Rattle.pair_sets.specs.inside.Hits.{AreHits, counts_for_value, entries_with_sources}
use Rattle.pair_sets.proofs.BackLemmas.{source_counted}
use Rattle.candidates.specs.Numbers.{is_one_of}
use Rattle.pair_sets.proofs.HitLemmas.{hits_counted, no_hits}
use Rattle.pair_sets.proofs.hits.values_by_source.Goals as goal

-- before the first source, the empty list has the hits of no rows
pub loop-source-init : goal.loop-source-init
loop-source-init g c = record {
  within = subst (All (λ number. number < length c.args.reader.indexes.now.concepts)) (sym c.new-hits.ensures.items)
      (λ k d within. absurd (omega (arith, within)));
  hits =
      let one : ℕ → Bool = is_one_of c.args.reader.indexes.now.concepts (g.S.ConceptSet.items_of c.args.types.now) in
      subst (AreHits (length c.args.reader.indexes.now.concepts)
      (counts_for_value c.args.reader.indexes.now.concepts (λ row. one row.type_id)) [])
      (sym c.new-hits.ensures.items)
      (no_hits (length c.args.reader.indexes.now.concepts)
      (counts_for_value c.args.reader.indexes.now.concepts (λ row. one row.type_id)));
  counted = counted_none;
}

-- the rows of the source at hand are numbers of rows
pub push_values-requires-clause-rows : goal.push_values-requires-clause-rows
push_values-requires-clause-rows g c =
    subst (All (λ n. n < length c.args.reader.indexes.now.rows)) (sym c.rows_of-rows.ensures.items)
    (places_where-within (λ (row : Attribute). row.source == get_or c.args.reader.indexes.now.concepts
    (get_or c.args.sources.now c.loop-source.source-index 0) 0) c.args.reader.indexes.now.rows)

-- the values that are pushed for the source at hand are the hits of its rows, which are counted
pub loop-source-preserved : goal.loop-source-preserved
loop-source-preserved g c =
    let indexed = c.args.reader.indexes.now in
    let source : ℕ = get_or c.args.sources.now c.loop-source.source-index 0 in
    let below = c.in_ok-push_values.ensures.within c.loop-source.invariant.within in
    record {
      within = below;
      hits =
          let one : ℕ → Bool = is_one_of c.args.reader.indexes.now.concepts
          (g.S.ConceptSet.items_of c.args.types.now) in
          hits_counted (λ number. entries_where (λ row. row.source == slice_index indexed.concepts number) indexed.rows)
          c.args.sources.now
          c.loop-source.source-index c.loop-source-test.true
          (length indexed.concepts) (counts_for_value indexed.concepts (λ row. one row.type_id))
          c.loop-source.hits.items c.push_values.new.hits.items below
          (λ number inside.
          c.in_ok-push_values.ensures.times number inside
          ∙ ap (λ (rows : List ℕ). times number c.loop-source.hits.items
          + count_by (λ n. at_entry (counts_for_value indexed.concepts (λ row. one row.type_id) number)
          (slice_get (entries_of indexed.rows) n)) rows)
          c.rows_of-rows.ensures.items
          ∙ ap (λ (more : ℕ). times number c.loop-source.hits.items + more) (source_counted indexed one source number))
          c.loop-source.invariant.hits;
      counted = counted_next (row_count_of c.args.reader.indexes.now true) c.args.sources.now c.loop-source.source-index
          c.loop-source-test.true
          c.loop-source.invariant.counted (counted_out c.rows_of-rows.ensures.counted (omega arith));
    }

-- after the last source, the hits are numbers of concepts
pub returns-clause-within : goal.returns-clause-within
returns-clause-within g c = c.loop-source.invariant.within

-- after the last source, the list has the hits of the rows of all sources
pub returns-clause-hits : goal.returns-clause-hits
returns-clause-hits g c =
    let one : ℕ → Bool = is_one_of c.args.reader.indexes.now.concepts (g.S.ConceptSet.items_of c.args.types.now) in
    subst (λ (sources : List ℕ). AreHits (length c.args.reader.indexes.now.concepts)
    (counts_for_value c.args.reader.indexes.now.concepts (λ row. one row.type_id))
    (entries_with_sources c.args.reader.indexes.now sources) c.loop-source.hits.items)
    (take_all c.loop-source.source-index c.args.sources.now (omega arith)) c.loop-source.invariant.hits

-- if memory is refused at a source, the rows up to its own are counted
pub returns-in_err-push_values-clause-counted : goal.returns-in_err-push_values-clause-counted
returns-in_err-push_values-clause-counted g c =
    counted_some (row_count_of c.args.reader.indexes.now true) c.args.sources.now c.loop-source.source-index
    c.loop-source-test.true
    c.loop-source.invariant.counted (counted_out c.rows_of-rows.ensures.counted (omega arith))

-- after the last source, the rows of all are counted
pub returns-clause-counted : goal.returns-clause-counted
returns-clause-counted g c =
    counted_all (row_count_of c.args.reader.indexes.now true) c.args.sources.now c.loop-source.source-index
    c.loop-source.invariant.counted
