use Rattle.std.proofs.Common.{ℕ, Bool, refl, ◌<◌, ◌∙◌, All, List, [], length, sym, subst, arith}
use Rattle.postings.specs.Stats.{type_row_count}
use Rattle.reading.proofs.CountLemmas.{counted_all, counted_next, counted_none, counted_out, counted_some}
use Rattle.std.proofs.lemmas.List.{take_all}
use Rattle.postings.specs.Entries.{entries_with_type}
use Rattle.release_model.specs.Release.{concept_value}
use Rattle.release_model.specs.Release.{Value}
use Rattle.pair_sets.specs.inside.Hits.{AreHits, counts_for_value, entries_with_types}
use Rattle.pair_sets.specs.Tested.{passes_of}
use Rattle.pair_sets.proofs.HitLemmas.{cells_below, pushed_below, backward_hits, hits_pushed, no_hits}
use Rattle.pair_sets.proofs.HitLemmas.{sources_long, values_long}
use Rattle.pair_sets.proofs.VainLemmas.{none_kept_back}
use Rattle.pair_sets.proofs.hits.values_by_type.Goals as goal

-- before the first type, the empty list has the hits of no rows
pub loop-id-init : goal.loop-id-init
loop-id-init g c = record {
  within = subst (All (λ number. number < length c.args.reader.indexes.now.concepts)) (sym c.in_ok-hits.ensures.items)
      (λ k d within. absurd (omega (arith, within)));
  hits =
      let passes : Value → Bool =
      passes_of g.S.ConceptSet.items_of c.args.reader.indexes.now.concepts c.args.tested.now in
      subst (AreHits (length c.args.reader.indexes.now.concepts)
      (counts_for_value c.args.reader.indexes.now.concepts (λ row. passes (concept_value row.source))) [])
      (sym c.in_ok-hits.ensures.items)
      (no_hits (length c.args.reader.indexes.now.concepts)
      (counts_for_value c.args.reader.indexes.now.concepts (λ row. passes (concept_value row.source))));
  counted = counted_none;
}

-- no source is a number, so the empty list has the hits of all types
pub returns-then-asks_for_number-clause-hits : goal.returns-then-asks_for_number-clause-hits
returns-then-asks_for_number-clause-hits g c =
    let indexed = c.args.reader.indexes.now in
    let passes : Value → Bool = passes_of g.S.ConceptSet.items_of indexed.concepts c.args.tested.now in
    let counts = counts_for_value indexed.concepts (λ row. passes (concept_value row.source)) in
    subst (AreHits (length indexed.concepts) counts (entries_with_types indexed.rows c.args.ids.now))
    (sym c.new.ensures.items)
    (none_kept_back indexed (λ row. passes (concept_value row.source)) c.args.ids.now (length indexed.concepts)
    (λ row. c.asks_for_number.ensures c.if-asks_for_number.true indexed.concepts row.source))

-- there is a value for each source in the columns of a type
pub push_cells-requires-clause-long : goal.push_cells-requires-clause-long
push_cells-requires-clause-long g c =
    let indexed = c.args.reader.indexes.now in
    let columns = c.type_columns-columns in
    sources_long indexed.concepts _ columns.result.sources.now columns.ensures.columns.sources
    ∙ sym (values_long indexed _ columns.result.values.now columns.ensures.columns.values)

-- the values that are pushed for the type at hand are the hits of its rows, which are counted
pub loop-id-preserved : goal.loop-id-preserved
loop-id-preserved g c = record {
  within = pushed_below (length c.args.reader.indexes.now.concepts) c.loop-id.hits.items c.push_cells.new.hits.items _
      c.in_ok-push_cells.ensures
      c.loop-id.invariant.within
      (cells_below _ _ c.type_columns-columns.result.sources.now c.type_columns-columns.result.values.now);
  hits =
      let passes : Value → Bool =
      passes_of g.S.ConceptSet.items_of c.args.reader.indexes.now.concepts c.args.tested.now in
      let indexed = c.args.reader.indexes.now in
      let columns = c.type_columns-columns in
      hits_pushed (entries_with_type indexed.rows) c.args.ids.now c.loop-id.id-index c.loop-id-test.true
      (length indexed.concepts) (counts_for_value indexed.concepts (λ row. passes (concept_value row.source)))
      c.loop-id.hits.items c.push_cells.new.hits.items _ c.in_ok-push_cells.ensures c.loop-id.invariant.hits
      (backward_hits indexed passes c.concept_count.ensures.numbers_rise _ columns.result.sources.now
      columns.result.values.now columns.ensures.columns.values columns.ensures.columns.sources (length indexed.concepts)
      refl);
  counted = counted_next (type_row_count c.args.reader.indexes.now) c.args.ids.now c.loop-id.id-index
      c.loop-id-test.true
      c.loop-id.invariant.counted (counted_out c.type_columns-columns.ensures.counted (omega arith));
}

-- after the last type, the hits are numbers of concepts
pub returns-clause-within : goal.returns-clause-within
returns-clause-within g c = c.loop-id.invariant.within

-- after the last type, the list has the hits of the rows of all types
pub returns-clause-hits : goal.returns-clause-hits
returns-clause-hits g c =
    let passes : Value → Bool =
    passes_of g.S.ConceptSet.items_of c.args.reader.indexes.now.concepts c.args.tested.now in
    subst (λ (ids : List ℕ). AreHits (length c.args.reader.indexes.now.concepts)
    (counts_for_value c.args.reader.indexes.now.concepts (λ row. passes (concept_value row.source)))
    (entries_with_types c.args.reader.indexes.now.rows ids) c.loop-id.hits.items)
    (take_all c.loop-id.id-index c.args.ids.now (omega arith)) c.loop-id.invariant.hits

-- if memory is refused at a type, the rows up to its own are counted
pub returns-in_err-push_cells-clause-counted : goal.returns-in_err-push_cells-clause-counted
returns-in_err-push_cells-clause-counted g c =
    counted_some (type_row_count c.args.reader.indexes.now) c.args.ids.now c.loop-id.id-index c.loop-id-test.true
    c.loop-id.invariant.counted (counted_out c.type_columns-columns.ensures.counted (omega arith))

-- after the last type, the rows of all are counted
pub returns-clause-counted : goal.returns-clause-counted
returns-clause-counted g c =
    counted_all (type_row_count c.args.reader.indexes.now) c.args.ids.now c.loop-id.id-index c.loop-id.invariant.counted
