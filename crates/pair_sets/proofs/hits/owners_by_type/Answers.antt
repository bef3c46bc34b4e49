use Rattle.std.proofs.Common.{ℕ, Bool, ◌<◌, ◌∙◌, All, List, [], sym, subst, arith}
use Rattle.postings.specs.Stats.{type_row_count}
use Rattle.reading.proofs.CountLemmas.{counted_all, counted_next, counted_none, counted_out, counted_some}
use Rattle.std.proofs.lemmas.List.{take_all}
use Rattle.postings.specs.Entries.{entries_with_type}
use Rattle.release_model.specs.Release.{Value}
use Rattle.pair_sets.specs.inside.Hits.{AreHits, value_of, counts_for_owner, entries_with_types, owner_count}
use Rattle.pair_sets.specs.Tested.{passes_of}
use Rattle.pair_sets.proofs.HitLemmas.{marks_below, pushed_below, hits_pushed, no_hits, owned_hits, owners_below}
use Rattle.pair_sets.proofs.HitLemmas.{owners_long}
use Rattle.pair_sets.proofs.HitLemmas.{values_long, values_told}
use Rattle.pair_sets.proofs.VainLemmas.{none_kept}
use Rattle.pair_sets.proofs.hits.owners_by_type.Goals as goal

-- before the first type, the empty list has the hits of no rows
pub loop-id-init : goal.loop-id-init
loop-id-init g c = record {
  within = subst (All (λ number. number < owner_count c.args.owner c.args.reader.indexes.now))
      (sym c.in_ok-hits.ensures.items)
      (λ k d within. absurd (omega (arith, within)));
  hits =
      let indexed = c.args.reader.indexes.now in
      let passes : Value → Bool = passes_of g.S.ConceptSet.items_of indexed.concepts c.args.tested.now in
      subst (AreHits (owner_count c.args.owner indexed)
      (counts_for_owner c.args.owner indexed (λ row. passes row.value)) [])
      (sym c.in_ok-hits.ensures.items)
      (no_hits (owner_count c.args.owner indexed) (counts_for_owner c.args.owner indexed (λ row. passes row.value)));
  counted = counted_none;
}

-- if no row has a value that passes, the empty list has the hits of all types
pub returns-then-none_passes-clause-hits : goal.returns-then-none_passes-clause-hits
returns-then-none_passes-clause-hits g c =
    let indexed = c.args.reader.indexes.now in
    let passes : Value → Bool = passes_of g.S.ConceptSet.items_of indexed.concepts c.args.tested.now in
    let counts = counts_for_owner c.args.owner indexed (λ row. passes row.value) in
    subst (AreHits (owner_count c.args.owner indexed) counts (entries_with_types indexed.rows c.args.ids.now))
    (sym c.new.ensures.items)
    (none_kept c.args.owner indexed (λ row. passes row.value) c.args.ids.now (owner_count c.args.owner indexed)
    (c.none_passes.ensures c.if-none_passes.true))

-- there is a value for each owner in the columns of a type
pub push_passing-requires-clause-long : goal.push_passing-requires-clause-long
push_passing-requires-clause-long g c =
    let indexed = c.args.reader.indexes.now in
    let columns = c.type_columns-columns in
    let owners = c.owners_in-owners in
    owners_long c.args.owner indexed _ owners.result.now
    (owners.ensures indexed _ columns.ensures.columns.sources columns.ensures.columns.groups)
    ∙ sym (values_long indexed _ columns.result.values.now columns.ensures.columns.values)

-- the owners that are pushed for the type at hand are the hits of its rows, which are counted
pub loop-id-preserved : goal.loop-id-preserved
loop-id-preserved g c =
    let indexed = c.args.reader.indexes.now in
    let passes : Value → Bool = passes_of g.S.ConceptSet.items_of indexed.concepts c.args.tested.now in
    let columns = c.type_columns-columns in
    let owners = c.owners_in-owners in
    let are = owners.ensures indexed _ columns.ensures.columns.sources columns.ensures.columns.groups in
    record {
      within = pushed_below (owner_count c.args.owner indexed) c.loop-id.hits.items c.push_passing.new.hits.items _
          c.in_ok-push_passing.ensures c.loop-id.invariant.within
          (marks_below _ (owner_count c.args.owner indexed) owners.result.now columns.result.values.now
          (owners_below c.args.owner indexed _ owners.result.now are));
      hits = hits_pushed (entries_with_type indexed.rows) c.args.ids.now c.loop-id.id-index c.loop-id-test.true
          (owner_count c.args.owner indexed) (counts_for_owner c.args.owner indexed (λ row. passes row.value))
          c.loop-id.hits.items c.push_passing.new.hits.items _ c.in_ok-push_passing.ensures c.loop-id.invariant.hits
          (owned_hits (λ row. passes row.value) (λ n. passes (value_of indexed n)) _ owners.result.now
          columns.result.values.now
          (values_long indexed _ columns.result.values.now columns.ensures.columns.values)
          (values_told indexed _ columns.result.values.now columns.ensures.columns.values passes)
          c.args.owner indexed c.concept_count.ensures.numbers_rise are);
      counted = counted_next (type_row_count c.args.reader.indexes.now) c.args.ids.now c.loop-id.id-index
          c.loop-id-test.true
          c.loop-id.invariant.counted (counted_out c.type_columns-columns.ensures.counted (omega arith));
    }

-- after the last type, the hits are numbers of owners
pub returns-clause-within : goal.returns-clause-within
returns-clause-within g c = c.loop-id.invariant.within

-- after the last type, the list has the hits of the rows of all types
pub returns-clause-hits : goal.returns-clause-hits
returns-clause-hits g c =
    let indexed = c.args.reader.indexes.now in
    let passes : Value → Bool = passes_of g.S.ConceptSet.items_of indexed.concepts c.args.tested.now in
    subst (λ (ids : List ℕ). AreHits (owner_count c.args.owner indexed)
    (counts_for_owner c.args.owner indexed (λ row. passes row.value))
    (entries_with_types indexed.rows ids) c.loop-id.hits.items)
    (take_all c.loop-id.id-index c.args.ids.now (omega arith)) c.loop-id.invariant.hits

-- if memory is refused at a type, the rows up to its own are counted
pub returns-in_err-push_passing-clause-counted : goal.returns-in_err-push_passing-clause-counted
returns-in_err-push_passing-clause-counted g c =
    counted_some (type_row_count c.args.reader.indexes.now) c.args.ids.now c.loop-id.id-index c.loop-id-test.true
    c.loop-id.invariant.counted (counted_out c.type_columns-columns.ensures.counted (omega arith))

-- after the last type, the rows of all are counted
pub returns-clause-counted : goal.returns-clause-counted
returns-clause-counted g c =
    counted_all (type_row_count c.args.reader.indexes.now) c.args.ids.now c.loop-id.id-index c.loop-id.invariant.counted
