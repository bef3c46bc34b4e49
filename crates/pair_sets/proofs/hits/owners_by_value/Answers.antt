use Rattle.std.proofs.Common.{ℕ, Bool, ◌<◌, ◌∙◌, All, List, [], sym, subst, arith}
use Rattle.std.specs.Prelude.{false}
use Rattle.candidates.specs.RowCounts.{row_count_of}
use Rattle.reading.proofs.CountLemmas.{counted_all, counted_next, counted_none, counted_out, counted_some}
use Rattle.std.specs.Prelude.{slice_index}
use Rattle.std.proofs.lemmas.List.{take_all}
use Rattle.postings.specs.Entries.{entries_with_value}
use Rattle.pair_sets.specs.inside.Hits.{AreHits, is_type_in, counts_for_owner, entries_with_values, owner_count}
use Rattle.candidates.specs.Numbers.{is_one_of}
use Rattle.pair_sets.proofs.HitLemmas.{marks_below, pushed_below, hits_pushed, no_hits, owned_hits, owners_below}
use Rattle.pair_sets.proofs.HitLemmas.{owners_long}
use Rattle.pair_sets.proofs.HitLemmas.{types_long, types_told}
use Rattle.pair_sets.proofs.TypeLemmas.{type_tells}
use Rattle.pair_sets.proofs.hits.owners_by_value.Goals as goal

-- before the first value, the empty list has the hits of no rows
pub loop-value-init : goal.loop-value-init
loop-value-init g c = record {
  within = subst (All (λ number. number < owner_count c.args.owner c.args.reader.indexes.now))
      (sym c.new-hits.ensures.items)
      (λ k d within. absurd (omega (arith, within)));
  hits =
      let indexed = c.args.reader.indexes.now in
      let one : ℕ → Bool = is_one_of indexed.concepts (g.S.ConceptSet.items_of c.args.types.now) in
      subst (AreHits (owner_count c.args.owner indexed) (counts_for_owner c.args.owner indexed (λ row. one row.type_id))
      [])
      (sym c.new-hits.ensures.items)
      (no_hits (owner_count c.args.owner indexed) (counts_for_owner c.args.owner indexed (λ row. one row.type_id)));
  counted = counted_none;
}

-- there is a type for each owner in the columns of a value
pub push_typed-requires-clause-long : goal.push_typed-requires-clause-long
push_typed-requires-clause-long g c =
    let indexed = c.args.reader.indexes.now in
    let columns = c.value_columns-columns in
    let owners = c.owners_in-owners in
    owners_long c.args.owner indexed _ owners.result.now
    (owners.ensures indexed _ columns.ensures.columns.sources columns.ensures.columns.groups)
    ∙ sym (types_long indexed _ columns.result.types.now columns.ensures.columns.types)

-- the owners that are pushed for the value at hand are the hits of its rows, which are counted
pub loop-value-preserved : goal.loop-value-preserved
loop-value-preserved g c =
    let indexed = c.args.reader.indexes.now in
    let items : List ℕ = g.S.ConceptSet.items_of c.args.types.now in
    let one : ℕ → Bool = is_one_of indexed.concepts items in
    let columns = c.value_columns-columns in
    let owners = c.owners_in-owners in
    let are = owners.ensures indexed _ columns.ensures.columns.sources columns.ensures.columns.groups in
    record {
      within = pushed_below (owner_count c.args.owner indexed) c.loop-value.hits.items c.push_typed.new.hits.items _
          c.in_ok-push_typed.ensures c.loop-value.invariant.within
          (marks_below _ (owner_count c.args.owner indexed) owners.result.now columns.result.types.now
          (owners_below c.args.owner indexed _ owners.result.now are));
      hits = hits_pushed (λ number. entries_with_value indexed.rows (slice_index indexed.concepts number))
          c.args.values.now
          c.loop-value.value-index c.loop-value-test.true
          (owner_count c.args.owner indexed) (counts_for_owner c.args.owner indexed (λ row. one row.type_id))
          c.loop-value.hits.items c.push_typed.new.hits.items _ c.in_ok-push_typed.ensures c.loop-value.invariant.hits
          (owned_hits (λ row. one row.type_id) (is_type_in indexed items) _ owners.result.now columns.result.types.now
          (types_long indexed _ columns.result.types.now columns.ensures.columns.types)
          (types_told indexed _ columns.result.types.now columns.ensures.columns.types one (is_type_in indexed items)
          (type_tells indexed items))
          c.args.owner indexed c.concept_count.ensures.numbers_rise are);
      counted = counted_next (row_count_of c.args.reader.indexes.now false) c.args.values.now c.loop-value.value-index
          c.loop-value-test.true
          c.loop-value.invariant.counted (counted_out c.value_columns-columns.ensures.counted (omega arith));
    }

-- after the last value, the hits are numbers of owners
pub returns-clause-within : goal.returns-clause-within
returns-clause-within g c = c.loop-value.invariant.within

-- after the last value, the list has the hits of the rows of all values
pub returns-clause-hits : goal.returns-clause-hits
returns-clause-hits g c =
    let indexed = c.args.reader.indexes.now in
    let one : ℕ → Bool = is_one_of indexed.concepts (g.S.ConceptSet.items_of c.args.types.now) in
    subst (λ (values : List ℕ). AreHits (owner_count c.args.owner indexed)
    (counts_for_owner c.args.owner indexed (λ row. one row.type_id))
    (entries_with_values indexed values) c.loop-value.hits.items)
    (take_all c.loop-value.value-index c.args.values.now (omega arith)) c.loop-value.invariant.hits

-- if memory is refused at a value, the rows up to its own are counted
pub returns-in_err-push_typed-clause-counted : goal.returns-in_err-push_typed-clause-counted
returns-in_err-push_typed-clause-counted g c =
    counted_some (row_count_of c.args.reader.indexes.now false) c.args.values.now c.loop-value.value-index
    c.loop-value-test.true
    c.loop-value.invariant.counted (counted_out c.value_columns-columns.ensures.counted (omega arith))

-- after the last value, the rows of all are counted
pub returns-clause-counted : goal.returns-clause-counted
returns-clause-counted g c =
    counted_all (row_count_of c.args.reader.indexes.now false) c.args.values.now c.loop-value.value-index
    c.loop-value.invariant.counted
