use Rattle.std.proofs.Common.{ℕ, Bool, List, ◌∙◌, length, ap, arith}
use Rattle.std.proofs.lemmas.Result.{IfOk-weaker}
use Rattle.number_lists.specs.Members.{times}
use Rattle.release_model.specs.Release.{Value}
use Rattle.pair_sets.specs.Tested.{passes_of}
use Rattle.pair_sets.proofs.LeafLemmas.{concepts_found, sources_known}
use Rattle.pair_sets.proofs.by_rows.with_pairs_by_type.Goals as goal

-- the concepts that have hits by type as often as `count` asks are the concepts whose number of matching pairs lies in
-- `count`
pub returns-clause-items : goal.returns-clause-items
returns-clause-items g c =
    let release = c.args.reader.snapshot.now.release in
    let indexed = c.args.reader.indexes.now in
    let passes : Value → Bool = passes_of g.S.ConceptSet.items_of indexed.concepts c.args.tested.now in
    IfOk-weaker c.as_often.result _ _
    (λ found found_is one ids.
    concepts_found indexed release c.args.reader.index c.concept_count.ensures.rising one passes
    (sources_known release c.concept_count.ensures.rising c.attribute_count.ensures.by_source) c.args.back
    c.args.count c.concept_count.result c.concept_count.ensures.count
    c.as_slice.result.now (g.S.ConceptSet.items_of found)
    (λ n within.
    ap (times n) c.as_slice.ensures.value
    ∙ (c.in_ok-hits.ensures.hits one ids).times n
    (omega (
      arith,
      within,
      c.concept_count.ensures.count,
      ap (λ (ids : List ℕ). length ids)
          c.args.reader.index.concepts,
    )))
    found_is)
    c.as_often.ensures.items
