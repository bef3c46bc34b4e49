use Rattle.std.proofs.Common.{ℕ, Bool, List, ◌≡◌, ◌<◌, ◌∙◌, All, length, sym, ap, subst, arith}
use Rattle.std.specs.Prelude.{not}
use Rattle.std.specs.List.{sum_by}
use Rattle.number_lists.specs.Rising.{IsRisingBelow}
use Rattle.reading.proofs.CountLemmas.{counted_both}
use Rattle.candidates.specs.RowCounts.{row_count_of}
use Rattle.pair_sets.proofs.RoomLemmas.{asked_fit, rows_few}
use Rattle.std.proofs.lemmas.Result.{IfOk-weaker}
use Rattle.number_lists.specs.Members.{has}
use Rattle.release_model.specs.Release.{Value}
use Rattle.candidates.specs.Numbers.{is_one_of}
use Rattle.pair_sets.specs.Tested.{passes_of}
use Rattle.candidates.specs.Within.{may_be}
use Rattle.pair_sets.proofs.AmongLemmas.{among_within}
use Rattle.pair_sets.proofs.LeafLemmas.{sources_known}
use Rattle.pair_sets.proofs.by_rows.with_pairs_among.Goals as goal

-- the numbers that are tested are those of concepts
pub concepts_among-requires-clause-concepts : goal.concepts_among-requires-clause-concepts
concepts_among-requires-clause-concepts g c =
    subst (All (λ number. number < length c.args.reader.indexes.now.concepts)) (sym c.as_slice.ensures.value)
    (subst (λ (bound : ℕ). All (λ number. number < bound) c.in_ok-asked.asked.items)
    (c.concept_count-concept_count.ensures.count ∙ ap (λ (ids : List ℕ). length ids) (sym c.args.reader.index.concepts))
    c.in_ok-asked.ensures.within)

-- the concepts that are kept are below the count of concepts
pub from_numbers-requires : goal.from_numbers-requires
from_numbers-requires g c =
    let count : length c.args.reader.indexes.now.concepts ≡ c.concept_count-concept_count.result =
    ap (λ (concepts : List ℕ). length concepts) c.args.reader.index.concepts
    ∙ sym c.concept_count-concept_count.ensures.count in
    subst (All (λ number. number < c.concept_count-concept_count.result)) (sym c.as_slice-2.ensures.value)
    (subst (λ (count : ℕ). All (λ number. number < count) c.in_ok-kept.kept.items) count c.in_ok-kept.ensures.within)

-- the concepts that are kept by their own rows are the candidates whose number of matching pairs lies in `count`
pub returns-clause-items : goal.returns-clause-items
returns-clause-items g c =
    let release = c.args.reader.snapshot.now.release in
    let indexed = c.args.reader.indexes.now in
    let one : ℕ → Bool = is_one_of indexed.concepts (g.S.ConceptSet.items_of c.args.types.now) in
    let passes : Value → Bool = passes_of g.S.ConceptSet.items_of indexed.concepts c.args.tested.now in
    let rising = c.concept_count-concept_count.ensures.rising in
    IfOk-weaker c.from_numbers.result _ _
    (λ found found_is.
    among_within indexed release c.args.reader.index rising c.args.count one passes
    (sources_known release rising c.attribute_count.ensures.by_source) c.args.back
    c.concept_count-concept_count.result c.concept_count-concept_count.ensures.count
    (may_be g.S.ConceptSet.items_of c.args.candidates.now)
    c.as_slice.result.now c.as_slice-2.result.now (g.S.ConceptSet.items_of found)
    (λ n within. ap (λ (asked : List ℕ). has asked n) c.as_slice.ensures.value ∙ c.in_ok-asked.ensures.asked n within)
    (c.as_slice-2.ensures.value
    ∙ c.in_ok-kept.ensures.kept)
    found_is)
    c.from_numbers.ensures.items

-- if memory is refused in the test, no more is counted than the candidates and their rows, or all rows
pub returns-in_err-kept-clause-counted : goal.returns-in_err-kept-clause-counted
returns-in_err-kept-clause-counted g c =
    let indexed = c.args.reader.indexes.now in
    let asked = c.in_ok-asked.asked.items in
    let rows : ℕ → ℕ = row_count_of indexed (not c.args.back) in
    counted_both c.numbers_asked.ensures.counted c.concepts_among.ensures.counted
    (omega (
      arith,
      ap (sum_by rows) c.as_slice.ensures.value,
      asked_fit g.S.ConceptSet.items_of indexed rows c.args.candidates.now asked c.in_ok-asked.ensures.items
          (rows_few indexed c.concept_count-concept_count.ensures.numbers_rise asked
          (subst (λ (bound : ℕ). IsRisingBelow bound asked) c.concept_count-concept_count.ensures.numbers
          c.in_ok-asked.ensures.rising)
          (not c.args.back)),
    ))

-- no more is counted than the candidates and their rows, or all rows
pub returns-clause-counted : goal.returns-clause-counted
returns-clause-counted g c =
    let indexed = c.args.reader.indexes.now in
    let asked = c.in_ok-asked.asked.items in
    let rows : ℕ → ℕ = row_count_of indexed (not c.args.back) in
    counted_both c.numbers_asked.ensures.counted c.concepts_among.ensures.counted
    (omega (
      arith,
      ap (sum_by rows) c.as_slice.ensures.value,
      asked_fit g.S.ConceptSet.items_of indexed rows c.args.candidates.now asked c.in_ok-asked.ensures.items
          (rows_few indexed c.concept_count-concept_count.ensures.numbers_rise asked
          (subst (λ (bound : ℕ). IsRisingBelow bound asked) c.concept_count-concept_count.ensures.numbers
          c.in_ok-asked.ensures.rising)
          (not c.args.back)),
    ))
