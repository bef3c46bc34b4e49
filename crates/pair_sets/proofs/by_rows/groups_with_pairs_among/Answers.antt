use Rattle.std.proofs.Common.{ℕ, Bool, List, ◌<◌, ◌∙◌, All, length, sym, ap, subst, arith}
use Rattle.std.specs.List.{sum_by}
use Rattle.number_lists.specs.Rising.{IsRisingBelow}
use Rattle.reading.proofs.CountLemmas.{counted_both}
use Rattle.candidates.specs.Extents.{group_row_count}
use Rattle.pair_sets.proofs.RoomLemmas.{asked_fit, group_rows_few}
use Rattle.std.proofs.lemmas.Result.{IfOk-weaker}
use Rattle.number_lists.specs.Members.{has}
use Rattle.postings.specs.Groups.{ConceptGroup, groups_in}
use Rattle.release_model.specs.Release.{Value}
use Rattle.candidates.specs.Numbers.{is_one_of}
use Rattle.pair_sets.specs.Tested.{passes_of}
use Rattle.candidates.specs.Within.{AreBelow, may_be}
use Rattle.pair_sets.proofs.AmongLemmas.{groups_among_within}
use Rattle.candidates.proofs.GroupLemmas.{groups_are}
use Rattle.pair_sets.proofs.by_rows.groups_with_pairs_among.Goals as goal

-- the candidates are below the count of groups
pub numbers_asked-requires : goal.numbers_asked-requires
numbers_asked-requires g c =
    subst (λ (count : ℕ). AreBelow g.S.ConceptSet.bound_of count c.args.candidates.now)
    (sym (c.group_count-group_count.ensures.count
    ∙ ap (λ (groups : List ConceptGroup). length groups)
    (groups_are c.args.reader.indexes.now c.args.reader.snapshot.now.release c.args.reader.index
    c.concept_count.ensures.rising)))
    c.requires.candidates

-- the numbers that are tested are those of groups
pub groups_among-requires-clause-groups : goal.groups_among-requires-clause-groups
groups_among-requires-clause-groups g c =
    subst (All (λ number. number < length (groups_in c.args.reader.indexes.now))) (sym c.as_slice.ensures.value)
    (subst (λ (bound : ℕ). All (λ number. number < bound) c.in_ok-asked.asked.items)
    c.group_count-group_count.ensures.count c.in_ok-asked.ensures.within)

-- the groups that are kept are below the count of groups
pub from_numbers-requires : goal.from_numbers-requires
from_numbers-requires g c =
    subst (All (λ number. number < c.group_count-group_count.result)) (sym c.as_slice-2.ensures.value)
    (subst (λ (count : ℕ). All (λ number. number < count) c.in_ok-kept.kept.items)
    (sym c.group_count-group_count.ensures.count) c.in_ok-kept.ensures.within)

-- the groups that are kept by their own rows are the candidates whose number of matching pairs lies in `count`
pub returns-clause-items : goal.returns-clause-items
returns-clause-items g c =
    let release = c.args.reader.snapshot.now.release in
    let indexed = c.args.reader.indexes.now in
    let one : ℕ → Bool = is_one_of indexed.concepts (g.S.ConceptSet.items_of c.args.types.now) in
    let passes : Value → Bool = passes_of g.S.ConceptSet.items_of indexed.concepts c.args.tested.now in
    IfOk-weaker c.from_numbers.result _ _
    (λ found found_is.
    groups_among_within indexed release c.args.reader.index c.concept_count.ensures.rising c.args.count one passes
    c.group_count-group_count.result c.group_count-group_count.ensures.count
    (may_be g.S.ConceptSet.items_of c.args.candidates.now)
    c.as_slice.result.now c.as_slice-2.result.now (g.S.ConceptSet.items_of found)
    (λ n within. ap (λ (asked : List ℕ). has asked n) c.as_slice.ensures.value ∙ c.in_ok-asked.ensures.asked n within)
    (c.as_slice-2.ensures.value
    ∙ c.in_ok-kept.ensures.kept)
    found_is)
    c.from_numbers.ensures.items

-- the set that is found has the count of groups as its bound
pub returns-clause-bound : goal.returns-clause-bound
returns-clause-bound g c =
    IfOk-weaker c.from_numbers.result _ _
    (λ found bound.
    bound ∙ c.group_count-group_count.ensures.count
    ∙ ap (λ (groups : List ConceptGroup). length groups)
    (groups_are c.args.reader.indexes.now c.args.reader.snapshot.now.release c.args.reader.index
    c.concept_count.ensures.rising))
    c.from_numbers.ensures.bound

-- if memory is refused in the test, no more is counted than the candidates and their rows, or all rows
pub returns-in_err-kept-clause-counted : goal.returns-in_err-kept-clause-counted
returns-in_err-kept-clause-counted g c =
    let indexed = c.args.reader.indexes.now in
    let asked = c.in_ok-asked.asked.items in
    counted_both c.numbers_asked.ensures.counted c.groups_among.ensures.counted
    (omega (
      arith,
      ap (sum_by (group_row_count indexed)) c.as_slice.ensures.value,
      asked_fit g.S.ConceptSet.items_of indexed (group_row_count indexed) c.args.candidates.now asked
          c.in_ok-asked.ensures.items
          (group_rows_few indexed c.concept_count.ensures.numbers_rise asked
          (subst (λ (bound : ℕ). IsRisingBelow bound asked) c.group_count-group_count.ensures.count
          c.in_ok-asked.ensures.rising)),
    ))

-- no more is counted than the candidates and their rows, or all rows
pub returns-clause-counted : goal.returns-clause-counted
returns-clause-counted g c =
    let indexed = c.args.reader.indexes.now in
    let asked = c.in_ok-asked.asked.items in
    counted_both c.numbers_asked.ensures.counted c.groups_among.ensures.counted
    (omega (
      arith,
      ap (sum_by (group_row_count indexed)) c.as_slice.ensures.value,
      asked_fit g.S.ConceptSet.items_of indexed (group_row_count indexed) c.args.candidates.now asked
          c.in_ok-asked.ensures.items
          (group_rows_few indexed c.concept_count.ensures.numbers_rise asked
          (subst (λ (bound : ℕ). IsRisingBelow bound asked) c.group_count-group_count.ensures.count
          c.in_ok-asked.ensures.rising)),
    ))
