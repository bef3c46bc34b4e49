use Rattle.std.proofs.Common.{ℕ, List, ◌<◌, ◌∙◌, All, length, sym, ap, subst, arith}
use Rattle.std.specs.List.{sum_by}
use Rattle.std.proofs.lemmas.Result.{IfOk-weaker}
use Rattle.number_lists.specs.Members.{has}
use Rattle.number_lists.specs.Rising.{numbers_where}
use Rattle.postings.specs.Groups.{ConceptGroup, groups_in}
use Rattle.number_lists.proofs.RisingLemmas.{all_below}
use Rattle.candidates.proofs.GroupLemmas.{groups_are}
use Rattle.candidates.specs.Extents.{group_count_of}
use Rattle.candidates.proofs.SumLemmas.{listed_few}
use Rattle.pair_sets.proofs.OwnedLemmas.{owned}
use Rattle.pair_sets.proofs.units.groups_of.Goals as goal

-- the items of the set are numbers of concepts
pub numbers_of_groups-requires : goal.numbers_of_groups-requires
numbers_of_groups-requires g c =
    let items = g.S.ConceptSet.items_of c.args.concepts.now in
    subst (All (λ number. number < length c.args.reader.indexes.now.concepts))
    (sym (c.as_slice.ensures.value ∙ c.in_ok-own.ensures.items))
    (subst (λ (bound : ℕ). All (λ number. number < bound) items)
    (c.requires.bound ∙ ap (λ (ids : List ℕ). length ids) (sym c.args.reader.index.concepts))
    (all_below (g.S.ConceptSet.bound_of c.args.concepts.now) items (g.met.S.ConceptSet.rising c.args.concepts.now)))

-- the ranges of the groups of each concept have all groups of the concepts
pub returns-clause-groups : goal.returns-clause-groups
returns-clause-groups g c =
    IfOk-weaker c.from_numbers.result _ _
    (λ groups listed.
    owned c.args.reader.indexes.now c.args.reader.snapshot.now.release c.args.reader.index
    c.concept_count.ensures.rising
    (g.S.ConceptSet.items_of c.args.concepts.now) c.in_ok-numbers.numbers.items
    (λ concept group is_item. c.in_ok-numbers.ensures.all concept group
    (ap (λ (xs : List ℕ). has xs concept) (c.as_slice.ensures.value ∙ c.in_ok-own.ensures.items) ∙ is_item))
    (g.S.ConceptSet.items_of groups)
    (listed
    ∙ ap (λ (bound : ℕ). numbers_where bound (has c.as_slice-2.result.now)) c.group_count.ensures.count
    ∙ ap (λ (xs : List ℕ). numbers_where (length (groups_in c.args.reader.indexes.now)) (has xs))
    c.as_slice-2.ensures.value))
    c.from_numbers.ensures.items

-- the set of groups has the count of groups as its bound
pub returns-clause-bound : goal.returns-clause-bound
returns-clause-bound g c =
    IfOk-weaker c.from_numbers.result _ _
    (λ groups bound.
    bound ∙ c.group_count.ensures.count
    ∙ ap (λ (groups : List ConceptGroup). length groups)
    (groups_are c.args.reader.indexes.now c.args.reader.snapshot.now.release c.args.reader.index
    c.concept_count.ensures.rising))
    c.from_numbers.ensures.bound

-- the set has no more groups than the concepts have, added up
pub returns-clause-few : goal.returns-clause-few
returns-clause-few g c =
    IfOk-weaker c.from_numbers.result _ _
    (λ groups listed.
    omega (
      arith,
      ap (λ (xs : List ℕ). length xs) listed,
      listed_few c.group_count.result c.as_slice-2.result.now,
      ap (λ (xs : List ℕ). length xs) c.as_slice-2.ensures.value,
      c.in_ok-numbers.ensures.few,
      ap (sum_by (group_count_of c.args.reader.indexes.now)) (c.as_slice.ensures.value ∙ c.in_ok-own.ensures.items),
    ))
    c.from_numbers.ensures.items
