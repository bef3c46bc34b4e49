use Rattle.std.proofs.Common.{ℕ, List, ◌<◌, ◌∙◌, All, get_or, length, map, slice_get, sym, ap, subst}
use Rattle.std.proofs.lemmas.Result.{IfOk-weaker}
use Rattle.postings.specs.Groups.{ConceptGroup, groups_in}
use Rattle.candidates.specs.Groups.{concept_in}
use Rattle.number_lists.proofs.RisingLemmas.{all_below}
use Rattle.candidates.proofs.GroupLemmas.{groups_are}
use Rattle.pair_sets.proofs.GroupNumberLemmas.{owners_found}
use Rattle.pair_sets.proofs.units.with_groups.Goals as goal

-- the items of the set are numbers of groups
pub concepts_of-requires : goal.concepts_of-requires
concepts_of-requires g c =
    let groups = g.S.ConceptSet.items_of c.args.groups.now in
    subst (All (λ group. group < length (groups_in c.args.reader.indexes.now)))
    (sym (c.as_slice.ensures.value ∙ c.in_ok-numbers.ensures.items))
    (subst (λ (bound : ℕ). All (λ group. group < bound) groups)
    (c.requires.bound ∙ ap (λ (all : List ConceptGroup). length all)
    (sym (groups_are c.args.reader.indexes.now c.args.reader.snapshot.now.release c.args.reader.index
    c.concept_count-concept_count.ensures.rising)))
    (all_below (g.S.ConceptSet.bound_of c.args.groups.now) groups (g.met.S.ConceptSet.rising c.args.groups.now)))

-- the concepts of the groups are below the count of concepts
pub as_often-requires : goal.as_often-requires
as_often-requires g c =
    subst (λ (count : ℕ). All (λ concept. concept < count) c.as_slice-2.result.now)
    (ap (λ (concepts : List ℕ). length concepts) c.args.reader.index.concepts
    ∙ sym c.concept_count-concept_count.ensures.count)
    (subst (All (λ concept. concept < length c.args.reader.indexes.now.concepts)) (sym c.as_slice-2.ensures.value)
    c.in_ok-concepts.ensures.within)

-- the concepts that stand among those of the groups as often as `count` asks are those whose number of groups in the
-- set lies in `count`
pub returns-clause-items : goal.returns-clause-items
returns-clause-items g c =
    let release = c.args.reader.snapshot.now.release in
    let indexed = c.args.reader.indexes.now in
    let rising = c.concept_count-concept_count.ensures.rising in
    let concepts = c.as_slice-2.result.now in
    let below : All (λ concept. concept < length release.concepts) concepts =
    subst (λ (ids : List ℕ). All (λ concept. concept < length ids) concepts) c.args.reader.index.concepts
    (subst (All (λ concept. concept < length indexed.concepts)) (sym c.as_slice-2.ensures.value)
    c.in_ok-concepts.ensures.within) in
    IfOk-weaker c.as_often.result _ _
    (λ found often.
    owners_found release rising c.args.count c.concept_count-concept_count.result
    c.concept_count-concept_count.ensures.count
    (g.S.ConceptSet.items_of c.args.groups.now) concepts (g.S.ConceptSet.items_of found) below
    ((λ i. map (λ concept. get_or (sym c.args.reader.index.concepts i) concept 0) (c.as_slice-2.ensures.value i))
    ∙ c.in_ok-concepts.ensures.concepts
    ∙ (λ i. map (λ k. concept_in (slice_get (groups_are indexed release c.args.reader.index rising i) k))
    ((c.as_slice.ensures.value ∙ c.in_ok-numbers.ensures.items) i)))
    often)
    c.as_often.ensures.items
