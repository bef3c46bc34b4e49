use Rattle.std.proofs.Common.{ℕ, List, ◌≡◌, ◌<◌, ◌∙◌, sym, ap, subst}
use Rattle.std.specs.Prelude.{All, filter}
use Rattle.std.proofs.lemmas.Result.{IfOk-weaker}
use Rattle.number_lists.specs.Rising.{IsRisingBelow}
use Rattle.number_lists.specs.Members.{has}
use Rattle.number_lists.proofs.RisingLemmas.{rises_within-filter, all_below}
use Rattle.walks.specs.inside.Steps.{asked_of, stepped}
use Rattle.walks.specs.Families.{lists_of}
use Rattle.walks.proofs.RelatedLemmas.{related_asked}
use Rattle.walks.proofs.ReadLemmas.{asked_counted}
use Rattle.walks.proofs.related.related_among.Goals as goal

-- the items of `wanted` are below the bound of `operand`
pub those_related_to-requires-clause-below : goal.those_related_to-requires-clause-below
those_related_to-requires-clause-below g c =
    let wanted = g.S.ConceptSet.items_of c.args.wanted.now in
    subst (All (λ concept. concept < g.S.ConceptSet.bound_of c.args.operand.now))
    (sym (c.as_slice.ensures.value ∙ c.in_ok-own.ensures.items))
    (subst (λ (bound : ℕ). All (λ concept. concept < bound) wanted) c.requires.wanted
    (all_below (g.S.ConceptSet.bound_of c.args.wanted.now) wanted (g.met.S.ConceptSet.rising c.args.wanted.now)))

-- what is kept of the items of `wanted` rises
pub from_items-requires : goal.from_items-requires
from_items-requires g c =
    let count = g.S.ConceptSet.bound_of c.args.operand.now in
    let wanted = g.S.ConceptSet.items_of c.args.wanted.now in
    let related : List ℕ = stepped (lists_of c.args.reader.indexes.now.hierarchy c.of-step.result.family) count
    c.of-step.result.reach (g.S.ConceptSet.items_of c.args.operand.now) in
    let kept : c.as_slice-2.result.now ≡ filter (has related) wanted =
    c.as_slice-2.ensures.value ∙ c.in_ok-kept.ensures.items
    ∙ ap (filter (has related)) (c.as_slice.ensures.value ∙ c.in_ok-own.ensures.items) in
    subst (λ (bound : ℕ). IsRisingBelow bound c.as_slice-2.result.now) (sym c.bound.ensures)
    (subst (λ (items : List ℕ). IsRisingBelow count items) (sym kept)
    (rises_within-filter 0 count (has related) wanted
    (subst (λ (bound : ℕ). IsRisingBelow bound wanted) c.requires.wanted
    (g.met.S.ConceptSet.rising c.args.wanted.now))))

-- what is kept of `wanted` is what the operator leads to that is in `wanted`
pub returns-clause-items : goal.returns-clause-items
returns-clause-items g c =
    let count = g.S.ConceptSet.bound_of c.args.operand.now in
    let items = g.S.ConceptSet.items_of c.args.operand.now in
    let wanted = g.S.ConceptSet.items_of c.args.wanted.now in
    let step = c.of-step.result in
    let related : List ℕ = stepped (lists_of c.args.reader.indexes.now.hierarchy step.family) count step.reach items in
    IfOk-weaker c.from_items.result _ _
    (λ found same.
    same ∙ c.as_slice-2.ensures.value ∙ c.in_ok-kept.ensures.items
    ∙ ap (filter (has related)) (c.as_slice.ensures.value ∙ c.in_ok-own.ensures.items)
    ∙ related_asked count c.args.reader.indexes.now.hierarchy c.requires.over items
    (g.met.S.ConceptSet.rising c.args.operand.now)
    (lists_of c.args.reader.indexes.now.hierarchy step.family) step.reach wanted
    (subst (λ (bound : ℕ). IsRisingBelow bound wanted) c.requires.wanted (g.met.S.ConceptSet.rising c.args.wanted.now))
    ∙ ap (filter (has wanted)) (sym (c.of-step.ensures.related c.args.reader.indexes.now.hierarchy count items)))
    c.from_items.ensures.items

-- if memory is refused in the test of `wanted`, no more is counted than the test reads
pub returns-in_err-kept-clause-counted : goal.returns-in_err-kept-clause-counted
returns-in_err-kept-clause-counted g c =
    asked_counted c.args.reader.indexes.now.hierarchy c.args.operator (asked_of c.of-step.result)
    (c.of-step.ensures.asked c.args.reader.indexes.now.hierarchy)
    (c.as_slice.ensures.value ∙ c.in_ok-own.ensures.items) c.items.ensures.counted c.those_related_to.ensures.counted

-- no more is counted than testing `wanted` reads
pub returns-clause-counted : goal.returns-clause-counted
returns-clause-counted g c =
    asked_counted c.args.reader.indexes.now.hierarchy c.args.operator (asked_of c.of-step.result)
    (c.of-step.ensures.asked c.args.reader.indexes.now.hierarchy)
    (c.as_slice.ensures.value ∙ c.in_ok-own.ensures.items) c.items.ensures.counted c.those_related_to.ensures.counted
