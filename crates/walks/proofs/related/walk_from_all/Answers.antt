use Rattle.std.proofs.Common.{ℕ, Bool, ◌≡◌, ◌∙◌, sym, ap, subst}
use Rattle.std.specs.Prelude.{filter}
use Rattle.std.specs.List.{range_with_len}
use Rattle.std.proofs.lemmas.Result.{IfOk-weaker}
use Rattle.candidates.specs.Within.{may_be}
use Rattle.walks.specs.Families.{lists_of}
use Rattle.walks.specs.Related.{joined, related_to}
use Rattle.walks.specs.declared.family.Reach.{Reach}
use Rattle.walks.specs.inside.Steps.{has_length, stepped}
use Rattle.number_lists.specs.Rising.{IsRisingBelow, numbers_where}
use Rattle.number_lists.proofs.RisingLemmas.{numbers_where-rising}
use Rattle.walks.proofs.AskedLemmas.{all_with_own, leads_to_self_is, reached_from_all}
use Rattle.walks.proofs.related.walk_from_all.Goals as goal

-- an operator that leads from all concepts to themselves leads to all candidates
pub returns-then-is_or_self-clause-items : goal.returns-then-is_or_self-clause-items
returns-then-is_or_self-clause-items g c =
    let may : ℕ → Bool = may_be g.S.ConceptSet.items_of c.args.candidates.now in
    let count = g.S.ConceptSet.bound_of c.args.from.now in
    let items = g.S.ConceptSet.items_of c.args.from.now in
    let hierarchy = c.args.reader.indexes.now.hierarchy in
    let step = c.of-step.result in
    let lists = lists_of hierarchy step.family in
    let related : related_to hierarchy count c.args.operator items ≡ range_with_len 0 count =
    c.of-step.ensures.related hierarchy count items
    ∙ ap (λ (reach : Reach). stepped lists count reach items)
    (leads_to_self_is step.reach (sym c.is_or_self.ensures ∙ c.if-is_or_self.true))
    ∙ all_with_own count hierarchy c.requires.over items (joined count lists items)
    (g.met.S.ConceptSet.rising c.args.from.now)
    c.requires.all in
    IfOk-weaker c.all_below.result _ _
    (λ found same. same ∙ ap (λ (bound : ℕ). filter may (range_with_len 0 bound)) c.bound.ensures
    ∙ ap (filter may) (sym related))
    c.all_below.ensures.items

-- the concepts that are kept rise below the bound of the set
pub from_items-requires : goal.from_items-requires
from_items-requires g c =
    let test : ℕ → Bool = has_length (lists_of c.args.reader.indexes.now.hierarchy c.asked.result) c.is_apart.result in
    subst (IsRisingBelow c.bound-3.result) (sym (c.as_slice.ensures.value ∙ c.in_ok-kept.ensures))
    (subst (λ (bound : ℕ). IsRisingBelow bound (numbers_where c.bound-2.result test)) (c.bound-2.ensures
    ∙ sym c.bound-3.ensures) (numbers_where-rising c.bound-2.result test))

-- the concepts with a list that is empty or not, as the step asks, are what the operator leads to from all concepts
pub returns-clause-items : goal.returns-clause-items
returns-clause-items g c =
    let count = g.S.ConceptSet.bound_of c.args.from.now in
    let items = g.S.ConceptSet.items_of c.args.from.now in
    let hierarchy = c.args.reader.indexes.now.hierarchy in
    let step = c.of-step.result in
    c.in_ok-left.ensures.items
    ∙ ap (filter (may_be g.S.ConceptSet.items_of c.args.candidates.now)) (
    c.in_ok-related.ensures.items ∙ c.as_slice.ensures.value ∙ c.in_ok-kept.ensures
    ∙ (λ i. numbers_where (c.bound-2.ensures i)
    (has_length (lists_of hierarchy (c.asked.ensures i)) (c.is_apart.ensures i)))
    ∙ sym (reached_from_all count hierarchy c.requires.over step items (g.met.S.ConceptSet.rising c.args.from.now)
    c.requires.all (sym c.is_or_self.ensures ∙ c.if-is_or_self.false))
    ∙ sym (c.of-step.ensures.related hierarchy count items)
    )
