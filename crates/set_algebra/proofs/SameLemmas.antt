-- Equal lists of plans, and equal plans of variants with a `Vec`.
use Rattle.std.proofs.Common.{ℕ, zero, suc, ◌≡◌, ◌↔◌, ◌+◌, ◌<◌, ◌≤◌, Bool, List, [], ◌∷◌}
use Rattle.std.proofs.Common.{length, get_or, take, take_all, Vec, Box, IsTrue, refl, sym, ap, ◌∙◌, arith}
use Rattle.std.specs.declared.alloc.Global.{Global}
use Rattle.set_algebra.specs.declared.plan.ConceptPlan.{ConceptPlan}
use Rattle.set_algebra.specs.declared.plan.ConceptPlan.TheVariants as concept_plan
use Rattle.set_algebra.specs.declared.plan.UnitPlan.{UnitPlan}
use Rattle.set_algebra.specs.Plan.{Plans, values_plan, plan_of, plans_of, PlansOfGroups, group_plan_of, group_plans_of}
use Rattle.set_algebra.proofs.ListLemmas.{plans_push, groups_push, plans_so_far, groups_so_far}
use Rattle.set_algebra.proofs.PlanLemmas.{plan_of-Values}

-- if the plans of two lists of plans of concepts are equal, the lists have the same length
pub same_lengths : (parts others : List ConceptPlan) → plans_of parts ≡ plans_of others → length parts ≡ length others
same_lengths [] [] same = refl
same_lengths [] (other ∷ others) same = absurd (cc)
same_lengths (first ∷ rest) [] same = absurd (cc)
same_lengths (first ∷ rest) (other ∷ others) same = let tails : plans_of rest ≡ plans_of others =
    cc in ap suc (same_lengths rest others tails)

-- if the plans of two lists of plans of groups are equal, the lists have the same length
pub same_group_lengths : (parts others : List UnitPlan) → group_plans_of parts ≡ group_plans_of others
    → length parts ≡ length others
same_group_lengths [] [] same = refl
same_group_lengths [] (other ∷ others) same = absurd (cc)
same_group_lengths (first ∷ rest) [] same = absurd (cc)
same_group_lengths (first ∷ rest) (other ∷ others) same = let tails : group_plans_of rest ≡ group_plans_of others =
    cc in ap suc (same_group_lengths rest others tails)

-- if the plans of two lists of plans of concepts are equal, so are the plans at each index `i`
pub same_at : (parts others : List ConceptPlan) (i : ℕ) (part other : ConceptPlan) → i < length parts
    → part ≡ get_or parts i part → other ≡ get_or others i other → plans_of parts ≡ plans_of others
    → plan_of part ≡ plan_of other
same_at [] others i part other within is other_is same = absurd (omega arith)
same_at (first ∷ rest) [] i part other within is other_is same = absurd (cc)
same_at (first ∷ rest) (other_first ∷ others) zero part other within is other_is same =
    let heads : plan_of first ≡ plan_of other_first = cc in ap plan_of is ∙ heads ∙ sym (ap plan_of other_is)
same_at (first ∷ rest) (other_first ∷ others) (suc i) part other within is other_is same =
    let tails : plans_of rest ≡ plans_of others = cc in same_at rest others i part other (omega arith) is other_is tails

-- if the plans of two lists of plans of groups are equal, so are the plans at each index `i`
pub same_group_at : (parts others : List UnitPlan) (i : ℕ) (part other : UnitPlan) → i < length parts
    → part ≡ get_or parts i part → other ≡ get_or others i other → group_plans_of parts ≡ group_plans_of others
    → group_plan_of part ≡ group_plan_of other
same_group_at [] others i part other within is other_is same = absurd (omega arith)
same_group_at (first ∷ rest) [] i part other within is other_is same = absurd (cc)
same_group_at (first ∷ rest) (other_first ∷ others) zero part other within is other_is same =
    let heads : group_plan_of first ≡ group_plan_of other_first = cc in ap group_plan_of is ∙ heads
    ∙ sym (ap group_plan_of other_is)
same_group_at (first ∷ rest) (other_first ∷ others) (suc i) part other within is other_is same =
    let tails : group_plans_of rest ≡ group_plans_of others =
    cc in same_group_at rest others i part other (omega arith) is other_is tails

-- loop step over two lists of plans of concepts of the same length: if the plans below index `i` are equal and those
-- at `i` are, then the plans below `i + 1` are equal
pub same_more : (parts others : List ConceptPlan) (i : ℕ) (part other : ConceptPlan) → i < length parts
    → length parts ≡ length others → part ≡ get_or parts i part → other ≡ get_or others i other
    → plans_of (take i parts) ≡ plans_of (take i others) → plan_of part ≡ plan_of other
    → plans_of (take (i + 1) parts) ≡ plans_of (take (i + 1) others)
same_more parts others i part other within long is other_is so_far one =
    plans_so_far parts i part within is
    ∙ ap (λ (plans : Plans). plans_push plans (plan_of part)) so_far
    ∙ ap (plans_push (plans_of (take i others))) one
    ∙ sym (plans_so_far others i other (omega arith) other_is)

-- loop step over two lists of plans of groups of the same length: if the plans below index `i` are equal and those at
-- `i` are, then the plans below `i + 1` are equal
pub same_group_more : (parts others : List UnitPlan) (i : ℕ) (part other : UnitPlan) → i < length parts
    → length parts ≡ length others → part ≡ get_or parts i part → other ≡ get_or others i other
    → group_plans_of (take i parts) ≡ group_plans_of (take i others) → group_plan_of part ≡ group_plan_of other
    → group_plans_of (take (i + 1) parts) ≡ group_plans_of (take (i + 1) others)
same_group_more parts others i part other within long is other_is so_far one =
    groups_so_far parts i part within is
    ∙ ap (λ (plans : PlansOfGroups). groups_push plans (group_plan_of part)) so_far
    ∙ ap (groups_push (group_plans_of (take i others))) one
    ∙ sym (groups_so_far others i other (omega arith) other_is)

-- if two lists of plans of concepts have the same length, at most `i`, and their plans below index `i` are equal,
-- then all their plans are
pub same_all : (parts others : List ConceptPlan) (i : ℕ) → length parts ≤ i → length parts ≡ length others
    → plans_of (take i parts) ≡ plans_of (take i others) → plans_of parts ≡ plans_of others
same_all parts others i past long so_far =
    sym (ap plans_of (take_all i parts past)) ∙ so_far ∙ ap plans_of (take_all i others (omega arith))

-- if two lists of plans of groups have the same length, at most `i`, and their plans below index `i` are equal, then
-- all their plans are
pub same_group_all : (parts others : List UnitPlan) (i : ℕ) → length parts ≤ i → length parts ≡ length others
    → group_plans_of (take i parts) ≡ group_plans_of (take i others) → group_plans_of parts ≡ group_plans_of others
same_group_all parts others i past long so_far =
    sym (ap group_plans_of (take_all i parts past)) ∙ so_far ∙ ap group_plans_of (take_all i others (omega arith))

-- if `result` says whether the `values_plan` of the starts and the names of two `Values` nodes are equal, it says
-- whether the plans of the nodes are equal
pub values_are_same : (one one_other : ConceptPlan) (start start_other : Box ConceptPlan Global)
    (names others : Vec ConceptPlan Global) (from from_other : ConceptPlan) (along along_other : List ConceptPlan)
    (result : Bool) → one ≡ concept_plan.Values start names → one_other ≡ concept_plan.Values start_other others
    → from ≡ start.value → from_other ≡ start_other.value → along ≡ names.items → along_other ≡ others.items
    → (IsTrue result ↔ (values_plan (plan_of from) (plans_of along)
    ≡ values_plan (plan_of from_other) (plans_of along_other)))
    → IsTrue result ↔ (plan_of one ≡ plan_of one_other)
values_are_same one one_other start start_other names others from from_other along along_other result one_is other_is
    from_is from_other_is along_is along_other_is same =
    let this : plan_of one ≡ values_plan (plan_of from) (plans_of along) =
    ap plan_of one_is ∙ plan_of-Values start names
    ∙ ap (λ (plan : ConceptPlan). values_plan (plan_of plan) (plans_of names.items)) (sym from_is)
    ∙ ap (λ (plans : List ConceptPlan). values_plan (plan_of from) (plans_of plans)) (sym along_is) in
    let that : plan_of one_other ≡ values_plan (plan_of from_other) (plans_of along_other) =
    ap plan_of other_is ∙ plan_of-Values start_other others
    ∙ ap (λ (plan : ConceptPlan). values_plan (plan_of plan) (plans_of others.items)) (sym from_other_is)
    ∙ ap (λ (plans : List ConceptPlan). values_plan (plan_of from_other) (plans_of plans)) (sym along_other_is) in
    (λ holds. this ∙ same.0 holds ∙ sym that, λ equal. same.1 (sym this ∙ equal ∙ that))
