-- Lists of plans with a part dropped or simplified.
use Rattle.std.proofs.Common.{ℕ, zero, suc, ◌≡◌, ◌<◌, ◌+◌, None, List, [], ◌∷◌, length}
use Rattle.std.proofs.Common.{get_or, refl, ap, ◌∙◌, arith, add-one}
use Rattle.std.specs.Prelude.{slice_set}
use Rattle.set_algebra.specs.declared.plan.ConceptPlan.{ConceptPlan}
use Rattle.set_algebra.specs.declared.plan.UnitPlan.{UnitPlan}
use Rattle.set_algebra.specs.Plan.{Plan, Plans, no_plans, plan_then, plan_of, plans_of, PlanOfGroups}
use Rattle.set_algebra.specs.Plan.{PlansOfGroups, no_group_plans, group_plan_then, group_plan_of}
use Rattle.set_algebra.specs.Plan.{group_plans_of}
use Rattle.set_algebra.specs.inside.Views.{only_part, only_group_part}
use Rattle.rewrites.specs.Simplified.{simplified, all_simplified}
use Rattle.rewrites.specs.Simplified.{group_simplified, all_groups_simplified}

-- if a list of plans of concepts has not exactly one plan, `only_part` returns `None` for it
pub not_only : (items : List ConceptPlan) → (length items ≡ 1 → ⊥) → only_part (plans_of items) ≡ None
not_only [] long = refl
not_only (first ∷ []) long = absurd (long refl)
not_only (first ∷ (second ∷ rest)) long = refl

-- the list of plans of concepts with its first `i` plans simplified
abbrev pub up_to_here : ℕ → Plans → Plans
up_to_here zero parts = parts
up_to_here (suc i) no_plans = no_plans
up_to_here (suc i) (plan_then first rest) = plan_then (simplified first) (up_to_here i rest)

-- loop step: if the plans of concepts below index `i` are simplified, and then the plan at `i` is, the plans below `i
-- + 1` are
pub here_more : (parts items : List ConceptPlan) (i : ℕ) (old new : ConceptPlan)
    → plans_of items ≡ up_to_here i (plans_of parts) → i < length items → old ≡ get_or items i old
    → plan_of new ≡ simplified (plan_of old) → plans_of (slice_set items i new) ≡ up_to_here (i + 1) (plans_of parts)
here_more parts [] i old new so_far within is one = absurd (omega arith)
here_more [] (first ∷ rest) zero old new so_far within is one = absurd (cc)
here_more [] (first ∷ rest) (suc i) old new so_far within is one = absurd (cc)
here_more (part ∷ parts) (first ∷ rest) zero old new so_far within is one =
    let head : plan_of first ≡ plan_of part = cc in
    let tail : plans_of rest ≡ plans_of parts = cc in
    ap (λ (plan : Plan). plan_then plan (plans_of rest))
    (one ∙ ap (λ (plan : ConceptPlan). simplified (plan_of plan)) is ∙ ap simplified head)
    ∙ ap (plan_then (simplified (plan_of part))) tail
here_more (part ∷ parts) (first ∷ rest) (suc i) old new so_far within is one =
    let head : plan_of first ≡ simplified (plan_of part) = cc in
    let tail : plans_of rest ≡ up_to_here i (plans_of parts) = cc in
    rw add-one
    (ap (λ (plan : Plan). plan_then plan (plans_of (slice_set rest i new))) head
    ∙ ap (plan_then (simplified (plan_of part)))
    (here_more parts rest i old new tail (omega arith) is one ∙ rw add-one refl))

-- if the plans of concepts below index `i` are simplified, and there are `i` plans, all are simplified
pub all_here : (parts : List ConceptPlan) (i : ℕ) → i ≡ length parts
    → up_to_here i (plans_of parts) ≡ all_simplified (plans_of parts)
all_here [] zero is = refl
all_here [] (suc i) is = refl
all_here (first ∷ rest) zero is = absurd (omega arith)
all_here (first ∷ rest) (suc i) is = ap (plan_then (simplified (plan_of first))) (all_here rest i (omega arith))

-- if a list of plans of groups has not exactly one plan, `only_group_part` returns `None` for it
pub not_only_group_part : (items : List UnitPlan) → (length items ≡ 1 → ⊥)
    → only_group_part (group_plans_of items) ≡ None
not_only_group_part [] long = refl
not_only_group_part (first ∷ []) long = absurd (long refl)
not_only_group_part (first ∷ (second ∷ rest)) long = refl

-- the list of plans of groups with its first `i` plans simplified
abbrev pub groups_up_to_here : ℕ → PlansOfGroups → PlansOfGroups
groups_up_to_here zero parts = parts
groups_up_to_here (suc i) no_group_plans = no_group_plans
groups_up_to_here (suc i) (group_plan_then first rest) =
    group_plan_then (group_simplified first) (groups_up_to_here i rest)

-- loop step: if the plans of groups below index `i` are simplified, and then the plan at `i` is, the plans below `i +
-- 1` are
pub groups_here_more : (parts items : List UnitPlan) (i : ℕ) (old new : UnitPlan)
    → group_plans_of items ≡ groups_up_to_here i (group_plans_of parts) → i < length items → old ≡ get_or items i old
    → group_plan_of new ≡ group_simplified (group_plan_of old)
    → group_plans_of (slice_set items i new) ≡ groups_up_to_here (i + 1) (group_plans_of parts)
groups_here_more parts [] i old new so_far within is one = absurd (omega arith)
groups_here_more [] (first ∷ rest) zero old new so_far within is one = absurd (cc)
groups_here_more [] (first ∷ rest) (suc i) old new so_far within is one = absurd (cc)
groups_here_more (part ∷ parts) (first ∷ rest) zero old new so_far within is one =
    let head : group_plan_of first ≡ group_plan_of part = cc in
    let tail : group_plans_of rest ≡ group_plans_of parts = cc in
    ap (λ (plan : PlanOfGroups). group_plan_then plan (group_plans_of rest))
    (one ∙ ap (λ (plan : UnitPlan). group_simplified (group_plan_of plan)) is ∙ ap group_simplified head)
    ∙ ap (group_plan_then (group_simplified (group_plan_of part))) tail
groups_here_more (part ∷ parts) (first ∷ rest) (suc i) old new so_far within is one =
    let head : group_plan_of first ≡ group_simplified (group_plan_of part) = cc in
    let tail : group_plans_of rest ≡ groups_up_to_here i (group_plans_of parts) = cc in
    rw add-one
    (ap (λ (plan : PlanOfGroups). group_plan_then plan (group_plans_of (slice_set rest i new))) head
    ∙ ap (group_plan_then (group_simplified (group_plan_of part)))
    (groups_here_more parts rest i old new tail (omega arith) is one ∙ rw add-one refl))

-- if the plans of groups below index `i` are simplified, and there are `i` plans, all are simplified
pub all_groups_here : (parts : List UnitPlan) (i : ℕ) → i ≡ length parts
    → groups_up_to_here i (group_plans_of parts) ≡ all_groups_simplified (group_plans_of parts)
all_groups_here [] zero is = refl
all_groups_here [] (suc i) is = refl
all_groups_here (first ∷ rest) zero is = absurd (omega arith)
all_groups_here (first ∷ rest) (suc i) is =
    ap (group_plan_then (group_simplified (group_plan_of first))) (all_groups_here rest i (omega arith))
