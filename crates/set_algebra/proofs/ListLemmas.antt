-- Lists to which plans are appended: their plans and their depth.
use Rattle.std.proofs.Common.{ℕ, ◌≡◌, List, [], ◌∷◌, ◌++◌, ◌+◌, ◌<◌, max, min, length, get_or, take, Vec, Box, refl}
use Rattle.std.proofs.Common.{sym, ap, ◌∙◌, arith}
use Rattle.std.specs.declared.alloc.Global.{Global}
use Rattle.std.proofs.lemmas.List.{take_more}
use Rattle.set_algebra.specs.declared.plan.ConceptPlan.{ConceptPlan}
use Rattle.set_algebra.specs.declared.plan.ConceptPlan.TheVariants as concept_plan
use Rattle.set_algebra.specs.declared.plan.UnitPlan.{UnitPlan}
use Rattle.set_algebra.specs.Plan.{Plan, Plans, no_plans, plan_then, values_plan, plan_of, plans_of, PlanOfGroups}
use Rattle.set_algebra.specs.Plan.{PlansOfGroups, no_group_plans, group_plan_then, group_plan_of, group_plans_of}
use Rattle.set_algebra.specs.Depth.{plan_depth, plans_depth, group_depth, groups_depth}
use Rattle.set_algebra.proofs.PlanLemmas.{plan_of-Values}

-- the list of plans of concepts with one more plan appended
unfoldable pub plans_push : Plans → Plan → Plans
plans_push no_plans plan = plan_then plan no_plans
plans_push (plan_then first rest) plan = plan_then first (plans_push rest plan)

-- the list of plans of groups with one more plan appended
unfoldable pub groups_push : PlansOfGroups → PlanOfGroups → PlansOfGroups
groups_push no_group_plans plan = group_plan_then plan no_group_plans
groups_push (group_plan_then first rest) plan = group_plan_then first (groups_push rest plan)

-- if `part` is appended to a list of plans of concepts, its plan is appended to the list's plans
pub plans_of-push : (parts : List ConceptPlan) (part : ConceptPlan)
    → plans_of (parts ++ part ∷ []) ≡ plans_push (plans_of parts) (plan_of part)
unfolding plans_push
plans_of-push [] part = refl
plans_of-push (first ∷ rest) part = ap (plan_then (plan_of first)) (plans_of-push rest part)

-- if `part` is appended to a list of plans of groups, its plan is appended to the list's plans
pub group_plans_of-push : (parts : List UnitPlan) (part : UnitPlan)
    → group_plans_of (parts ++ part ∷ []) ≡ groups_push (group_plans_of parts) (group_plan_of part)
unfolding groups_push
group_plans_of-push [] part = refl
group_plans_of-push (first ∷ rest) part = ap (group_plan_then (group_plan_of first)) (group_plans_of-push rest part)

-- the depth of `parts` with the plan of concepts `part` appended is the greater of the depths of both
pub plans_depth-push : (parts : Plans) (part : Plan)
    → plans_depth (plans_push parts part) ≡ max (plans_depth parts) (plan_depth part)
unfolding plans_push
plans_depth-push no_plans part = omega arith
plans_depth-push (plan_then first rest) part = omega (arith, plans_depth-push rest part)

-- the depth of `parts` with the plan of groups `part` appended is the greater of the depths of both
pub groups_depth-push : (parts : PlansOfGroups) (part : PlanOfGroups)
    → groups_depth (groups_push parts part) ≡ max (groups_depth parts) (group_depth part)
unfolding groups_push
groups_depth-push no_group_plans part = omega arith
groups_depth-push (group_plan_then first rest) part = omega (arith, groups_depth-push rest part)

-- loop step: the plans of the first `i + 1` parts are those of the first `i`, with the plan of part `i` appended
pub plans_so_far : (parts : List ConceptPlan) (i : ℕ) (part : ConceptPlan) → i < length parts
    → part ≡ get_or parts i part → plans_of (take (i + 1) parts) ≡ plans_push (plans_of (take i parts)) (plan_of part)
plans_so_far parts i part within is = rw (take_more parts i part within, ← is) (plans_of-push (take i parts) part)

-- loop step for plans of groups: the plans of the first `i + 1` parts are those of the first `i`, with the plan of
-- part `i` appended
pub groups_so_far : (parts : List UnitPlan) (i : ℕ) (part : UnitPlan) → i < length parts → part ≡ get_or parts i part
    → group_plans_of (take (i + 1) parts) ≡ groups_push (group_plans_of (take i parts)) (group_plan_of part)
groups_so_far parts i part within is =
    rw (take_more parts i part within, ← is) (group_plans_of-push (take i parts) part)

-- loop step: the greater of the depths of `parts` and of `part`, each capped at `limit`, is the depth of `parts` with
-- `part` appended, capped at `limit`
pub deepest_more : (parts next : Plans) (part : Plan) (deepest depth limit : ℕ) → next ≡ plans_push parts part
    → deepest ≡ min (plans_depth parts) limit → depth ≡ min (plan_depth part) limit
    → max deepest depth ≡ min (plans_depth next) limit
deepest_more parts next part deepest depth limit is deepest_is depth_is =
    rw is (omega (arith, plans_depth-push parts part))

-- loop step for plans of groups: the greater of the depths of `parts` and of `part`, each capped at `limit`, is the
-- depth of `parts` with `part` appended, capped at `limit`
pub deepest_group_more : (parts next : PlansOfGroups) (part : PlanOfGroups) (deepest depth limit : ℕ)
    → next ≡ groups_push parts part → deepest ≡ min (groups_depth parts) limit → depth ≡ min (group_depth part) limit
    → max deepest depth ≡ min (groups_depth next) limit
deepest_group_more parts next part deepest depth limit is deepest_is depth_is =
    rw is (omega (arith, groups_depth-push parts part))

-- loop step: if the plans of `made` are `parts` and the plan of `new` is `part`, then the plans of `made` with `new`
-- appended are `parts` with `part` appended
pub plans_more : (made next_made : List ConceptPlan) (new : ConceptPlan) (parts next : Plans) (part : Plan)
    → next_made ≡ made ++ new ∷ [] → next ≡ plans_push parts part → plans_of made ≡ parts → plan_of new ≡ part
    → plans_of next_made ≡ next
plans_more made next_made new parts next part made_is next_is so_far one =
    ap plans_of made_is ∙ plans_of-push made new ∙ ap (λ (plans : Plans). plans_push plans (plan_of new)) so_far
    ∙ ap (plans_push parts) one ∙ sym next_is

-- loop step for plans of groups: if the plans of `made` are `parts` and the plan of `new` is `part`, then the plans
-- of `made` with `new` appended are `parts` with `part` appended
pub groups_more : (made next_made : List UnitPlan) (new : UnitPlan) (parts next : PlansOfGroups) (part : PlanOfGroups)
    → next_made ≡ made ++ new ∷ [] → next ≡ groups_push parts part → group_plans_of made ≡ parts
    → group_plan_of new ≡ part → group_plans_of next_made ≡ next
groups_more made next_made new parts next part made_is next_is so_far one =
    ap group_plans_of made_is ∙ group_plans_of-push made new
    ∙ ap (λ (plans : PlansOfGroups). groups_push plans (group_plan_of new)) so_far ∙ ap (groups_push parts) one
    ∙ sym next_is

-- if the plan of `start` is `from` and the plans of `names` are `along`, the plan of the `Values` node of both is
-- `values_plan from along`
pub values_made : (start : Box ConceptPlan Global) (names : Vec ConceptPlan Global) (from : Plan) (along : Plans)
    → plan_of start.value ≡ from → plans_of names.items ≡ along
    → plan_of (concept_plan.Values start names) ≡ values_plan from along
values_made start names from along start_is names_are =
    plan_of-Values start names ∙ ap (λ (plan : Plan). values_plan plan (plans_of names.items)) start_is
    ∙ ap (values_plan from) names_are
