-- Lists of plans: with one more plan at the end, joined, and with a plan made from each.
use Rattle.set_algebra.specs.Plan.{Plan, Plans, no_plans, plan_then, PlanOfGroups, PlansOfGroups, no_group_plans}
use Rattle.set_algebra.specs.Plan.{group_plan_then}

-- the list of plans of concepts with `last` at its end
abbrev pub plans_then : Plans → Plan → Plans
plans_then no_plans last = plan_then last no_plans
plans_then (plan_then first rest) last = plan_then first (plans_then rest last)

-- the list of plans of groups with `last` at its end
abbrev pub groups_then : PlansOfGroups → PlanOfGroups → PlansOfGroups
groups_then no_group_plans last = group_plan_then last no_group_plans
groups_then (group_plan_then first rest) last = group_plan_then first (groups_then rest last)

-- two lists of plans of concepts, one after the other
abbrev pub plans_joined : Plans → Plans → Plans
plans_joined no_plans others = others
plans_joined (plan_then first rest) others = plan_then first (plans_joined rest others)

-- two lists of plans of groups, one after the other
abbrev pub groups_joined : PlansOfGroups → PlansOfGroups → PlansOfGroups
groups_joined no_group_plans others = others
groups_joined (group_plan_then first rest) others =
    group_plan_then first (groups_joined rest others)

-- the list of the results of `make`, plans of concepts, for the plans of concepts of a list
abbrev pub plans_each : (Plan → Plan) → Plans → Plans
plans_each make no_plans = no_plans
plans_each make (plan_then first rest) = plan_then (make first) (plans_each make rest)

-- the list of the results of `make`, plans of groups, for the plans of groups of a list
abbrev pub groups_each : (PlanOfGroups → PlanOfGroups) → PlansOfGroups → PlansOfGroups
groups_each make no_group_plans = no_group_plans
groups_each make (group_plan_then first rest) = group_plan_then (make first) (groups_each make rest)

-- the list of the results of `make`, plans of groups, for the plans of concepts of a list
abbrev pub groups_of_each : (Plan → PlanOfGroups) → Plans → PlansOfGroups
groups_of_each make no_plans = no_group_plans
groups_of_each make (plan_then first rest) = group_plan_then (make first) (groups_of_each make rest)

-- the list of the results of `make`, plans of concepts, for the plans of groups of a list
abbrev pub plans_of_each : (PlanOfGroups → Plan) → PlansOfGroups → Plans
plans_of_each make no_group_plans = no_plans
plans_of_each make (group_plan_then first rest) = plan_then (make first) (plans_of_each make rest)
