-- The depth of a plan: the number of nodes on the longest path from the root. A plan of concepts
-- and a plan of groups are nodes, and a test is not.
use Rattle.std.specs.Prelude.{ℕ, suc, max}
use Rattle.set_algebra.specs.Plan.{Plan, empty_plan, all_plan, one_plan, walk_plan, members_plan, and_plan, or_plan}
use Rattle.set_algebra.specs.Plan.{minus_plan, values_plan, pairs_plan, groups_plan, Plans, no_plans, plan_then}
use Rattle.set_algebra.specs.Plan.{PlanOfGroups, nothing_group, every_group, and_group_plan, or_group_plan}
use Rattle.set_algebra.specs.Plan.{minus_group_plan, pairs_group_plan, PlansOfGroups, no_group_plans, group_plan_then}
use Rattle.set_algebra.specs.Plan.{TestPlan, within_plan, outside_plan, number_plan}

abbrev mutual
  -- the number of nodes on the longest path from the root of a plan of concepts
  pub plan_depth : Plan → ℕ
  plan_depth empty_plan = 1
  plan_depth all_plan = 1
  plan_depth (one_plan number) = 1
  plan_depth (walk_plan operator operand) = suc (plan_depth operand)
  plan_depth (members_plan operand) = suc (plan_depth operand)
  plan_depth (and_plan parts) = suc (plans_depth parts)
  plan_depth (or_plan parts) = suc (plans_depth parts)
  plan_depth (minus_plan first second) = suc (max (plan_depth first) (plan_depth second))
  plan_depth (values_plan start names) = suc (max (plan_depth start) (plans_depth names))
  plan_depth (pairs_plan back count types test) = suc (max (plan_depth types) (test_depth test))
  plan_depth (groups_plan count units) = suc (group_depth units)

  -- the depth of the deepest plan of concepts in a list, or 0 for the empty list
  pub plans_depth : Plans → ℕ
  plans_depth no_plans = 0
  plans_depth (plan_then first rest) = max (plan_depth first) (plans_depth rest)

  -- the number of nodes on the longest path from the root of a plan of groups
  pub group_depth : PlanOfGroups → ℕ
  group_depth nothing_group = 1
  group_depth every_group = 1
  group_depth (and_group_plan parts) = suc (groups_depth parts)
  group_depth (or_group_plan parts) = suc (groups_depth parts)
  group_depth (minus_group_plan first second) = suc (max (group_depth first) (group_depth second))
  group_depth (pairs_group_plan count types test) = suc (max (plan_depth types) (test_depth test))

  -- the depth of the deepest plan of groups in a list, or 0 for the empty list
  pub groups_depth : PlansOfGroups → ℕ
  groups_depth no_group_plans = 0
  groups_depth (group_plan_then first rest) = max (group_depth first) (groups_depth rest)

  -- the depth of the plan of a test, or 0 for a comparison with a number
  pub test_depth : TestPlan → ℕ
  test_depth (within_plan operand) = plan_depth operand
  test_depth (outside_plan operand) = plan_depth operand
  test_depth (number_plan compare number) = 0
