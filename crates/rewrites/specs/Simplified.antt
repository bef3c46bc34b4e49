-- The plan that `simplify` makes. It tries RangeAll, BraceOne, Same and Only at each node, in this
-- order and each once, at children before their parent.
use Rattle.std.specs.Prelude.{Bool, false, unwrap_or}
use Rattle.set_algebra.specs.Equal.{same_plan, same_group}
use Rattle.set_algebra.specs.Plan.{Plan, empty_plan, all_plan, one_plan, walk_plan, members_plan, and_plan, or_plan}
use Rattle.set_algebra.specs.Plan.{minus_plan, values_plan, pairs_plan, groups_plan, Plans, no_plans, plan_then}
use Rattle.set_algebra.specs.Plan.{PlanOfGroups, nothing_group, every_group, and_group_plan, or_group_plan}
use Rattle.set_algebra.specs.Plan.{minus_group_plan, pairs_group_plan}
use Rattle.set_algebra.specs.Plan.{PlansOfGroups, no_group_plans, group_plan_then, TestPlan, within_plan, outside_plan}
use Rattle.set_algebra.specs.Plan.{number_plan}
use Rattle.rewrites.specs.declared.rule.Rule.{Rule}
use Rattle.rewrites.specs.declared.rule.Rule.TheVariants.{RangeAll, BraceOne, Same, Only}
use Rattle.rewrites.specs.Rules.{rewritten, rewritten_group}

-- the plan that a rule makes of `plan` at its root, or `plan` if it makes none
abbrev pub tried : Rule → Plan → Plan
tried rule plan = unwrap_or (rewritten rule plan) plan

-- the plan that a rule makes of the plan of groups `plan` at its root, or `plan` if it makes none
abbrev pub tried_group : Rule → PlanOfGroups → PlanOfGroups
tried_group rule plan = unwrap_or (rewritten_group rule plan) plan

-- a plan of concepts after RangeAll, BraceOne, Same and Only were tried at its root
unfoldable pub shortened : Plan → Plan
shortened plan = tried Only (tried Same (tried BraceOne (tried RangeAll plan)))

-- a plan of groups after RangeAll, Same and Only were tried at its root. BraceOne makes no plan of
-- a plan of groups
unfoldable pub shortened_group : PlanOfGroups → PlanOfGroups
shortened_group plan = tried_group Only (tried_group Same (tried_group RangeAll plan))

abbrev mutual
  -- a plan of concepts after its children were simplified, and then its root shortened
  pub simplified : Plan → Plan
  simplified empty_plan = shortened empty_plan
  simplified all_plan = shortened all_plan
  simplified (one_plan number) = shortened (one_plan number)
  simplified (walk_plan operator operand) = shortened (walk_plan operator (simplified operand))
  simplified (members_plan operand) = shortened (members_plan (simplified operand))
  simplified (and_plan parts) = shortened (and_plan (all_simplified parts))
  simplified (or_plan parts) = shortened (or_plan (all_simplified parts))
  simplified (minus_plan first second) =
      shortened (minus_plan (simplified first) (simplified second))
  simplified (values_plan start names) =
      shortened (values_plan (simplified start) (all_simplified names))
  simplified (pairs_plan back count types test) =
      shortened (pairs_plan back count (simplified types) (test_simplified test))
  simplified (groups_plan count units) = shortened (groups_plan count (group_simplified units))

  -- the list of plans of concepts with each plan simplified
  pub all_simplified : Plans → Plans
  all_simplified no_plans = no_plans
  all_simplified (plan_then first rest) = plan_then (simplified first) (all_simplified rest)

  -- a plan of groups after its children were simplified, and then its root shortened
  pub group_simplified : PlanOfGroups → PlanOfGroups
  group_simplified nothing_group = shortened_group nothing_group
  group_simplified every_group = shortened_group every_group
  group_simplified (and_group_plan parts) =
      shortened_group (and_group_plan (all_groups_simplified parts))
  group_simplified (or_group_plan parts) =
      shortened_group (or_group_plan (all_groups_simplified parts))
  group_simplified (minus_group_plan first second) =
      shortened_group (minus_group_plan (group_simplified first) (group_simplified second))
  group_simplified (pairs_group_plan count types test) =
      shortened_group (pairs_group_plan count (simplified types) (test_simplified test))

  -- the list of plans of groups with each plan simplified
  pub all_groups_simplified : PlansOfGroups → PlansOfGroups
  all_groups_simplified no_group_plans = no_group_plans
  all_groups_simplified (group_plan_then first rest) =
      group_plan_then (group_simplified first) (all_groups_simplified rest)

  -- a test with its plan simplified. A test is not a node
  pub test_simplified : TestPlan → TestPlan
  test_simplified (within_plan operand) = within_plan (simplified operand)
  test_simplified (outside_plan operand) = outside_plan (simplified operand)
  test_simplified (number_plan compare number) = number_plan compare number

-- whether a list of plans of concepts begins with two equal plans
abbrev pub begins_twice : Plans → Bool
begins_twice (plan_then first (plan_then second rest)) = same_plan first second
begins_twice parts = false

-- whether a list of plans of groups begins with two equal plans
abbrev pub group_begins_twice : PlansOfGroups → Bool
group_begins_twice (group_plan_then first (group_plan_then second rest)) = same_group first second
group_begins_twice parts = false
