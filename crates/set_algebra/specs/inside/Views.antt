-- The parts of a plan, a test or a list of plans, if it has a certain form.
use Rattle.std.specs.Prelude.{Bool, Option, Some, None}
use Rattle.constraint_tree.specs.declared.operator.Operator.{Operator}
use Rattle.constraint_tree.specs.declared.operator.Cardinality.{Cardinality}
use Rattle.set_algebra.specs.Plan.{Plan, walk_plan, and_plan, or_plan}
use Rattle.set_algebra.specs.Plan.{minus_plan, pairs_plan, groups_plan, Plans, no_plans, plan_then}
use Rattle.set_algebra.specs.Plan.{PlanOfGroups, and_group_plan, or_group_plan, minus_group_plan, pairs_group_plan}
use Rattle.set_algebra.specs.Plan.{PlansOfGroups, no_group_plans, group_plan_then, TestPlan, within_plan}

-- the parts of a plan of concepts

-- the parts of a conjunction of concepts, or `None` for any other plan
abbrev pub and_parts : Plan → Option Plans
and_parts (and_plan parts) = Some parts
and_parts plan = None

-- the parts of a disjunction of concepts, or `None` for any other plan
abbrev pub or_parts : Plan → Option Plans
or_parts (or_plan parts) = Some parts
or_parts plan = None

-- the two operands of a difference of concepts, or `None` for any other plan
abbrev pub minus_parts : Plan → Option (Plan × Plan)
minus_parts (minus_plan first second) = Some (first, second)
minus_parts plan = None

-- the hierarchy operator and the operand of a `walk_plan`, or `None` for any other plan
abbrev pub walk_parts : Plan → Option (Operator × Plan)
walk_parts (walk_plan operator operand) = Some (operator, operand)
walk_parts plan = None

-- the direction, the cardinality, the types and the test of a `pairs_plan`, or `None` for any other
-- plan
abbrev pub pairs_parts : Plan → Option (Bool × Cardinality × Plan × TestPlan)
pairs_parts (pairs_plan back count types test) = Some (back, count, types, test)
pairs_parts plan = None

-- the cardinality and the plan of groups of a `groups_plan`, or `None` for any other plan
abbrev pub groups_parts : Plan → Option (Cardinality × PlanOfGroups)
groups_parts (groups_plan count units) = Some (count, units)
groups_parts plan = None

-- the parts of a plan of groups

-- the parts of a conjunction of groups, or `None` for any other plan
abbrev pub group_and_parts : PlanOfGroups → Option PlansOfGroups
group_and_parts (and_group_plan parts) = Some parts
group_and_parts plan = None

-- the parts of a disjunction of groups, or `None` for any other plan
abbrev pub group_or_parts : PlanOfGroups → Option PlansOfGroups
group_or_parts (or_group_plan parts) = Some parts
group_or_parts plan = None

-- the two operands of a difference of groups, or `None` for any other plan
abbrev pub group_minus_parts : PlanOfGroups → Option (PlanOfGroups × PlanOfGroups)
group_minus_parts (minus_group_plan first second) = Some (first, second)
group_minus_parts plan = None

-- the cardinality, the types and the test of a `pairs_group_plan`, or `None` for any other plan
abbrev pub group_pairs_parts : PlanOfGroups → Option (Cardinality × Plan × TestPlan)
group_pairs_parts (pairs_group_plan count types test) = Some (count, types, test)
group_pairs_parts plan = None

-- the plan of a test

-- the plan of a `within_plan`, or `None` for any other test
abbrev pub within_part : TestPlan → Option Plan
within_part (within_plan operand) = Some operand
within_part test = None

-- the plan of a list of one plan

-- the only plan of a list of one plan of concepts, or `None` for any other list
abbrev pub only_part : Plans → Option Plan
only_part (plan_then only no_plans) = Some only
only_part parts = None

-- the only plan of a list of one plan of groups, or `None` for any other list
abbrev pub only_group_part : PlansOfGroups → Option PlanOfGroups
only_group_part (group_plan_then only no_group_plans) = Some only
only_group_part parts = None
