-- Plans as data without pointers, and the plan of a value in the code. Definitions and contracts
-- speak of this data, because two equal plans in the code may lie at different places in memory.
-- There are two sorts: plans of concepts, and plans of groups of concepts.
use Rattle.std.specs.Prelude.{ℕ, ℤ, Bool, List, [], ◌∷◌, map}
use Rattle.constraint_tree.specs.declared.operator.Operator.{Operator}
use Rattle.constraint_tree.specs.declared.operator.Compare.{Compare}
use Rattle.constraint_tree.specs.declared.operator.Cardinality.{Cardinality}
use Rattle.set_algebra.specs.declared.plan.ConceptPlan.{ConceptPlan, Row_of-ConceptPlan, end_of-ConceptPlan}
use Rattle.set_algebra.specs.declared.plan.ConceptPlan.{more_of-ConceptPlan}
use Rattle.set_algebra.specs.declared.plan.ConceptPlan.TheVariants as concept_plan
use Rattle.set_algebra.specs.declared.plan.UnitPlan.{UnitPlan, Row_of-UnitPlan, end_of-UnitPlan, more_of-UnitPlan}
use Rattle.set_algebra.specs.declared.plan.UnitPlan.TheVariants as group_plan
use Rattle.set_algebra.specs.declared.plan.ValueTest.{ValueTest}
use Rattle.set_algebra.specs.declared.plan.ValueTest.TheVariants as value_test

mutual
  -- a plan of concepts, with the variants of `ConceptPlan`. `pairs_plan` has `back`, the
  -- cardinality, the types and the test
  pub data Plan : Type 0 where
    empty_plan : Plan
    all_plan : Plan
    one_plan : ℕ → Plan
    walk_plan : Operator → Plan → Plan
    members_plan : Plan → Plan
    and_plan : Plans → Plan
    or_plan : Plans → Plan
    minus_plan : Plan → Plan → Plan
    values_plan : Plan → Plans → Plan
    pairs_plan : Bool → Cardinality → Plan → TestPlan → Plan
    groups_plan : Cardinality → PlanOfGroups → Plan

  -- a list of plans of concepts
  pub data Plans : Type 0 where
    no_plans : Plans
    plan_then : Plan → Plans → Plans

  -- a plan of groups, with the variants of `UnitPlan`. `pairs_group_plan` has the cardinality, the
  -- types and the test
  pub data PlanOfGroups : Type 0 where
    nothing_group : PlanOfGroups
    every_group : PlanOfGroups
    and_group_plan : PlansOfGroups → PlanOfGroups
    or_group_plan : PlansOfGroups → PlanOfGroups
    minus_group_plan : PlanOfGroups → PlanOfGroups → PlanOfGroups
    pairs_group_plan : Cardinality → Plan → TestPlan → PlanOfGroups

  -- a list of plans of groups
  pub data PlansOfGroups : Type 0 where
    no_group_plans : PlansOfGroups
    group_plan_then : PlanOfGroups → PlansOfGroups → PlansOfGroups

  -- a test of values, with the variants of `ValueTest`
  pub data TestPlan : Type 0 where
    within_plan : Plan → TestPlan
    outside_plan : Plan → TestPlan
    number_plan : Compare → ℤ → TestPlan

-- a list of plans of concepts as `Plans`
abbrev pub plans_from : List Plan → Plans
plans_from [] = no_plans
plans_from (plan ∷ plans) = plan_then plan (plans_from plans)

-- a list of plans of groups as `PlansOfGroups`
abbrev pub groups_from : List PlanOfGroups → PlansOfGroups
groups_from [] = no_group_plans
groups_from (plan ∷ plans) = group_plan_then plan (groups_from plans)

-- the plan of a value in the code: a `Box` becomes its content, and a `Vec` the list of its items
abbrev mutual
  -- the data of a plan of concepts in the code, without the choices of its leaves
  pub plan_of : ConceptPlan → Plan
  plan_of concept_plan.Empty = empty_plan
  plan_of concept_plan.All = all_plan
  plan_of (concept_plan.One number) = one_plan number
  plan_of (concept_plan.Walk' operator pointer operand) = walk_plan operator (plan_of operand)
  plan_of (concept_plan.Members' pointer operand) = members_plan (plan_of operand)
  plan_of (concept_plan.And' shape parts) = and_plan (row_of_plans parts)
  plan_of (concept_plan.Or' shape parts) = or_plan (row_of_plans parts)
  plan_of (concept_plan.Minus' pointer first other second) =
      minus_plan (plan_of first) (plan_of second)
  plan_of (concept_plan.Values' pointer start shape names) =
      values_plan (plan_of start) (row_of_plans names)
  plan_of (concept_plan.Pairs' back count pointer types test choice) =
      pairs_plan back count (plan_of types) (test_plan_of test)
  plan_of (concept_plan.Units' count pointer units) = groups_plan count (group_plan_of units)

  -- the data of the plans of concepts in a `Row_of-ConceptPlan`, the form in which the toolchain
  -- hides the items of a `Vec`
  pub row_of_plans : {size : _} → Row_of-ConceptPlan size → Plans
  row_of_plans end_of-ConceptPlan = no_plans
  row_of_plans (more_of-ConceptPlan first rest) = plan_then (plan_of first) (row_of_plans rest)

  -- the data of a plan of groups in the code, without the choices of its leaves
  pub group_plan_of : UnitPlan → PlanOfGroups
  group_plan_of group_plan.Nothing = nothing_group
  group_plan_of group_plan.Every = every_group
  group_plan_of (group_plan.And' shape parts) = and_group_plan (row_of_group_plan parts)
  group_plan_of (group_plan.Or' shape parts) = or_group_plan (row_of_group_plan parts)
  group_plan_of (group_plan.Minus' pointer first other second) =
      minus_group_plan (group_plan_of first) (group_plan_of second)
  group_plan_of (group_plan.Pairs' count pointer types test choice) =
      pairs_group_plan count (plan_of types) (test_plan_of test)

  -- the data of the plans of groups in a `Row_of-UnitPlan`, the form in which the toolchain hides
  -- the items of a `Vec`
  pub row_of_group_plan : {size : _} → Row_of-UnitPlan size → PlansOfGroups
  row_of_group_plan end_of-UnitPlan = no_group_plans
  row_of_group_plan (more_of-UnitPlan first rest) =
      group_plan_then (group_plan_of first) (row_of_group_plan rest)

  -- the data of a test of values in the code
  pub test_plan_of : ValueTest → TestPlan
  test_plan_of (value_test.Within' pointer operand) = within_plan (plan_of operand)
  test_plan_of (value_test.Outside' pointer operand) = outside_plan (plan_of operand)
  test_plan_of (value_test.Number compare decimal) = number_plan compare decimal.0

-- the data of the plans of concepts in a `Vec` or a slice
abbrev pub plans_of : List ConceptPlan → Plans
plans_of parts = plans_from (map plan_of parts)

-- the data of the plans of groups in a `Vec` or a slice
abbrev pub group_plans_of : List UnitPlan → PlansOfGroups
group_plans_of parts = groups_from (map group_plan_of parts)
