-- Physical plans as data without pointers. In a physical plan each leaf has a choice: the attribute
-- rows that answer it. A leaf is a node that counts pairs, of concepts or of groups. `Plan` is the
-- logical plan, which has no choices: a choice does not change the meaning.
use Rattle.std.specs.Prelude.{ℕ, ℤ, Bool, List, [], ◌∷◌, map}
use Rattle.constraint_tree.specs.declared.operator.Operator.{Operator}
use Rattle.constraint_tree.specs.declared.operator.Compare.{Compare}
use Rattle.constraint_tree.specs.declared.operator.Cardinality.{Cardinality}
use Rattle.set_algebra.specs.declared.choice.Choice.{Choice}
use Rattle.set_algebra.specs.declared.plan.ConceptPlan.{ConceptPlan, Row_of-ConceptPlan, end_of-ConceptPlan}
use Rattle.set_algebra.specs.declared.plan.ConceptPlan.{more_of-ConceptPlan}
use Rattle.set_algebra.specs.declared.plan.ConceptPlan.TheVariants as concept_plan
use Rattle.set_algebra.specs.declared.plan.UnitPlan.{UnitPlan, Row_of-UnitPlan, end_of-UnitPlan, more_of-UnitPlan}
use Rattle.set_algebra.specs.declared.plan.UnitPlan.TheVariants as group_plan
use Rattle.set_algebra.specs.declared.plan.ValueTest.{ValueTest}
use Rattle.set_algebra.specs.declared.plan.ValueTest.TheVariants as value_test
use Rattle.set_algebra.specs.Plan.{Plan, empty_plan, all_plan, one_plan, walk_plan, members_plan, and_plan, or_plan}
use Rattle.set_algebra.specs.Plan.{minus_plan}
use Rattle.set_algebra.specs.Plan.{values_plan, pairs_plan, groups_plan, Plans, no_plans, plan_then}
use Rattle.set_algebra.specs.Plan.{PlanOfGroups, nothing_group, every_group, and_group_plan, or_group_plan}
use Rattle.set_algebra.specs.Plan.{minus_group_plan, pairs_group_plan}
use Rattle.set_algebra.specs.Plan.{PlansOfGroups, no_group_plans, group_plan_then, TestPlan, within_plan, outside_plan}
use Rattle.set_algebra.specs.Plan.{number_plan}

mutual
  -- a physical plan of concepts, with the variants of `ConceptPlan`. `physical_pairs` has `back`,
  -- the cardinality, the types, the test and the choice
  pub data Physical : Type 0 where
    physical_empty : Physical
    physical_all : Physical
    physical_one : ℕ → Physical
    physical_walk : Operator → Physical → Physical
    physical_members : Physical → Physical
    physical_and : Physicals → Physical
    physical_or : Physicals → Physical
    physical_minus : Physical → Physical → Physical
    physical_values : Physical → Physicals → Physical
    physical_pairs : Bool → Cardinality → Physical → PhysicalTest → Choice → Physical
    physical_groups : Cardinality → PhysicalGroups → Physical

  -- a list of physical plans of concepts
  pub data Physicals : Type 0 where
    no_physicals : Physicals
    physical_then : Physical → Physicals → Physicals

  -- a physical plan of groups, with the variants of `UnitPlan`
  pub data PhysicalGroups : Type 0 where
    physical_nothing : PhysicalGroups
    physical_every : PhysicalGroups
    physical_groups_and : PhysicalGroupsList → PhysicalGroups
    physical_groups_or : PhysicalGroupsList → PhysicalGroups
    physical_groups_minus : PhysicalGroups → PhysicalGroups → PhysicalGroups
    physical_groups_pairs : Cardinality → Physical → PhysicalTest → Choice → PhysicalGroups

  -- a list of physical plans of groups
  pub data PhysicalGroupsList : Type 0 where
    no_physical_groups : PhysicalGroupsList
    physical_groups_then : PhysicalGroups → PhysicalGroupsList → PhysicalGroupsList

  -- a physical test of values: the value of a pair must pass it
  pub data PhysicalTest : Type 0 where
    physical_within : Physical → PhysicalTest
    physical_outside : Physical → PhysicalTest
    physical_number : Compare → ℤ → PhysicalTest

-- a list of physical plans of concepts as `Physicals`
abbrev pub physicals_from : List Physical → Physicals
physicals_from [] = no_physicals
physicals_from (plan ∷ plans) = physical_then plan (physicals_from plans)

-- a list of physical plans of groups as `PhysicalGroupsList`
abbrev pub physical_groups_from : List PhysicalGroups → PhysicalGroupsList
physical_groups_from [] = no_physical_groups
physical_groups_from (plan ∷ plans) = physical_groups_then plan (physical_groups_from plans)

-- the physical plan of a value in the code
abbrev mutual
  -- the physical plan of a plan of concepts in the code
  pub physical_of : ConceptPlan → Physical
  physical_of concept_plan.Empty = physical_empty
  physical_of concept_plan.All = physical_all
  physical_of (concept_plan.One number) = physical_one number
  physical_of (concept_plan.Walk' operator pointer operand) =
      physical_walk operator (physical_of operand)
  physical_of (concept_plan.Members' pointer operand) = physical_members (physical_of operand)
  physical_of (concept_plan.And' shape parts) = physical_and (row_of_physicals parts)
  physical_of (concept_plan.Or' shape parts) = physical_or (row_of_physicals parts)
  physical_of (concept_plan.Minus' pointer first other second) =
      physical_minus (physical_of first) (physical_of second)
  physical_of (concept_plan.Values' pointer start shape names) =
      physical_values (physical_of start) (row_of_physicals names)
  physical_of (concept_plan.Pairs' back count pointer types test choice) =
      physical_pairs back count (physical_of types) (physical_test_of test) choice
  physical_of (concept_plan.Units' count pointer units) =
      physical_groups count (physical_groups_of units)

  -- the physical plans of the plans of concepts in a `Row_of-ConceptPlan`, the form in which the
  -- toolchain hides the items of a `Vec`
  pub row_of_physicals : {size : _} → Row_of-ConceptPlan size → Physicals
  row_of_physicals end_of-ConceptPlan = no_physicals
  row_of_physicals (more_of-ConceptPlan first rest) =
      physical_then (physical_of first) (row_of_physicals rest)

  -- the physical plan of a plan of groups in the code
  pub physical_groups_of : UnitPlan → PhysicalGroups
  physical_groups_of group_plan.Nothing = physical_nothing
  physical_groups_of group_plan.Every = physical_every
  physical_groups_of (group_plan.And' shape parts) =
      physical_groups_and (row_of_physical_group_plan parts)
  physical_groups_of (group_plan.Or' shape parts) =
      physical_groups_or (row_of_physical_group_plan parts)
  physical_groups_of (group_plan.Minus' pointer first other second) =
      physical_groups_minus (physical_groups_of first) (physical_groups_of second)
  physical_groups_of (group_plan.Pairs' count pointer types test choice) =
      physical_groups_pairs count (physical_of types) (physical_test_of test) choice

  -- the physical plans of the plans of groups in a `Row_of-UnitPlan`, the form in which the
  -- toolchain hides the items of a `Vec`
  pub row_of_physical_group_plan : {size : _} → Row_of-UnitPlan size → PhysicalGroupsList
  row_of_physical_group_plan end_of-UnitPlan = no_physical_groups
  row_of_physical_group_plan (more_of-UnitPlan first rest) =
      physical_groups_then (physical_groups_of first) (row_of_physical_group_plan rest)

  -- the physical test of a test of values in the code
  pub physical_test_of : ValueTest → PhysicalTest
  physical_test_of (value_test.Within' pointer operand) = physical_within (physical_of operand)
  physical_test_of (value_test.Outside' pointer operand) = physical_outside (physical_of operand)
  physical_test_of (value_test.Number compare decimal) = physical_number compare decimal.0

-- the physical plans of the plans of concepts in a `Vec` or a slice
abbrev pub physicals_of : List ConceptPlan → Physicals
physicals_of parts = physicals_from (map physical_of parts)

-- the physical plans of the plans of groups in a `Vec` or a slice
abbrev pub physical_groups_list_of : List UnitPlan → PhysicalGroupsList
physical_groups_list_of parts = physical_groups_from (map physical_groups_of parts)

-- a physical plan without its choices
abbrev mutual
  -- the logical plan of a physical plan of concepts, without the choices
  pub logical : Physical → Plan
  logical physical_empty = empty_plan
  logical physical_all = all_plan
  logical (physical_one number) = one_plan number
  logical (physical_walk operator operand) = walk_plan operator (logical operand)
  logical (physical_members operand) = members_plan (logical operand)
  logical (physical_and parts) = and_plan (logicals parts)
  logical (physical_or parts) = or_plan (logicals parts)
  logical (physical_minus first second) = minus_plan (logical first) (logical second)
  logical (physical_values start names) = values_plan (logical start) (logicals names)
  logical (physical_pairs back count types test choice) =
      pairs_plan back count (logical types) (logical_test test)
  logical (physical_groups count units) = groups_plan count (logical_groups units)

  -- the logical plans of a list of physical plans of concepts
  pub logicals : Physicals → Plans
  logicals no_physicals = no_plans
  logicals (physical_then first rest) = plan_then (logical first) (logicals rest)

  -- the logical plan of a physical plan of groups, without the choices
  pub logical_groups : PhysicalGroups → PlanOfGroups
  logical_groups physical_nothing = nothing_group
  logical_groups physical_every = every_group
  logical_groups (physical_groups_and parts) = and_group_plan (logical_groups_list parts)
  logical_groups (physical_groups_or parts) = or_group_plan (logical_groups_list parts)
  logical_groups (physical_groups_minus first second) =
      minus_group_plan (logical_groups first) (logical_groups second)
  logical_groups (physical_groups_pairs count types test choice) =
      pairs_group_plan count (logical types) (logical_test test)

  -- the logical plans of a list of physical plans of groups
  pub logical_groups_list : PhysicalGroupsList → PlansOfGroups
  logical_groups_list no_physical_groups = no_group_plans
  logical_groups_list (physical_groups_then first rest) =
      group_plan_then (logical_groups first) (logical_groups_list rest)

  -- the logical test of a physical test of values
  pub logical_test : PhysicalTest → TestPlan
  logical_test (physical_within operand) = within_plan (logical operand)
  logical_test (physical_outside operand) = outside_plan (logical operand)
  logical_test (physical_number compare number) = number_plan compare number
