-- The physical plans of the items of a `Vec` in a plan, and the logical plan of a physical one.
use Rattle.std.proofs.Common.{◌≡◌, Vec, Box, List, [], ◌∷◌, refl, ap, ◌∙◌}
use Rattle.std.specs.declared.alloc.Global.{Global}
use Rattle.set_algebra.specs.declared.plan.ConceptPlan.{ConceptPlan, Row_of-ConceptPlan, end_of-ConceptPlan}
use Rattle.set_algebra.specs.declared.plan.ConceptPlan.{more_of-ConceptPlan, items-the_row-ConceptPlan}
use Rattle.set_algebra.specs.declared.plan.ConceptPlan.{items_hidden-the_row-ConceptPlan-0}
use Rattle.set_algebra.specs.declared.plan.ConceptPlan.TheVariants as concept_plan
use Rattle.set_algebra.specs.declared.plan.ConceptPlan.TheBlock.{hidden-the_row-ConceptPlan-0}
use Rattle.set_algebra.specs.declared.plan.ConceptPlan.TheBlock.{hidden-the_row-UnitPlan-1}
use Rattle.set_algebra.specs.declared.plan.UnitPlan.{UnitPlan, Row_of-UnitPlan, end_of-UnitPlan, more_of-UnitPlan}
use Rattle.set_algebra.specs.declared.plan.UnitPlan.{items-the_row-UnitPlan, items_hidden-the_row-UnitPlan-1}
use Rattle.set_algebra.specs.declared.plan.UnitPlan.TheVariants as group_plan
use Rattle.set_algebra.specs.declared.plan.ValueTest.{ValueTest}
use Rattle.set_algebra.specs.declared.plan.ValueTest.TheVariants as value_test
use Rattle.set_algebra.specs.Plan.{and_plan, members_plan, minus_plan, or_plan, pairs_plan, plan_of, plan_then}
use Rattle.set_algebra.specs.Plan.{plans_of, groups_plan}
use Rattle.set_algebra.specs.Plan.{row_of_plans, row_of_group_plan, test_plan_of, group_plan_of, group_plan_then}
use Rattle.set_algebra.specs.Plan.{group_plans_of, values_plan}
use Rattle.set_algebra.specs.Plan.{walk_plan, and_group_plan, minus_group_plan, or_group_plan, outside_plan}
use Rattle.set_algebra.specs.Plan.{pairs_group_plan, within_plan}
use Rattle.set_algebra.specs.Physical.{logical, logical_test, logical_groups, logical_groups_list, logicals}
use Rattle.set_algebra.specs.Physical.{physical_and, physical_of}
use Rattle.set_algebra.specs.Physical.{physical_or, physical_test_of, physical_then, physical_groups_and}
use Rattle.set_algebra.specs.Physical.{physical_groups_list_of}
use Rattle.set_algebra.specs.Physical.{physical_groups_of, physical_groups_or, physical_groups_then, physical_values}
use Rattle.set_algebra.specs.Physical.{physicals_of}
use Rattle.set_algebra.specs.Physical.{row_of_physical_group_plan, row_of_physicals}
use mathlib.Core.Former.{Count}

-- the physical plans of a row of plans of concepts are those of its items
row_of_physicals-items : {size : Count} (row : Row_of-ConceptPlan size)
    → row_of_physicals row ≡ physicals_of (items-the_row-ConceptPlan size row)
row_of_physicals-items end_of-ConceptPlan = refl
row_of_physicals-items (more_of-ConceptPlan first rest) =
    ap (physical_then (physical_of first)) (row_of_physicals-items rest)

row_of_physical_group_plan-items : {size : Count} (row : Row_of-UnitPlan size)
    → row_of_physical_group_plan row ≡ physical_groups_list_of (items-the_row-UnitPlan size row)
row_of_physical_group_plan-items end_of-UnitPlan = refl
row_of_physical_group_plan-items (more_of-UnitPlan first rest) =
    ap (physical_groups_then (physical_groups_of first)) (row_of_physical_group_plan-items rest)

row_of_concepts : (parts : Vec ConceptPlan Global) → row_of_physicals (hidden-the_row-ConceptPlan-0 parts)
    ≡ physicals_of parts.items
row_of_concepts parts =
    row_of_physicals-items (hidden-the_row-ConceptPlan-0 parts)
    ∙ ap physicals_of (items_hidden-the_row-ConceptPlan-0 parts)

row_of_groups : (parts : Vec UnitPlan Global) → row_of_physical_group_plan (hidden-the_row-UnitPlan-1 parts)
    ≡ physical_groups_list_of parts.items
row_of_groups parts =
    row_of_physical_group_plan-items (hidden-the_row-UnitPlan-1 parts)
    ∙ ap physical_groups_list_of (items_hidden-the_row-UnitPlan-1 parts)

-- the physical plan of an `And` of concepts is `physical_and` of the physical plans of its parts
pub physical_of-And : (parts : Vec ConceptPlan Global)
    → physical_of (concept_plan.And parts) ≡ physical_and (physicals_of parts.items)
physical_of-And parts = ap physical_and (row_of_concepts parts)

-- the physical plan of an `Or` of concepts is `physical_or` of the physical plans of its parts
pub physical_of-Or : (parts : Vec ConceptPlan Global)
    → physical_of (concept_plan.Or parts) ≡ physical_or (physicals_of parts.items)
physical_of-Or parts = ap physical_or (row_of_concepts parts)

-- the physical plan of a `Values` is `physical_values` of the physical plans of its start and its names
pub physical_of-Values : (start : Box ConceptPlan Global) (names : Vec ConceptPlan Global)
    → physical_of (concept_plan.Values start names)
    ≡ physical_values (physical_of start.value) (physicals_of names.items)
physical_of-Values start names = ap (physical_values (physical_of start.value)) (row_of_concepts names)

-- the physical plan of an `And` of groups is `physical_groups_and` of the physical plans of its parts
pub physical_groups_of-And : (parts : Vec UnitPlan Global)
    → physical_groups_of (group_plan.And parts) ≡ physical_groups_and (physical_groups_list_of parts.items)
physical_groups_of-And parts = ap physical_groups_and (row_of_groups parts)

-- the physical plan of an `Or` of groups is `physical_groups_or` of the physical plans of its parts
pub physical_groups_of-Or : (parts : Vec UnitPlan Global)
    → physical_groups_of (group_plan.Or parts) ≡ physical_groups_or (physical_groups_list_of parts.items)
physical_groups_of-Or parts = ap physical_groups_or (row_of_groups parts)

-- the lemmas on the physical plans of all variants with a `Vec`, for functions that go down a plan
pub ruleset physicals_of_items =
    (physical_of-And, physical_of-Or, physical_of-Values, physical_groups_of-And, physical_groups_of-Or)

mutual
  -- a plan of concepts in the code, taken as a physical plan and then without its choices, is its plan
  pub logical-physical_of : (plan : ConceptPlan) → logical (physical_of plan) ≡ plan_of plan
  logical-physical_of concept_plan.Empty = refl
  logical-physical_of concept_plan.All = refl
  logical-physical_of (concept_plan.One number) = refl
  logical-physical_of (concept_plan.Walk' operator pointer operand) =
      ap (walk_plan operator) (logical-physical_of operand)
  logical-physical_of (concept_plan.Members' pointer operand) = ap members_plan (logical-physical_of operand)
  logical-physical_of (concept_plan.And' shape parts) = ap and_plan (logicals-row parts)
  logical-physical_of (concept_plan.Or' shape parts) = ap or_plan (logicals-row parts)
  logical-physical_of (concept_plan.Minus' pointer first other second) =
      λ i. minus_plan (logical-physical_of first i) (logical-physical_of second i)
  logical-physical_of (concept_plan.Values' pointer start shape names) =
      λ i. values_plan (logical-physical_of start i) (logicals-row names i)
  logical-physical_of (concept_plan.Pairs' back count pointer types test choice) =
      λ i. pairs_plan back count (logical-physical_of types i) (logical_test-physical test i)
  logical-physical_of (concept_plan.Units' count pointer units) = ap (groups_plan count) (logical_groups-physical units)

  logicals-row : {size : Count} (row : Row_of-ConceptPlan size) → logicals (row_of_physicals row) ≡ row_of_plans row
  logicals-row end_of-ConceptPlan = refl
  logicals-row (more_of-ConceptPlan first rest) = λ i. plan_then (logical-physical_of first i) (logicals-row rest i)

  -- a plan of groups in the code, taken as a physical plan and then without its choices, is its plan
  pub logical_groups-physical : (plan : UnitPlan) → logical_groups (physical_groups_of plan) ≡ group_plan_of plan
  logical_groups-physical group_plan.Nothing = refl
  logical_groups-physical group_plan.Every = refl
  logical_groups-physical (group_plan.And' shape parts) = ap and_group_plan (logical_groups-row parts)
  logical_groups-physical (group_plan.Or' shape parts) = ap or_group_plan (logical_groups-row parts)
  logical_groups-physical (group_plan.Minus' pointer first other second) =
      λ i. minus_group_plan (logical_groups-physical first i) (logical_groups-physical second i)
  logical_groups-physical (group_plan.Pairs' count pointer types test choice) =
      λ i. pairs_group_plan count (logical-physical_of types i) (logical_test-physical test i)

  logical_groups-row : {size : Count} (row : Row_of-UnitPlan size)
      → logical_groups_list (row_of_physical_group_plan row) ≡ row_of_group_plan row
  logical_groups-row end_of-UnitPlan = refl
  logical_groups-row (more_of-UnitPlan first rest) =
      λ i. group_plan_then (logical_groups-physical first i) (logical_groups-row rest i)

  -- a test in the code, taken as a physical test and then without its choices, is its test
  pub logical_test-physical : (test : ValueTest) → logical_test (physical_test_of test) ≡ test_plan_of test
  logical_test-physical (value_test.Within' pointer operand) = ap within_plan (logical-physical_of operand)
  logical_test-physical (value_test.Outside' pointer operand) = ap outside_plan (logical-physical_of operand)
  logical_test-physical (value_test.Number compare decimal) = refl
