-- The logical plans that plans of the code stand for.
use Rattle.std.specs.Prelude.{List}
use Rattle.set_algebra.specs.declared.plan.ConceptPlan.{ConceptPlan}
use Rattle.set_algebra.specs.declared.plan.UnitPlan.{UnitPlan}
use Rattle.set_algebra.specs.declared.plan.ValueTest.{ValueTest}
use Rattle.set_algebra.specs.Physical.{logical, logical_test, logical_groups, logical_groups_list, logicals}
use Rattle.set_algebra.specs.Physical.{physical_of}
use Rattle.set_algebra.specs.Physical.{physical_test_of, physical_groups_list_of, physical_groups_of, physicals_of}
use Rattle.set_algebra.specs.Plan.{Plan, PlanOfGroups, Plans, PlansOfGroups, TestPlan}

-- the logical plan that a plan of concepts stands for
abbrev pub logical_of : ConceptPlan → Plan
logical_of plan = logical (physical_of plan)

-- the logical plans that a list of plans of concepts stands for
abbrev pub logicals_of : List ConceptPlan → Plans
logicals_of parts = logicals (physicals_of parts)

-- the logical plan that a plan of groups stands for
abbrev pub logical_groups_of : UnitPlan → PlanOfGroups
logical_groups_of plan = logical_groups (physical_groups_of plan)

-- the logical plans that a list of plans of groups stands for
abbrev pub logical_groups_list_of : List UnitPlan → PlansOfGroups
logical_groups_list_of parts = logical_groups_list (physical_groups_list_of parts)

-- the logical test that a test of the code stands for
abbrev pub logical_test_of : ValueTest → TestPlan
logical_test_of test = logical_test (physical_test_of test)
