-- The choices of least bound: each leaf takes the alternative with the least bound, after the
-- leaves below it have theirs.
use Rattle.std.specs.Prelude.{false, List, length}
use Rattle.set_algebra.specs.declared.choice.Choice.{Choice}
use Rattle.set_algebra.specs.Physical.{Physical, physical_empty, physical_all, physical_one, physical_walk}
use Rattle.set_algebra.specs.Physical.{physical_members, physical_and}
use Rattle.set_algebra.specs.Physical.{physical_or, physical_minus, physical_values, physical_pairs, physical_groups}
use Rattle.set_algebra.specs.Physical.{Physicals, no_physicals, physical_then, PhysicalGroups, physical_nothing}
use Rattle.set_algebra.specs.Physical.{physical_every}
use Rattle.set_algebra.specs.Physical.{physical_groups_and, physical_groups_or, physical_groups_minus}
use Rattle.set_algebra.specs.Physical.{physical_groups_pairs}
use Rattle.set_algebra.specs.Physical.{PhysicalGroupsList, no_physical_groups, physical_groups_then}
use Rattle.set_algebra.specs.Physical.{PhysicalTest, physical_within, physical_outside, physical_number}
use Rattle.set_algebra.specs.Plan.{Plan, empty_plan, all_plan, one_plan, walk_plan, members_plan, and_plan, or_plan}
use Rattle.set_algebra.specs.Plan.{minus_plan}
use Rattle.set_algebra.specs.Plan.{values_plan, pairs_plan, groups_plan, Plans, no_plans, plan_then}
use Rattle.set_algebra.specs.Plan.{PlanOfGroups, nothing_group, every_group, and_group_plan, or_group_plan}
use Rattle.set_algebra.specs.Plan.{minus_group_plan, pairs_group_plan}
use Rattle.set_algebra.specs.Plan.{PlansOfGroups, no_group_plans, group_plan_then, TestPlan, within_plan, outside_plan}
use Rattle.set_algebra.specs.Plan.{number_plan}
use Rattle.postings.specs.Groups.{groups_in}
use Rattle.postings.specs.Indexed.{Indexed}
use Rattle.plan_bounds.specs.Alternatives.{least_choice}
use Rattle.plan_bounds.specs.Leaves.{choices_in}
use Rattle.plan_bounds.specs.Sizes.{leaf_at}

abbrev mutual
  -- the plan of concepts with the choices of least bound
  pub chosen : Indexed → Plan → Physical
  chosen indexed empty_plan = physical_empty
  chosen indexed all_plan = physical_all
  chosen indexed (one_plan number) = physical_one number
  chosen indexed (walk_plan operator operand) = physical_walk operator (chosen indexed operand)
  chosen indexed (members_plan operand) = physical_members (chosen indexed operand)
  chosen indexed (and_plan parts) = physical_and (all_chosen indexed parts)
  chosen indexed (or_plan parts) = physical_or (all_chosen indexed parts)
  chosen indexed (minus_plan first second) =
      physical_minus (chosen indexed first) (chosen indexed second)
  chosen indexed (values_plan start names) =
      physical_values (chosen indexed start) (all_chosen indexed names)
  chosen indexed (pairs_plan back count types test) =
      let inner = chosen indexed types in
      let last = test_chosen indexed test in
      physical_pairs back count inner last
      (least_choice (leaf_at indexed (length indexed.concepts) back count inner last))
  chosen indexed (groups_plan count units) = physical_groups count (group_chosen indexed units)

  -- the plans of concepts of a list with the choices of least bound
  pub all_chosen : Indexed → Plans → Physicals
  all_chosen indexed no_plans = no_physicals
  all_chosen indexed (plan_then first rest) =
      physical_then (chosen indexed first) (all_chosen indexed rest)

  -- the plan of groups with the choices of least bound
  pub group_chosen : Indexed → PlanOfGroups → PhysicalGroups
  group_chosen indexed nothing_group = physical_nothing
  group_chosen indexed every_group = physical_every
  group_chosen indexed (and_group_plan parts) = physical_groups_and (groups_chosen indexed parts)
  group_chosen indexed (or_group_plan parts) = physical_groups_or (groups_chosen indexed parts)
  group_chosen indexed (minus_group_plan first second) =
      physical_groups_minus (group_chosen indexed first) (group_chosen indexed second)
  group_chosen indexed (pairs_group_plan count types test) =
      let inner = chosen indexed types in
      let last = test_chosen indexed test in
      physical_groups_pairs count inner last
      (least_choice (leaf_at indexed (length (groups_in indexed)) false count inner last))

  -- the plans of groups of a list with the choices of least bound
  pub groups_chosen : Indexed → PlansOfGroups → PhysicalGroupsList
  groups_chosen indexed no_group_plans = no_physical_groups
  groups_chosen indexed (group_plan_then first rest) =
      physical_groups_then (group_chosen indexed first) (groups_chosen indexed rest)

  -- the test with the choices of least bound in its plan
  pub test_chosen : Indexed → TestPlan → PhysicalTest
  test_chosen indexed (within_plan operand) = physical_within (chosen indexed operand)
  test_chosen indexed (outside_plan operand) = physical_outside (chosen indexed operand)
  test_chosen indexed (number_plan compare number) = physical_number compare number

-- the choices that the leaves of a plan get if the caller asks for none
abbrev pub least_choices : Indexed → Plan → List Choice
least_choices indexed plan = choices_in (chosen indexed plan)
