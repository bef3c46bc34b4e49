-- The choices of the leaves of a physical plan. A leaf is a node that counts pairs of concepts or
-- of groups. A node comes before its children, these come in the order of the plan, and the types
-- of a leaf come before its test.
use Rattle.std.specs.Prelude.{ℕ, suc, List, [], ◌∷◌, ◌++◌}
use Rattle.set_algebra.specs.declared.choice.Choice.{Choice}
use Rattle.set_algebra.specs.Physical.{Physical, physical_empty, physical_all, physical_one, physical_walk}
use Rattle.set_algebra.specs.Physical.{physical_members, physical_and}
use Rattle.set_algebra.specs.Physical.{physical_or, physical_minus, physical_values, physical_pairs, physical_groups}
use Rattle.set_algebra.specs.Physical.{Physicals, no_physicals, physical_then, PhysicalGroups, physical_nothing}
use Rattle.set_algebra.specs.Physical.{physical_every}
use Rattle.set_algebra.specs.Physical.{physical_groups_and, physical_groups_or, physical_groups_minus}
use Rattle.set_algebra.specs.Physical.{physical_groups_pairs}
use Rattle.set_algebra.specs.Physical.{PhysicalGroupsList, no_physical_groups, physical_groups_then}
use Rattle.set_algebra.specs.Physical.{PhysicalTest, physical_within, physical_outside, physical_number}

-- the choices of the leaves
abbrev mutual
  -- the choices of the leaves of a plan of concepts
  pub choices_in : Physical → List Choice
  choices_in physical_empty = []
  choices_in physical_all = []
  choices_in (physical_one number) = []
  choices_in (physical_walk operator operand) = choices_in operand
  choices_in (physical_members operand) = choices_in operand
  choices_in (physical_and parts) = choices_in_each parts
  choices_in (physical_or parts) = choices_in_each parts
  choices_in (physical_minus first second) = choices_in first ++ choices_in second
  choices_in (physical_values start names) = choices_in start ++ choices_in_each names
  choices_in (physical_pairs back count types test choice) =
      choice ∷ (choices_in types ++ choices_in_test test)
  choices_in (physical_groups count units) = choices_in_groups units

  -- the choices of the leaves of the plans of concepts in a list
  pub choices_in_each : Physicals → List Choice
  choices_in_each no_physicals = []
  choices_in_each (physical_then first rest) = choices_in first ++ choices_in_each rest

  -- the choices of the leaves of a plan of groups
  pub choices_in_groups : PhysicalGroups → List Choice
  choices_in_groups physical_nothing = []
  choices_in_groups physical_every = []
  choices_in_groups (physical_groups_and parts) = choices_in_each_groups parts
  choices_in_groups (physical_groups_or parts) = choices_in_each_groups parts
  choices_in_groups (physical_groups_minus first second) =
      choices_in_groups first ++ choices_in_groups second
  choices_in_groups (physical_groups_pairs count types test choice) =
      choice ∷ (choices_in types ++ choices_in_test test)

  -- the choices of the leaves of the plans of groups in a list
  pub choices_in_each_groups : PhysicalGroupsList → List Choice
  choices_in_each_groups no_physical_groups = []
  choices_in_each_groups (physical_groups_then first rest) =
      choices_in_groups first ++ choices_in_each_groups rest

  -- the choices of the leaves of the plan of a test, if it has one
  pub choices_in_test : PhysicalTest → List Choice
  choices_in_test (physical_within operand) = choices_in operand
  choices_in_test (physical_outside operand) = choices_in operand
  choices_in_test (physical_number compare number) = []

-- the number of plans of concepts in a list
abbrev pub plan_count : Physicals → ℕ
plan_count no_physicals = 0
plan_count (physical_then first rest) = suc (plan_count rest)

-- the number of plans of groups in a list
abbrev pub group_count : PhysicalGroupsList → ℕ
group_count no_physical_groups = 0
group_count (physical_groups_then first rest) = suc (group_count rest)
