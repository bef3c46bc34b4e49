-- The choices that the leaves of a plan get if a caller asks for a list of choices.
use Rattle.std.specs.Prelude.{Bool, if◌then◌else◌, List, [], ◌∷◌, ◌++◌, Option, None, Some, drop}
use Rattle.set_algebra.specs.declared.choice.Choice.{Choice}
use Rattle.set_algebra.specs.Physical.{Physical, physical_empty, physical_all, physical_one, physical_walk}
use Rattle.set_algebra.specs.Physical.{physical_members, physical_and}
use Rattle.set_algebra.specs.Physical.{physical_or, physical_minus, physical_values, physical_pairs, physical_groups}
use Rattle.set_algebra.specs.Physical.{Physicals, no_physicals, physical_then, PhysicalGroups, physical_nothing}
use Rattle.set_algebra.specs.Physical.{physical_every}
use Rattle.set_algebra.specs.Physical.{physical_groups_and, physical_groups_or, physical_groups_minus}
use Rattle.set_algebra.specs.Physical.{physical_groups_pairs}
use Rattle.set_algebra.specs.Physical.{PhysicalGroupsList, no_physical_groups, physical_groups_then}
use Rattle.set_algebra.specs.Physical.{PhysicalTest, physical_within, physical_outside, physical_number}
use Rattle.set_algebra.specs.Plan.{Plan}
use Rattle.postings.specs.Indexed.{Indexed}
use Rattle.plan_bounds.specs.Alternatives.{offers}
use Rattle.plan_bounds.specs.Counts.{is_within}
use Rattle.plan_bounds.specs.Leaves.{choices_in}
use Rattle.planner.specs.Chosen.{chosen}

-- for each leaf, whether its test is `Within`
abbrev mutual
  -- for each leaf of a plan of concepts, a leaf before those below it, whether its test is `Within`
  pub within_tests : Physical → List Bool
  within_tests physical_empty = []
  within_tests physical_all = []
  within_tests (physical_one number) = []
  within_tests (physical_walk operator operand) = within_tests operand
  within_tests (physical_members operand) = within_tests operand
  within_tests (physical_and parts) = plans_within parts
  within_tests (physical_or parts) = plans_within parts
  within_tests (physical_minus first second) = within_tests first ++ within_tests second
  within_tests (physical_values start names) = within_tests start ++ plans_within names
  within_tests (physical_pairs back count types test choice) =
      is_within test ∷ (within_tests types ++ test_within test)
  within_tests (physical_groups count units) = group_within units

  -- for each leaf of the plans of concepts in a list, whether its test is `Within`
  pub plans_within : Physicals → List Bool
  plans_within no_physicals = []
  plans_within (physical_then first rest) = within_tests first ++ plans_within rest

  -- for each leaf of a plan of groups, whether its test is `Within`
  pub group_within : PhysicalGroups → List Bool
  group_within physical_nothing = []
  group_within physical_every = []
  group_within (physical_groups_and parts) = groups_within parts
  group_within (physical_groups_or parts) = groups_within parts
  group_within (physical_groups_minus first second) = group_within first ++ group_within second
  group_within (physical_groups_pairs count types test choice) =
      is_within test ∷ (within_tests types ++ test_within test)

  -- for each leaf of the plans of groups in a list, whether its test is `Within`
  pub groups_within : PhysicalGroupsList → List Bool
  groups_within no_physical_groups = []
  groups_within (physical_groups_then first rest) = group_within first ++ groups_within rest

  -- for each leaf of the plan of a test, whether the leaf's own test is `Within`
  pub test_within : PhysicalTest → List Bool
  test_within (physical_within operand) = within_tests operand
  test_within (physical_outside operand) = within_tests operand
  test_within (physical_number compare number) = []

-- the first choice of a list, if it has one
abbrev pub first_of : List Choice → Option Choice
first_of [] = None
first_of (choice ∷ choices) = Some choice

-- the requested choice if there is one and the leaf offers it, and otherwise `other`
abbrev pub asked_or : Bool → Option Choice → Choice → Choice
asked_or within (Some choice) other = if offers within choice then choice else other
asked_or within None other = other

-- for each leaf, its entry in `asked` if there is one and the leaf offers it, and otherwise its
-- entry in `others`
abbrev pub each_asked_or : List Bool → List Choice → List Choice → List Choice
each_asked_or [] asked others = []
each_asked_or (within ∷ tests) asked [] = []
each_asked_or (within ∷ tests) asked (other ∷ others) =
    asked_or within (first_of asked) other ∷ each_asked_or tests (drop 1 asked) others

-- for each leaf, its entry in `asked` if there is one and the leaf offers it, and otherwise the
-- choice of least bound
abbrev pub choices_with : Indexed → List Choice → Plan → List Choice
choices_with indexed asked plan =
    let least = chosen indexed plan in
    each_asked_or (within_tests least) asked (choices_in least)
