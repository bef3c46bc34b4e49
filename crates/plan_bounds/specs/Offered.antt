-- Two properties of physical plans: each leaf offers its choice, and each choice has the least
-- bound.
use Rattle.std.specs.Prelude.{ℕ, Bool, false, IsTrue, length}
use Rattle.constraint_tree.specs.declared.operator.Cardinality.{Cardinality}
use Rattle.set_algebra.specs.Physical.{Physical, physical_empty, physical_all, physical_one, physical_walk}
use Rattle.set_algebra.specs.Physical.{physical_members, physical_and, physical_or, physical_minus, physical_values}
use Rattle.set_algebra.specs.Physical.{physical_pairs, physical_groups, Physicals, no_physicals, physical_then}
use Rattle.set_algebra.specs.Physical.{PhysicalGroups, physical_nothing, physical_every, physical_groups_and}
use Rattle.set_algebra.specs.Physical.{physical_groups_or, physical_groups_minus, physical_groups_pairs}
use Rattle.set_algebra.specs.Physical.{PhysicalGroupsList, no_physical_groups, physical_groups_then, PhysicalTest}
use Rattle.set_algebra.specs.Physical.{physical_within, physical_outside, physical_number}
use Rattle.postings.specs.Groups.{groups_in}
use Rattle.postings.specs.Indexed.{Indexed}
use Rattle.set_algebra.specs.declared.choice.Choice.{Choice}
use Rattle.plan_bounds.specs.Alternatives.{IsLeast, offers}
use Rattle.plan_bounds.specs.Counts.{is_within}
use Rattle.plan_bounds.specs.Sizes.{leaf_at}

-- a statement about a leaf and its choice. Its first argument gives the number of concepts, or of
-- groups, in the indexes
abbrev pub LeafFact : Type 1
LeafFact = (Indexed → ℕ) → Bool → Cardinality → Physical → PhysicalTest → Choice → Type 0

-- the number of concepts in the indexes
abbrev pub all_concepts : Indexed → ℕ
all_concepts indexed = length indexed.concepts

-- the number of groups in the indexes
abbrev pub every_group_in : Indexed → ℕ
every_group_in indexed = length (groups_in indexed)

-- a statement holds for each leaf
abbrev mutual
  -- a statement holds for each leaf of a plan of concepts
  pub EachLeaf : LeafFact → Physical → Type 0
  EachLeaf Holds physical_empty = Unit {0}
  EachLeaf Holds physical_all = Unit {0}
  EachLeaf Holds (physical_one number) = Unit {0}
  EachLeaf Holds (physical_walk operator operand) = EachLeaf Holds operand
  EachLeaf Holds (physical_members operand) = EachLeaf Holds operand
  EachLeaf Holds (physical_and parts) = PlansEach Holds parts
  EachLeaf Holds (physical_or parts) = PlansEach Holds parts
  EachLeaf Holds (physical_minus first second) = EachLeaf Holds first × EachLeaf Holds second
  EachLeaf Holds (physical_values start names) = EachLeaf Holds start × PlansEach Holds names
  EachLeaf Holds (physical_pairs back count types test choice) =
      Holds all_concepts back count types test choice × EachLeaf Holds types × TestEach Holds test
  EachLeaf Holds (physical_groups count units) = GroupEach Holds units

  -- a statement holds for each leaf of the plans of concepts in a list
  pub PlansEach : LeafFact → Physicals → Type 0
  PlansEach Holds no_physicals = Unit {0}
  PlansEach Holds (physical_then first rest) = EachLeaf Holds first × PlansEach Holds rest

  -- a statement holds for each leaf of a plan of groups
  pub GroupEach : LeafFact → PhysicalGroups → Type 0
  GroupEach Holds physical_nothing = Unit {0}
  GroupEach Holds physical_every = Unit {0}
  GroupEach Holds (physical_groups_and parts) = GroupsEach Holds parts
  GroupEach Holds (physical_groups_or parts) = GroupsEach Holds parts
  GroupEach Holds (physical_groups_minus first second) =
      GroupEach Holds first × GroupEach Holds second
  GroupEach Holds (physical_groups_pairs count types test choice) =
      Holds every_group_in false count types test choice × EachLeaf Holds types
      × TestEach Holds test

  -- a statement holds for each leaf of the plans of groups in a list
  pub GroupsEach : LeafFact → PhysicalGroupsList → Type 0
  GroupsEach Holds no_physical_groups = Unit {0}
  GroupsEach Holds (physical_groups_then first rest) = GroupEach Holds first × GroupsEach Holds rest

  -- a statement holds for each leaf of the plan of a test
  pub TestEach : LeafFact → PhysicalTest → Type 0
  TestEach Holds (physical_within operand) = EachLeaf Holds operand
  TestEach Holds (physical_outside operand) = EachLeaf Holds operand
  TestEach Holds (physical_number compare number) = Unit {0}

-- a leaf offers its choice
abbrev pub IsOffered : LeafFact
IsOffered all back count types test choice = IsTrue (offers (is_within test) choice)

-- each leaf of a plan offers its choice
abbrev pub AreOffered : Physical → Type 0
AreOffered plan = EachLeaf IsOffered plan

-- the choice of a leaf is the first with the least bound, given the choices of the leaves below it
abbrev pub IsLeastAt : Indexed → LeafFact
IsLeastAt indexed all back count types test choice =
    IsLeast (leaf_at indexed (all indexed) back count types test) choice

-- the choice of each leaf of a plan is the first with the least bound, given the choices of the
-- leaves below it
abbrev pub AreLeast : Indexed → Physical → Type 0
AreLeast indexed plan = EachLeaf (IsLeastAt indexed) plan
