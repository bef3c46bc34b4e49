-- How many concepts or groups a physical plan finds at most.
use Rattle.std.specs.Prelude.{ℕ, Bool, false, ◌+◌, ◌==◌, if◌then◌else◌, List, [], ◌∷◌, Option, None, Some, length, min}
use Rattle.constraint_tree.specs.declared.operator.Cardinality.{Cardinality}
use Rattle.constraint_tree.specs.declared.operator.Operator.{Operator}
use Rattle.set_algebra.specs.Physical.{Physical, physical_empty, physical_all, physical_one, physical_walk}
use Rattle.set_algebra.specs.Physical.{physical_members, physical_and, physical_or, physical_minus, physical_values}
use Rattle.set_algebra.specs.Physical.{physical_pairs, physical_groups, Physicals, no_physicals, physical_then}
use Rattle.set_algebra.specs.Physical.{PhysicalGroups, physical_nothing, physical_every, physical_groups_and}
use Rattle.set_algebra.specs.Physical.{physical_groups_or, physical_groups_minus, physical_groups_pairs}
use Rattle.set_algebra.specs.Physical.{PhysicalGroupsList, no_physical_groups, physical_groups_then, PhysicalTest}
use Rattle.set_algebra.specs.Physical.{physical_within, physical_outside, physical_number}
use Rattle.postings.specs.Groups.{groups_in}
use Rattle.postings.specs.Indexed.{Indexed}
use Rattle.postings.specs.Stats.{stats_in}
use Rattle.plan_bounds.specs.declared.leaf.Leaf.{Leaf}
use Rattle.plan_bounds.specs.Alternatives.{found_by, leaf_size}
use Rattle.plan_bounds.specs.Counts.{is_extreme, leads_to_self, leaf_of, list_length, member_count, one_of}
use Rattle.plan_bounds.specs.Leaves.{plan_count}

-- how many concepts a walk finds at most, if its operand is the one concept `id`, or a set of at
-- most `size` concepts
abbrev pub walk_size : Indexed → Operator → Option ℕ → ℕ → ℕ
walk_size indexed operator (Some id) size =
    if is_extreme operator then 1 else list_length indexed operator id
    + (if leads_to_self operator then 1 else 0)
walk_size indexed operator None size = if is_extreme operator then size else length indexed.concepts

-- how many concepts a node of members finds at most, if its operand is the one reference set `id`,
-- or any set
abbrev pub members_size : Indexed → Option ℕ → ℕ
members_size indexed (Some id) = min (length indexed.concepts) (member_count indexed id)
members_size indexed None = min (length indexed.concepts) (stats_in indexed).m

-- how many values a dotted node with `types` types finds at most, if its start finds at most `size`
-- concepts
abbrev pub values_size : Indexed → ℕ → ℕ → ℕ
values_size indexed types size =
    if types == 0 then size else min (length indexed.concepts) (length indexed.rows)

-- the sum of the numbers of a list
abbrev pub total : List ℕ → ℕ
total [] = 0
total (number ∷ numbers) = number + total numbers

-- the least of `least` and the numbers of a list
abbrev pub least_from : ℕ → List ℕ → ℕ
least_from least [] = least
least_from least (number ∷ numbers) = least_from (min least number) numbers

-- the least number of a list, or `other` if the list is empty
abbrev pub least_of : ℕ → List ℕ → ℕ
least_of other [] = other
least_of other (number ∷ numbers) = least_from number numbers

abbrev mutual
  -- how many concepts a plan of concepts finds at most
  pub size : Indexed → Physical → ℕ
  size indexed physical_empty = 0
  size indexed physical_all = length indexed.concepts
  size indexed (physical_one number) = 1
  size indexed (physical_walk operator operand) =
      walk_size indexed operator (one_of operand) (size indexed operand)
  size indexed (physical_members operand) = members_size indexed (one_of operand)
  size indexed (physical_and parts) = least_of (length indexed.concepts) (sizes indexed parts)
  size indexed (physical_or parts) = min (length indexed.concepts) (total (sizes indexed parts))
  size indexed (physical_minus first second) = size indexed first
  size indexed (physical_values start names) =
      values_size indexed (plan_count names) (size indexed start)
  size indexed (physical_pairs back count types test choice) =
      leaf_size
      (leaf_of indexed (length indexed.concepts) back count types test (size indexed types)
      (test_size indexed test))
      choice
  size indexed (physical_groups count units) =
      found_by (count.min == 0) (length indexed.concepts) (group_size indexed units)

  -- for each plan of concepts in a list, how many concepts it finds at most
  pub sizes : Indexed → Physicals → List ℕ
  sizes indexed no_physicals = []
  sizes indexed (physical_then first rest) = size indexed first ∷ sizes indexed rest

  -- how many groups a plan of groups finds at most
  pub group_size : Indexed → PhysicalGroups → ℕ
  group_size indexed physical_nothing = 0
  group_size indexed physical_every = length (groups_in indexed)
  group_size indexed (physical_groups_and parts) =
      least_of (length (groups_in indexed)) (group_sizes indexed parts)
  group_size indexed (physical_groups_or parts) =
      min (length (groups_in indexed)) (total (group_sizes indexed parts))
  group_size indexed (physical_groups_minus first second) = group_size indexed first
  group_size indexed (physical_groups_pairs count types test choice) =
      leaf_size
      (leaf_of indexed (length (groups_in indexed)) false count types test (size indexed types)
      (test_size indexed test))
      choice

  -- for each plan of groups in a list, how many groups it finds at most
  pub group_sizes : Indexed → PhysicalGroupsList → List ℕ
  group_sizes indexed no_physical_groups = []
  group_sizes indexed (physical_groups_then first rest) =
      group_size indexed first ∷ group_sizes indexed rest

  -- how many concepts the plan of a test finds at most, or 0 if the test has no plan
  pub test_size : Indexed → PhysicalTest → ℕ
  test_size indexed (physical_within operand) = size indexed operand
  test_size indexed (physical_outside operand) = size indexed operand
  test_size indexed (physical_number compare number) = 0

-- the counts of a leaf over `all` concepts or groups, with the sizes of its types and of the plan
-- of its test
abbrev pub leaf_at : Indexed → ℕ → Bool → Cardinality → Physical → PhysicalTest → Leaf
leaf_at indexed all back count types test =
    leaf_of indexed all back count types test (size indexed types) (test_size indexed test)
