-- How many items a plan visits at least, if none of its nodes is skipped. Here the own floor of a
-- node is its floor without those of its children.
use Rattle.std.specs.Prelude.{ℕ, Bool, false, Option, None, Some, if◌then◌else◌, length, ◌≤◌}
use Rattle.set_algebra.specs.Physical.{Physical, physical_empty, physical_all, physical_one, physical_walk}
use Rattle.set_algebra.specs.Physical.{physical_members, physical_and, physical_or, physical_minus, physical_values}
use Rattle.set_algebra.specs.Physical.{physical_pairs, physical_groups, PhysicalGroups, physical_nothing}
use Rattle.set_algebra.specs.Physical.{physical_every, physical_groups_and, physical_groups_or, physical_groups_minus}
use Rattle.set_algebra.specs.Physical.{physical_groups_pairs, PhysicalTest, physical_within, physical_outside}
use Rattle.set_algebra.specs.Physical.{physical_number}
use Rattle.held_release.specs.Numbering.{concept_number}
use Rattle.postings.specs.Indexed.{Indexed}
use Rattle.postings.specs.Stats.{type_row_count}
use Rattle.set_algebra.specs.declared.choice.Choice.{Choice}
use Rattle.set_algebra.specs.declared.choice.Choice.TheVariants.{ByValue, ByType, Scan}
use Rattle.plan_bounds.specs.Bounds.{bound}
use Rattle.plan_bounds.specs.Counts.{is_extreme, list_length, member_count, one_of, value_row_count}
use Rattle.plan_bounds.specs.Nodes.{NodeNumber, node_sum}

-- `count` if a concept is in force and so has a number, or else 0
abbrev pub if_in_force : Option ℕ → ℕ → ℕ
if_in_force (Some number) count = count
if_in_force None count = 0

-- the result of `count` for the identifier `id` if there is one and its concept is in force, or
-- else 0
abbrev pub of_one : Indexed → Option ℕ → (ℕ → ℕ) → ℕ
of_one indexed (Some id) count = if_in_force (concept_number indexed.concepts id) (count id)
of_one indexed None count = 0

-- how many rows have the value (with `back`, the source) that a test allows, if the test is
-- `Within` one concept in force, or else 0
abbrev pub within_floor : Indexed → Bool → PhysicalTest → ℕ
within_floor indexed back (physical_within values) =
    of_one indexed (one_of values) (value_row_count indexed back)
within_floor indexed back (physical_outside values) = 0
within_floor indexed back (physical_number compare number) = 0

-- how many rows a leaf reads at least. By `Scan` it is the number of all rows. By `ByValue` it is
-- the number of rows with the test's value, and by `ByType` with the leaf's type, if that plan is
-- one concept in force, or else 0
abbrev pub leaf_floor : Indexed → Bool → Physical → PhysicalTest → Choice → ℕ
leaf_floor indexed back types test ByValue = within_floor indexed back test
leaf_floor indexed back types test ByType = of_one indexed (one_of types) (type_row_count indexed)
leaf_floor indexed back types test Scan = length indexed.rows

-- the own floor of a node of concepts: how many items it visits at least, without the visits of its
-- children
abbrev pub own_floor : Indexed → Physical → ℕ
own_floor indexed physical_empty = 0
own_floor indexed physical_all = 0
own_floor indexed (physical_one number) = 0
own_floor indexed (physical_walk operator operand) =
    if is_extreme operator then 0 else of_one indexed (one_of operand)
    (list_length indexed operator)
own_floor indexed (physical_members operand) =
    of_one indexed (one_of operand) (member_count indexed)
own_floor indexed (physical_and parts) = 0
own_floor indexed (physical_or parts) = 0
own_floor indexed (physical_minus first second) = 0
own_floor indexed (physical_values start names) = 0
own_floor indexed (physical_pairs back count types test choice) =
    leaf_floor indexed back types test choice
own_floor indexed (physical_groups count units) = 0

-- the own floor of a node of groups: how many items it visits at least, without the visits of its
-- children
abbrev pub group_own_floor : Indexed → PhysicalGroups → ℕ
group_own_floor indexed physical_nothing = 0
group_own_floor indexed physical_every = 0
group_own_floor indexed (physical_groups_and parts) = 0
group_own_floor indexed (physical_groups_or parts) = 0
group_own_floor indexed (physical_groups_minus first second) = 0
group_own_floor indexed (physical_groups_pairs count types test choice) =
    leaf_floor indexed false types test choice

-- the own floor of each node
abbrev pub floor_number : Indexed → NodeNumber
floor_number indexed = record { of_plan = own_floor indexed; of_group = group_own_floor indexed }

-- the floor of a plan of concepts: the sum of the own floors of its nodes
abbrev pub floor : Indexed → Physical → ℕ
floor indexed plan = node_sum (floor_number indexed) plan

-- no plan has a floor above its bound, whatever choices its leaves have
abbrev pub FloorWithinBound : Type 0
FloorWithinBound = (indexed : Indexed) (plan : Physical) → floor indexed plan ≤ bound indexed plan
