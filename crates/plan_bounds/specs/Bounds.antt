-- How many items a plan visits at most: each node alone, and all nodes together. A visit is the
-- reading of one item, from a list of the indexes or from what a part of the plan has found. Here
-- the own bound of a node is its bound without those of its children.
use Rattle.std.specs.Prelude.{ℕ, Bool, ◌+◌, ◌*◌, ◌-◌, ◌==◌, ◌^◌, if◌then◌else◌, List, [], ◌∷◌, Option, None, Some}
use Rattle.std.specs.Prelude.{false, length, min}
use Rattle.constraint_tree.specs.declared.operator.Cardinality.{Cardinality}
use Rattle.constraint_tree.specs.declared.operator.Operator.{Operator}
use Rattle.set_algebra.specs.Physical.{Physical, physical_empty, physical_all, physical_one, physical_walk}
use Rattle.set_algebra.specs.Physical.{physical_members, physical_and, physical_or, physical_minus, physical_values}
use Rattle.set_algebra.specs.Physical.{physical_pairs, physical_groups, PhysicalGroups, physical_nothing}
use Rattle.set_algebra.specs.Physical.{physical_every, physical_groups_and, physical_groups_or, physical_groups_minus}
use Rattle.set_algebra.specs.Physical.{physical_groups_pairs, PhysicalTest}
use Rattle.postings.specs.Groups.{groups_in}
use Rattle.postings.specs.Indexed.{Indexed}
use Rattle.postings.specs.Stats.{stats_in}
use Rattle.set_algebra.specs.declared.choice.Choice.{Choice}
use Rattle.plan_bounds.specs.Alternatives.{leaf_bound, passed_over}
use Rattle.plan_bounds.specs.Counts.{list_length, lists_length, member_count, one_of}
use Rattle.plan_bounds.specs.Leaves.{group_count, plan_count}
use Rattle.plan_bounds.specs.Nodes.{NodeList, NodeNumber, node_list, node_sum}
use Rattle.plan_bounds.specs.Sizes.{group_size, group_sizes, leaf_at, size, sizes, total}

-- the own bound of a walk whose operand is the one concept `id`, or a set of at most `size`
-- concepts
abbrev pub walk_bound : Indexed → Operator → Option ℕ → ℕ → ℕ
walk_bound indexed operator (Some id) size = 1 + list_length indexed operator id
walk_bound indexed operator None size = size + lists_length indexed operator

-- the own bound of a node of members whose operand is the one reference set `id`, or a set of at
-- most `size` reference sets
abbrev pub members_bound : Indexed → Option ℕ → ℕ → ℕ
members_bound indexed (Some id) size = 1 + member_count indexed id
members_bound indexed None size = size + (stats_in indexed).m

-- the own bound of a dotted node with `types` types whose start finds at most `size` concepts
abbrev pub values_bound : Indexed → ℕ → ℕ → ℕ
values_bound indexed types size =
    if types == 0 then 0
    else (size + length indexed.rows)
    + (types - 1) * (min (length indexed.concepts) (length indexed.rows) + length indexed.rows)

-- the own bound of a leaf over `all` concepts or groups
abbrev pub leaf_bound_at : Indexed → ℕ → Bool → Cardinality → Physical → PhysicalTest → Choice → ℕ
leaf_bound_at indexed all back count types test choice =
    leaf_bound (leaf_at indexed all back count types test) choice

-- the own bound of a node of concepts: how many items it visits at most, without the visits of its
-- children
abbrev pub own_bound : Indexed → Physical → ℕ
own_bound indexed physical_empty = 0
own_bound indexed physical_all = 0
own_bound indexed (physical_one number) = 0
own_bound indexed (physical_walk operator operand) =
    walk_bound indexed operator (one_of operand) (size indexed operand)
own_bound indexed (physical_members operand) =
    members_bound indexed (one_of operand) (size indexed operand)
own_bound indexed (physical_and parts) = 2 * total (sizes indexed parts)
own_bound indexed (physical_or parts) = plan_count parts * total (sizes indexed parts)
own_bound indexed (physical_minus first second) = size indexed first + size indexed second
own_bound indexed (physical_values start names) =
    values_bound indexed (plan_count names) (size indexed start)
own_bound indexed (physical_pairs back count types test choice) =
    leaf_bound_at indexed (length indexed.concepts) back count types test choice
own_bound indexed (physical_groups count units) =
    group_size indexed units + passed_over (count.min == 0) (length indexed.concepts)

-- the own bound of a node of groups: how many items it visits at most, without the visits of its
-- children
abbrev pub group_own_bound : Indexed → PhysicalGroups → ℕ
group_own_bound indexed physical_nothing = 0
group_own_bound indexed physical_every = 0
group_own_bound indexed (physical_groups_and parts) = 2 * total (group_sizes indexed parts)
group_own_bound indexed (physical_groups_or parts) =
    group_count parts * total (group_sizes indexed parts)
group_own_bound indexed (physical_groups_minus first second) =
    group_size indexed first + group_size indexed second
group_own_bound indexed (physical_groups_pairs count types test choice) =
    leaf_bound_at indexed (length (groups_in indexed)) false count types test choice

-- the own bound of each node
abbrev pub own_number : Indexed → NodeNumber
own_number indexed = record { of_plan = own_bound indexed; of_group = group_own_bound indexed }

-- the bound of a plan of concepts: the sum of the own bounds of its nodes
abbrev pub bound : Indexed → Physical → ℕ
bound indexed plan = node_sum (own_number indexed) plan

-- the number, or the largest number of 64 bits if it is larger
abbrev pub capped : ℕ → ℕ
capped number = min number (2 ^ 64 - 1)

-- for each node, the list of its own bound alone, capped at 64 bits
abbrev pub own_list : Indexed → NodeList
own_list indexed = record {
  of_plan = λ plan. capped (own_bound indexed plan) ∷ [];
  of_group = λ plan. capped (group_own_bound indexed plan) ∷ [];
}

-- the own bounds of all nodes of a plan, capped at 64 bits, a node before its children
abbrev pub own_bounds : Indexed → Physical → List ℕ
own_bounds indexed plan = node_list (own_list indexed) plan
