-- No plan has a floor above its bound.
use Rattle.std.proofs.Common.{ℕ, ◌≤◌, Bool, true, false, cond, Option, None, Some, length, arith}
use Rattle.set_algebra.specs.Physical.{Physical, physical_empty, physical_all, physical_one, physical_walk}
use Rattle.set_algebra.specs.Physical.{physical_members, physical_and, physical_or, physical_minus, physical_values}
use Rattle.set_algebra.specs.Physical.{physical_pairs, physical_groups, Physicals, no_physicals, physical_then}
use Rattle.set_algebra.specs.Physical.{PhysicalGroups, physical_nothing, physical_every, physical_groups_and}
use Rattle.set_algebra.specs.Physical.{physical_groups_or, physical_groups_minus, physical_groups_pairs}
use Rattle.set_algebra.specs.Physical.{PhysicalGroupsList, no_physical_groups, physical_groups_then, PhysicalTest}
use Rattle.set_algebra.specs.Physical.{physical_within, physical_outside, physical_number}
use Rattle.constraint_tree.specs.declared.operator.Operator.{Operator}
use Rattle.held_release.specs.Numbering.{concept_number}
use Rattle.postings.specs.Groups.{groups_in}
use Rattle.postings.specs.Indexed.{Indexed}
use Rattle.postings.specs.Stats.{type_row_count}
use Rattle.set_algebra.specs.declared.choice.Choice.{Choice}
use Rattle.set_algebra.specs.declared.choice.Choice.TheVariants.{ByValue, ByType, Scan}
use Rattle.plan_bounds.specs.Alternatives.{leaf_bound}
use Rattle.plan_bounds.specs.Bounds.{bound, group_own_bound, members_bound, own_bound, own_number, walk_bound}
use Rattle.plan_bounds.specs.Counts.{is_extreme, leaf_of, list_length, member_count, one_of, rows_left, value_row_count}
use Rattle.plan_bounds.specs.Floors.{floor, floor_number, group_own_floor, if_in_force, leaf_floor, of_one, own_floor}
use Rattle.plan_bounds.specs.Nodes.{NodeNumber, group_sum, groups_sum, node_sum, plans_sum, test_sum}
use Rattle.plan_bounds.specs.Sizes.{size, test_size}

-- ---- sums of numbers that are ordered at each node
module _ (one other : NodeNumber) (plans : (plan : Physical) → one.of_plan plan ≤ other.of_plan plan)
    (groups : (plan : PhysicalGroups) → one.of_group plan ≤ other.of_group plan) where
  mutual
    -- if at each node the number `one` is at most the number `other`, then the sum of `one` over a plan of concepts
    -- is at most the sum of `other`
    pub node_sum-le : (plan : Physical) → node_sum one plan ≤ node_sum other plan
    node_sum-le physical_empty = plans physical_empty
    node_sum-le physical_all = plans physical_all
    node_sum-le (physical_one number) = plans (physical_one number)
    node_sum-le (physical_walk operator operand) =
        omega (arith, plans (physical_walk operator operand), node_sum-le operand)
    node_sum-le (physical_members operand) = omega (arith, plans (physical_members operand), node_sum-le operand)
    node_sum-le (physical_and parts) = omega (arith, plans (physical_and parts), plans_sum-le parts)
    node_sum-le (physical_or parts) = omega (arith, plans (physical_or parts), plans_sum-le parts)
    node_sum-le (physical_minus first second) =
        omega (arith, plans (physical_minus first second), node_sum-le first, node_sum-le second)
    node_sum-le (physical_values start names) =
        omega (arith, plans (physical_values start names), node_sum-le start, plans_sum-le names)
    node_sum-le (physical_pairs back count types test choice) =
        omega (
          arith,
          plans (physical_pairs back count types test choice),
          node_sum-le types,
          test_sum-le test,
        )
    node_sum-le (physical_groups count units) = omega (arith, plans (physical_groups count units), group_sum-le units)

    -- the sum of `one` over several plans of concepts is at most the sum of `other`
    plans_sum-le : (parts : Physicals) → plans_sum one parts ≤ plans_sum other parts
    plans_sum-le no_physicals = omega arith
    plans_sum-le (physical_then first rest) =
        omega (arith, node_sum-le first, plans_sum-le rest)

    -- if at each node the number `one` is at most the number `other`, then the sum of `one` over a plan of groups is
    -- at most the sum of `other`
    pub group_sum-le : (plan : PhysicalGroups) → group_sum one plan ≤ group_sum other plan
    group_sum-le physical_nothing = groups physical_nothing
    group_sum-le physical_every = groups physical_every
    group_sum-le (physical_groups_and parts) = omega (arith, groups (physical_groups_and parts), groups_sum-le parts)
    group_sum-le (physical_groups_or parts) = omega (arith, groups (physical_groups_or parts), groups_sum-le parts)
    group_sum-le (physical_groups_minus first second) =
        omega (
          arith,
          groups (physical_groups_minus first second),
          group_sum-le first,
          group_sum-le second,
        )
    group_sum-le (physical_groups_pairs count types test choice) =
        omega (
          arith,
          groups (physical_groups_pairs count types test choice),
          node_sum-le types,
          test_sum-le test,
        )

    -- the sum of `one` over several plans of groups is at most the sum of `other`
    groups_sum-le : (parts : PhysicalGroupsList) → groups_sum one parts ≤ groups_sum other parts
    groups_sum-le no_physical_groups = omega arith
    groups_sum-le (physical_groups_then first rest) =
        omega (arith, group_sum-le first, groups_sum-le rest)

    -- the sum of `one` over the plan of a test is at most the sum of `other`
    test_sum-le : (test : PhysicalTest) → test_sum one test ≤ test_sum other test
    test_sum-le (physical_within operand) = node_sum-le operand
    test_sum-le (physical_outside operand) = node_sum-le operand
    test_sum-le (physical_number compare number) = omega arith

-- ---- the nodes
-- what is counted of one concept if it is in force is at most what is counted of it
in_force-le : (number : Option ℕ) (count : ℕ) → if_in_force number count ≤ count
in_force-le (Some number) count = omega arith
in_force-le None count = omega arith

-- the rows of the one concept that a plan names are at most the rows that the plan leaves
one-le-rows_left : (indexed : Indexed) (count : ℕ → ℕ) (all : ℕ) (plan : Physical)
    → of_one indexed (one_of plan) count ≤ rows_left count all plan
one-le-rows_left indexed count all physical_empty = omega arith
one-le-rows_left indexed count all physical_all = omega arith
one-le-rows_left indexed count all (physical_one id) = in_force-le (concept_number indexed.concepts id) (count id)
one-le-rows_left indexed count all (physical_walk operator operand) = omega arith
one-le-rows_left indexed count all (physical_members operand) = omega arith
one-le-rows_left indexed count all (physical_and parts) = omega arith
one-le-rows_left indexed count all (physical_or parts) = omega arith
one-le-rows_left indexed count all (physical_minus first second) = omega arith
one-le-rows_left indexed count all (physical_values start names) = omega arith
one-le-rows_left indexed count all (physical_pairs back pairs types test choice) = omega arith
one-le-rows_left indexed count all (physical_groups pairs units) = omega arith

-- with each choice, the floor of a leaf is at most its bound. Both are without those of the leaf's types and test
pub leaf-le : (indexed : Indexed) (all : ℕ) (back : Bool) (count : _) (types : Physical) (test : PhysicalTest)
    (type_size value_size : ℕ) (choice : Choice)
    → leaf_floor indexed back types test choice
    ≤ leaf_bound (leaf_of indexed all back count types test type_size value_size) choice
leaf-le indexed all back count types (physical_within values) type_size value_size ByValue =
    omega (arith, one-le-rows_left indexed (value_row_count indexed back) (length indexed.rows) values)
leaf-le indexed all back count types (physical_outside values) type_size value_size ByValue = omega arith
leaf-le indexed all back count types (physical_number compare number) type_size value_size ByValue = omega arith
leaf-le indexed all back count types test type_size value_size ByType =
    omega (arith, one-le-rows_left indexed (type_row_count indexed) (length indexed.rows) types)
leaf-le indexed all back count types test type_size value_size Scan = omega arith

-- the floor of a `Walk` node is at most its bound. Both are without those of its operand
pub walk-le : (indexed : Indexed) (operator : Operator) (one : Option ℕ) (size : ℕ)
    → cond (is_extreme operator) 0 (of_one indexed one (list_length indexed operator))
    ≤ walk_bound indexed operator one size
walk-le indexed operator (Some id) size = elim (is_extreme operator) as (λ (b : Bool).
    cond b 0 (of_one indexed (Some id) (list_length indexed operator)) ≤ walk_bound indexed operator (Some id) size) [
      | true ↦ omega arith
      | false ↦
          omega (arith, in_force-le (concept_number indexed.concepts id) (list_length indexed operator id))
    ]
walk-le indexed operator None size = elim (is_extreme operator) as (λ (b : Bool).
    cond b 0 (of_one indexed None (list_length indexed operator)) ≤ walk_bound indexed operator None size)
    [ true ↦ omega arith | false ↦ omega arith ]

-- the floor of a `Members` node is at most its bound. Both are without those of its operand
pub members-le : (indexed : Indexed) (one : Option ℕ) (size : ℕ)
    → of_one indexed one (member_count indexed) ≤ members_bound indexed one size
members-le indexed (Some id) size =
    omega (arith, in_force-le (concept_number indexed.concepts id) (member_count indexed id))
members-le indexed None size = omega arith

-- the own floor of a node of concepts is at most its own bound
own-le : (indexed : Indexed) (plan : Physical) → own_floor indexed plan ≤ own_bound indexed plan
own-le indexed physical_empty = omega arith
own-le indexed physical_all = omega arith
own-le indexed (physical_one number) = omega arith
own-le indexed (physical_walk operator operand) = walk-le indexed operator (one_of operand) (size indexed operand)
own-le indexed (physical_members operand) = members-le indexed (one_of operand) (size indexed operand)
own-le indexed (physical_and parts) = omega arith
own-le indexed (physical_or parts) = omega arith
own-le indexed (physical_minus first second) = omega arith
own-le indexed (physical_values start names) = omega arith
own-le indexed (physical_pairs back count types test choice) =
    leaf-le indexed (length indexed.concepts) back count types test (size indexed types)
    (test_size indexed test) choice
own-le indexed (physical_groups count units) = omega arith

-- the own floor of a node of groups is at most its own bound
group_own-le : (indexed : Indexed) (plan : PhysicalGroups)
    → group_own_floor indexed plan ≤ group_own_bound indexed plan
group_own-le indexed physical_nothing = omega arith
group_own-le indexed physical_every = omega arith
group_own-le indexed (physical_groups_and parts) = omega arith
group_own-le indexed (physical_groups_or parts) = omega arith
group_own-le indexed (physical_groups_minus first second) = omega arith
group_own-le indexed (physical_groups_pairs count types test choice) =
    leaf-le indexed (length (groups_in indexed)) false count types test (size indexed types)
    (test_size indexed test) choice

-- the floor of a plan of concepts is at most its bound
pub floor-le-bound : (indexed : Indexed) (plan : Physical) → floor indexed plan ≤ bound indexed plan
floor-le-bound indexed plan =
    node_sum-le (floor_number indexed) (own_number indexed) (own-le indexed) (group_own-le indexed) plan

-- the floor of a plan of groups is at most its bound
pub group_floor-le-bound : (indexed : Indexed) (plan : PhysicalGroups)
    → group_sum (floor_number indexed) plan ≤ group_sum (own_number indexed) plan
group_floor-le-bound indexed plan =
    group_sum-le (floor_number indexed) (own_number indexed) (own-le indexed) (group_own-le indexed) plan
