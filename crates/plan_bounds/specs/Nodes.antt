-- Functions over all nodes of a physical plan: the sum of a number that each node has, and the list
-- of the numbers that each node gives, a node before its children.
use Rattle.std.specs.Prelude.{ℕ, ◌+◌, List, [], ◌++◌}
use Rattle.set_algebra.specs.Physical.{Physical, physical_empty, physical_all, physical_one, physical_walk}
use Rattle.set_algebra.specs.Physical.{physical_members, physical_and, physical_or, physical_minus, physical_values}
use Rattle.set_algebra.specs.Physical.{physical_pairs, physical_groups, Physicals, no_physicals, physical_then}
use Rattle.set_algebra.specs.Physical.{PhysicalGroups, physical_nothing, physical_every, physical_groups_and}
use Rattle.set_algebra.specs.Physical.{physical_groups_or, physical_groups_minus, physical_groups_pairs}
use Rattle.set_algebra.specs.Physical.{PhysicalGroupsList, no_physical_groups, physical_groups_then, PhysicalTest}
use Rattle.set_algebra.specs.Physical.{physical_within, physical_outside, physical_number}

-- a function that gives a number for each node, of concepts or of groups
pub record NodeNumber : Type 0 where
  -- the number of a node of concepts
  pub of_plan : Physical → ℕ
  -- the number of a node of groups
  pub of_group : PhysicalGroups → ℕ

-- a function that gives a list of numbers for each node, of concepts or of groups
pub record NodeList : Type 0 where
  -- the numbers of a node of concepts
  pub of_plan : Physical → List ℕ
  -- the numbers of a node of groups
  pub of_group : PhysicalGroups → List ℕ

abbrev mutual
  -- the sum of the numbers of all nodes of a plan of concepts
  pub node_sum : NodeNumber → Physical → ℕ
  node_sum node physical_empty = node.of_plan physical_empty
  node_sum node physical_all = node.of_plan physical_all
  node_sum node (physical_one number) = node.of_plan (physical_one number)
  node_sum node (physical_walk operator operand) =
      node.of_plan (physical_walk operator operand) + node_sum node operand
  node_sum node (physical_members operand) =
      node.of_plan (physical_members operand) + node_sum node operand
  node_sum node (physical_and parts) = node.of_plan (physical_and parts) + plans_sum node parts
  node_sum node (physical_or parts) = node.of_plan (physical_or parts) + plans_sum node parts
  node_sum node (physical_minus first second) =
      node.of_plan (physical_minus first second) + (node_sum node first + node_sum node second)
  node_sum node (physical_values start names) =
      node.of_plan (physical_values start names) + (node_sum node start + plans_sum node names)
  node_sum node (physical_pairs back count types test choice) =
      node.of_plan (physical_pairs back count types test choice)
      + (node_sum node types + test_sum node test)
  node_sum node (physical_groups count units) =
      node.of_plan (physical_groups count units) + group_sum node units

  -- the sum of the numbers of all nodes of the plans of concepts in a list
  pub plans_sum : NodeNumber → Physicals → ℕ
  plans_sum node no_physicals = 0
  plans_sum node (physical_then first rest) = node_sum node first + plans_sum node rest

  -- the sum of the numbers of all nodes of a plan of groups
  pub group_sum : NodeNumber → PhysicalGroups → ℕ
  group_sum node physical_nothing = node.of_group physical_nothing
  group_sum node physical_every = node.of_group physical_every
  group_sum node (physical_groups_and parts) =
      node.of_group (physical_groups_and parts) + groups_sum node parts
  group_sum node (physical_groups_or parts) =
      node.of_group (physical_groups_or parts) + groups_sum node parts
  group_sum node (physical_groups_minus first second) =
      node.of_group (physical_groups_minus first second)
      + (group_sum node first + group_sum node second)
  group_sum node (physical_groups_pairs count types test choice) =
      node.of_group (physical_groups_pairs count types test choice)
      + (node_sum node types + test_sum node test)

  -- the sum of the numbers of all nodes of the plans of groups in a list
  pub groups_sum : NodeNumber → PhysicalGroupsList → ℕ
  groups_sum node no_physical_groups = 0
  groups_sum node (physical_groups_then first rest) =
      group_sum node first + groups_sum node rest

  -- the sum of the numbers of all nodes of the plan of a test; the test itself is no node
  pub test_sum : NodeNumber → PhysicalTest → ℕ
  test_sum node (physical_within operand) = node_sum node operand
  test_sum node (physical_outside operand) = node_sum node operand
  test_sum node (physical_number compare number) = 0

abbrev mutual
  -- the lists of all nodes of a plan of concepts, one after the other
  pub node_list : NodeList → Physical → List ℕ
  node_list node physical_empty = node.of_plan physical_empty
  node_list node physical_all = node.of_plan physical_all
  node_list node (physical_one number) = node.of_plan (physical_one number)
  node_list node (physical_walk operator operand) =
      node.of_plan (physical_walk operator operand) ++ node_list node operand
  node_list node (physical_members operand) =
      node.of_plan (physical_members operand) ++ node_list node operand
  node_list node (physical_and parts) = node.of_plan (physical_and parts) ++ plans_list node parts
  node_list node (physical_or parts) = node.of_plan (physical_or parts) ++ plans_list node parts
  node_list node (physical_minus first second) =
      node.of_plan (physical_minus first second)
      ++ (node_list node first ++ node_list node second)
  node_list node (physical_values start names) =
      node.of_plan (physical_values start names)
      ++ (node_list node start ++ plans_list node names)
  node_list node (physical_pairs back count types test choice) =
      node.of_plan (physical_pairs back count types test choice)
      ++ (node_list node types ++ test_list node test)
  node_list node (physical_groups count units) =
      node.of_plan (physical_groups count units) ++ group_list node units

  -- the lists of all nodes of the plans of concepts in a list, one after the other
  pub plans_list : NodeList → Physicals → List ℕ
  plans_list node no_physicals = []
  plans_list node (physical_then first rest) = node_list node first ++ plans_list node rest

  -- the lists of all nodes of a plan of groups, one after the other
  pub group_list : NodeList → PhysicalGroups → List ℕ
  group_list node physical_nothing = node.of_group physical_nothing
  group_list node physical_every = node.of_group physical_every
  group_list node (physical_groups_and parts) =
      node.of_group (physical_groups_and parts) ++ groups_list node parts
  group_list node (physical_groups_or parts) =
      node.of_group (physical_groups_or parts) ++ groups_list node parts
  group_list node (physical_groups_minus first second) =
      node.of_group (physical_groups_minus first second)
      ++ (group_list node first ++ group_list node second)
  group_list node (physical_groups_pairs count types test choice) =
      node.of_group (physical_groups_pairs count types test choice)
      ++ (node_list node types ++ test_list node test)

  -- the lists of all nodes of the plans of groups in a list, one after the other
  pub groups_list : NodeList → PhysicalGroupsList → List ℕ
  groups_list node no_physical_groups = []
  groups_list node (physical_groups_then first rest) =
      group_list node first ++ groups_list node rest

  -- the lists of all nodes of the plan of a test; the test itself is no node
  pub test_list : NodeList → PhysicalTest → List ℕ
  test_list node (physical_within operand) = node_list node operand
  test_list node (physical_outside operand) = node_list node operand
  test_list node (physical_number compare number) = []
