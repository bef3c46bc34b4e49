-- Places in a plan. A place is a list of child numbers, from 0. The empty list names the root; a
-- longer list names a place within the child with the first number.
use Rattle.std.specs.Prelude.{ℕ, zero, suc, ◌≡◌, Option, Some, None, List, [], ◌∷◌, slice_get, slice_set}
use Rattle.release_model.specs.Release.{Release}
use Rattle.release_model.specs.Pairs.{Pair}
use Rattle.set_algebra.specs.Plan.{Plan, empty_plan, all_plan, one_plan, walk_plan, members_plan, and_plan, or_plan}
use Rattle.set_algebra.specs.Plan.{minus_plan, values_plan, pairs_plan, groups_plan, Plans, no_plans, plan_then}
use Rattle.set_algebra.specs.Plan.{PlanOfGroups, nothing_group, every_group, and_group_plan, or_group_plan}
use Rattle.set_algebra.specs.Plan.{minus_group_plan, pairs_group_plan, PlansOfGroups, no_group_plans, group_plan_then}
use Rattle.set_algebra.specs.Plan.{TestPlan, within_plan, outside_plan, number_plan}
use Rattle.set_algebra.specs.Meaning.{means, group_means}

-- a node: a plan of concepts or a plan of groups
pub data Node : Type 0 where
  concept_node : Plan → Node
  group_node : PlanOfGroups → Node

-- the plans of concepts in a list, as nodes
abbrev pub plan_nodes : Plans → List Node
plan_nodes no_plans = []
plan_nodes (plan_then first rest) = concept_node first ∷ plan_nodes rest

-- the plans of groups in a list, as nodes
abbrev pub group_nodes : PlansOfGroups → List Node
group_nodes no_group_plans = []
group_nodes (group_plan_then first rest) = group_node first ∷ group_nodes rest

-- the plan of a test as a list of one node, or no node for a comparison with a number
abbrev pub test_nodes : TestPlan → List Node
test_nodes (within_plan operand) = concept_node operand ∷ []
test_nodes (outside_plan operand) = concept_node operand ∷ []
test_nodes (number_plan compare number) = []

-- the children of a plan of concepts, in their order. `values_plan` has its start before its names,
-- and `pairs_plan` its types before the plan of its test
abbrev pub plan_children : Plan → List Node
plan_children empty_plan = []
plan_children all_plan = []
plan_children (one_plan number) = []
plan_children (walk_plan operator operand) = concept_node operand ∷ []
plan_children (members_plan operand) = concept_node operand ∷ []
plan_children (and_plan parts) = plan_nodes parts
plan_children (or_plan parts) = plan_nodes parts
plan_children (minus_plan first second) = concept_node first ∷ concept_node second ∷ []
plan_children (values_plan start names) = concept_node start ∷ plan_nodes names
plan_children (pairs_plan back count types test) = concept_node types ∷ test_nodes test
plan_children (groups_plan count units) = group_node units ∷ []

-- the children of a plan of groups, in their order. `pairs_group_plan` has its types before the
-- plan of its test
abbrev pub group_children : PlanOfGroups → List Node
group_children nothing_group = []
group_children every_group = []
group_children (and_group_plan parts) = group_nodes parts
group_children (or_group_plan parts) = group_nodes parts
group_children (minus_group_plan first second) = group_node first ∷ group_node second ∷ []
group_children (pairs_group_plan count types test) = concept_node types ∷ test_nodes test

-- the children of a node, in their order
abbrev pub children : Node → List Node
children (concept_node plan) = plan_children plan
children (group_node plan) = group_children plan

-- the result of `find` on a node, or `None` if there is no node
abbrev pub inside : (Node → Option Node) → Option Node → Option Node
inside find None = None
inside find (Some child) = find child

-- the node at a place below a node, or `None` if the place names no node
abbrev pub node_at : List ℕ → Node → Option Node
node_at [] node = Some node
node_at (number ∷ place) node = inside (node_at place) (slice_get (children node) number)

-- the list with the plan of concepts at index `number` replaced by `new`; unchanged if the list is
-- not that long
abbrev pub plans_with : Plans → ℕ → Plan → Plans
plans_with no_plans number new = no_plans
plans_with (plan_then first rest) zero new = plan_then new rest
plans_with (plan_then first rest) (suc number) new = plan_then first (plans_with rest number new)

-- the list with the plan of groups at index `number` replaced by `new`; unchanged if the list is
-- not that long
abbrev pub groups_with : PlansOfGroups → ℕ → PlanOfGroups → PlansOfGroups
groups_with no_group_plans number new = no_group_plans
groups_with (group_plan_then first rest) zero new = group_plan_then new rest
groups_with (group_plan_then first rest) (suc number) new =
    group_plan_then first (groups_with rest number new)

-- the test with its plan replaced by `new`; unchanged if it has no plan or `number` is not 0
abbrev pub test_with : TestPlan → ℕ → Plan → TestPlan
test_with (within_plan operand) zero new = within_plan new
test_with (outside_plan operand) zero new = outside_plan new
test_with test number new = test

-- the plan of concepts with child `number` replaced by `new`; unchanged if it has no such child of
-- the sort of `new` (a plan of concepts or of groups)
abbrev pub plan_with : Plan → ℕ → Node → Plan
plan_with (walk_plan operator operand) zero (concept_node new) = walk_plan operator new
plan_with (members_plan operand) zero (concept_node new) = members_plan new
plan_with (and_plan parts) number (concept_node new) = and_plan (plans_with parts number new)
plan_with (or_plan parts) number (concept_node new) = or_plan (plans_with parts number new)
plan_with (minus_plan first second) zero (concept_node new) = minus_plan new second
plan_with (minus_plan first second) (suc zero) (concept_node new) = minus_plan first new
plan_with (values_plan start names) zero (concept_node new) = values_plan new names
plan_with (values_plan start names) (suc number) (concept_node new) =
    values_plan start (plans_with names number new)
plan_with (pairs_plan back count types test) zero (concept_node new) =
    pairs_plan back count new test
plan_with (pairs_plan back count types test) (suc number) (concept_node new) =
    pairs_plan back count types (test_with test number new)
plan_with (groups_plan count units) zero (group_node new) = groups_plan count new
plan_with plan number new = plan

-- the plan of groups with child `number` replaced by `new`; unchanged if it has no such child of
-- the sort of `new` (a plan of concepts or of groups)
abbrev pub group_with : PlanOfGroups → ℕ → Node → PlanOfGroups
group_with (and_group_plan parts) number (group_node new) =
    and_group_plan (groups_with parts number new)
group_with (or_group_plan parts) number (group_node new) =
    or_group_plan (groups_with parts number new)
group_with (minus_group_plan first second) zero (group_node new) = minus_group_plan new second
group_with (minus_group_plan first second) (suc zero) (group_node new) = minus_group_plan first new
group_with (pairs_group_plan count types test) zero (concept_node new) =
    pairs_group_plan count new test
group_with (pairs_group_plan count types test) (suc number) (concept_node new) =
    pairs_group_plan count types (test_with test number new)
group_with plan number new = plan

-- the node with child `number` replaced by `new`; unchanged if it has no such child of the sort of
-- `new` (a plan of concepts or of groups)
abbrev pub with_child : Node → ℕ → Node → Node
with_child (concept_node plan) number new = concept_node (plan_with plan number new)
with_child (group_node plan) number new = group_node (group_with plan number new)

-- the node with child `number` changed by `change`; unchanged if there is no child
abbrev pub with_changed : Node → ℕ → (Node → Node) → Option Node → Node
with_changed node number change None = node
with_changed node number change (Some child) = with_child node number (change child)

-- the node with the node at a place replaced by `new`; at the root this is `new` itself. Below the
-- root nothing changes if the place names no node of the sort of `new`
abbrev pub put_at : List ℕ → Node → Node → Node
put_at [] new node = new
put_at (number ∷ place) new node =
    with_changed node number (put_at place new) (slice_get (children node) number)

-- two nodes are of one sort: both are plans of concepts, or both are plans of groups
abbrev pub AreOfOneSort : Node → Node → Type 0
AreOfOneSort (concept_node one) (concept_node other) = Unit {0}
AreOfOneSort (group_node one) (group_node other) = Unit {0}
AreOfOneSort one other = ⊥

-- `with_child` replaces child `number` by a node of its sort, and leaves the other children as they
-- were
abbrev pub ReplacesOneChild : Type 0
ReplacesOneChild =
    (node : Node) (number : ℕ) (old new : Node) →
    slice_get (children node) number ≡ Some old →
    AreOfOneSort old new →
    children (with_child node number new) ≡ slice_set (children node) number new

-- after `put_at` has put a node of the sort of the old one at a place, `node_at` finds it there
abbrev pub FindsWhatIsPut : Type 0
FindsWhatIsPut =
    (place : List ℕ) (whole old new : Node) →
    node_at place whole ≡ Some old →
    AreOfOneSort old new →
    node_at place (put_at place new whole) ≡ Some new

-- to put the node that stands at a place there again changes nothing
abbrev pub PutsBack : Type 0
PutsBack =
    (place : List ℕ) (whole old : Node) →
    node_at place whole ≡ Some old →
    put_at place old whole ≡ whole

-- two nodes are of one sort and mean the same set over the release
abbrev pub MeanTheSame : Release → Node → Node → Type 0
MeanTheSame release (concept_node one) (concept_node other) =
    (concept : ℕ) → means release one concept ≡ means release other concept
MeanTheSame release (group_node one) (group_node other) =
    (pairs : List Pair) → group_means release one pairs ≡ group_means release other pairs
MeanTheSame release one other = ⊥

-- a node keeps its meaning over a release if the node at one of its places is replaced by a node
-- that means the same over that release
abbrev pub KeepsMeaningAtPlaces : Type 0
KeepsMeaningAtPlaces =
    (release : Release) (place : List ℕ) (whole old new : Node) →
    node_at place whole ≡ Some old →
    MeanTheSame release old new →
    MeanTheSame release whole (put_at place new whole)
