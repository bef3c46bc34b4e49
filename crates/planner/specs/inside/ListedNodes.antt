-- What holds for a node when the bounds of its children were appended to the list, but its own
-- bound was not yet written in front of them. The own bound of a node is its bound without those of
-- its children.
use Rattle.std.specs.Prelude.{ℕ, ◌++◌, ◌≡◌, Bool, List, ◌∷◌, drop}
use Rattle.constraint_tree.specs.declared.operator.Cardinality.{Cardinality}
use Rattle.set_algebra.specs.declared.choice.Choice.{Choice}
use Rattle.set_algebra.specs.Physical.{Physical, PhysicalTest, PhysicalGroups}
use Rattle.postings.specs.Indexed.{Indexed}
use Rattle.plan_bounds.specs.declared.counts.NodeCost.{NodeCost}
use Rattle.plan_bounds.specs.Alternatives.{leaf_size}
use Rattle.plan_bounds.specs.Bounds.{capped, leaf_bound_at, own_bounds, own_list}
use Rattle.plan_bounds.specs.Nodes.{group_list, test_list}
use Rattle.plan_bounds.specs.Sizes.{group_size, leaf_at, size}

-- the bounds of a node's children were appended to the list `before`, and `own` is the cost of the
-- node. `all` are the bounds of the node and of its children, and `found` is the size of the node
pub record IsListed (all : List ℕ) (found : ℕ) (before after : List ℕ) (own : NodeCost) : Type 0
  where
    -- the bounds of the children were appended, all but the first of `all`
    pub bounds : after ≡ before ++ drop 1 all
    -- the first of `all` is the own bound of the node
    pub bound : all ≡ own.bound ∷ drop 1 all
    -- the size of the node is `found`
    pub size : own.size ≡ found

-- `IsListed` for a node of concepts
abbrev pub IsNode : Indexed → Physical → List ℕ → List ℕ → NodeCost → Type 0
IsNode indexed plan = IsListed (own_bounds indexed plan) (size indexed plan)

-- `IsListed` for a node of groups
abbrev pub IsGroupNode : Indexed → PhysicalGroups → List ℕ → List ℕ → NodeCost → Type 0
IsGroupNode indexed plan = IsListed (group_list (own_list indexed) plan) (group_size indexed plan)

-- `IsListed` for a leaf over `all` concepts or groups
abbrev pub IsLeafNode : Indexed → ℕ → Bool → Cardinality → Physical → PhysicalTest → Choice → List ℕ
    → List ℕ → NodeCost → Type 0
IsLeafNode indexed all back count types test choice =
    IsListed
    (capped (leaf_bound_at indexed all back count types test choice)
    ∷ (own_bounds indexed types ++ test_list (own_list indexed) test))
    (leaf_size (leaf_at indexed all back count types test) choice)
