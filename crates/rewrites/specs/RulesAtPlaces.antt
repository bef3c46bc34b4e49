-- Rules at places of a plan, and the statement that they keep the meaning of the plan.
use Rattle.std.specs.Prelude.{ℕ, ◌≡◌, ◌<◌, ◌↔◌, Option, Some, None, option_map, List, [], ◌∷◌, slice_get}
use Rattle.release_model.specs.Release.{Release}
use Rattle.set_algebra.specs.Depth.{plan_depth}
use Rattle.set_algebra.specs.Meaning.{means}
use Rattle.set_algebra.specs.Plan.{Plan}
use Rattle.set_algebra.specs.Places.{Node, concept_node, group_node, children, with_child, node_at, put_at, MeanTheSame}
use Rattle.rewrites.specs.declared.rule.Rule.{Rule}
use Rattle.rewrites.specs.Rules.{rewritten, rewritten_group}

-- the node that a rule makes of a node at its root, or `None` if it makes none
abbrev pub rewritten_node : Rule → Node → Option Node
rewritten_node rule (concept_node plan) = option_map concept_node (rewritten rule plan)
rewritten_node rule (group_node plan) = option_map group_node (rewritten_group rule plan)

-- the node with child `number` replaced by the result of `change` on it, or `None` if there is no
-- such child or `change` has no result
abbrev pub in_child : Node → ℕ → (Node → Option Node) → Option Node → Option Node
in_child node number change None = None
in_child node number change (Some child) = option_map (with_child node number) (change child)

-- the node after a rule was applied at a place below it, or `None` if the place names no node or
-- the rule makes none there
abbrev pub rewritten_at : Rule → List ℕ → Node → Option Node
rewritten_at rule [] node = rewritten_node rule node
rewritten_at rule (number ∷ place) node =
    in_child node number (rewritten_at rule place) (slice_get (children node) number)

-- the rule makes the plan `new` of the plan `old` at a place
abbrev pub Makes : Rule → List ℕ → Plan → Plan → Type 0
Makes rule place old new = rewritten_at rule place (concept_node old) ≡ Some (concept_node new)

-- the rule makes no plan of the plan `old` at a place
abbrev pub MakesNothing : Rule → List ℕ → Plan → Type 0
MakesNothing rule place old = rewritten_at rule place (concept_node old) ≡ None

-- the rule makes of the plan `old`, at a place, a plan that is deeper than 1,024
abbrev pub MakesTooDeep : Rule → List ℕ → Plan → Type 0
MakesTooDeep rule place old = (new : Plan) × Makes rule place old new × (1024 < plan_depth new)

-- two plans of concepts mean the same set over every release
abbrev pub AlwaysMeanTheSame : Plan → Plan → Type 0
AlwaysMeanTheSame one other =
    (release : Release) (concept : ℕ) → means release one concept ≡ means release other concept

-- a rule makes the node `new` of `whole` at a place exactly if the place names a node, the rule
-- makes another node of it, and `new` is `whole` with that node put there
abbrev pub IsThereAlone : Type 0
IsThereAlone =
    (rule : Rule) (place : List ℕ) (whole new : Node) →
    (rewritten_at rule place whole ≡ Some new)
    ↔ ((here there : Node)
    × (node_at place whole ≡ Some here)
    × (rewritten_node rule here ≡ Some there)
    × (new ≡ put_at place there whole))

-- a rule at the root keeps the meaning of a node over every release
abbrev pub KeepsMeaningAtRoot : Type 0
KeepsMeaningAtRoot =
    (release : Release) (rule : Rule) (old new : Node) →
    rewritten_node rule old ≡ Some new →
    MeanTheSame release old new

-- a rule at any place keeps the meaning of a node over every release
abbrev pub KeepsMeaning : Type 0
KeepsMeaning =
    (release : Release) (rule : Rule) (place : List ℕ) (old new : Node) →
    rewritten_at rule place old ≡ Some new →
    MeanTheSame release old new
