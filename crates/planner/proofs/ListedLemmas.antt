-- A node is listed when its children have appended their bounds.
use Rattle.std.proofs.Common.{ℕ, ◌≡◌, ◌++◌, ◌∷◌, List, sym, ap}
use Rattle.plan_bounds.specs.declared.counts.NodeCost.{NodeCost}
use Rattle.planner.specs.inside.ListedNodes.{IsListed}

-- if the children of a node have appended `following` to the list, and the node's bound is `number` and its size
-- `found`, then the node with the bounds `number` and `following` is listed
pub listed : {following : List ℕ} {number found : ℕ} {before after : List ℕ} {own : NodeCost}
    → after ≡ before ++ following
    → own.bound ≡ number → own.size ≡ found → IsListed (number ∷ following) found before after own
listed {following = following} added own_is size_is = record {
  bounds = added;
  bound = ap (λ (number : ℕ). number ∷ following) (sym own_is);
  size = size_is;
}
