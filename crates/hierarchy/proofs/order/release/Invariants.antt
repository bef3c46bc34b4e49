use Rattle.std.proofs.Common.{ℕ, ◌≡◌, ◌++◌, List, take}
use Rattle.hierarchy.specs.inside.Released.{IsReleased}
use Rattle.hierarchy.proofs.order.release.Given as goal

-- the children so far are released, and `added` is what was put at the end of the order
abbrev pub invariant-loop-child : goal.invariant-loop-child
invariant-loop-child l =
    (added : List ℕ) × (l.order.items ≡ l.fn.order.items ++ added)
    × IsReleased (take l.child-index l.children) l.fn.waiting.items l.waiting.items added
