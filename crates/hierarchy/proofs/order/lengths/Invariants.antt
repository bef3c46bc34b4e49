use Rattle.std.proofs.Common.{ℕ, ◌≡◌, List, length, map, take}
use Rattle.hierarchy.proofs.order.lengths.Given as goal

-- the lengths of the lists so far are found
abbrev pub invariant-loop-key : goal.invariant-loop-key
invariant-loop-key l = l.lengths.items ≡ map (λ (xs : List ℕ). length xs) (take l.key l.lists)
