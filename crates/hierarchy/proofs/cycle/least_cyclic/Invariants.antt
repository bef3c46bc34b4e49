use Rattle.std.proofs.Common.{◌<◌, ℕ}
use Rattle.hierarchy.specs.Hierarchy.{Reaches}
use Rattle.hierarchy.proofs.cycle.least_cyclic.Given as goal

-- no concept so far reaches itself
abbrev pub invariant-loop-concept : goal.invariant-loop-concept
invariant-loop-concept l = (c : ℕ) → c < l.concept → ¬ Reaches l.rows c c
