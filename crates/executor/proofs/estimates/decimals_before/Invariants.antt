-- How far the search for a decimal has come.
use Rattle.std.specs.Prelude.{◌≤◌, ◌-◌, length}
use Rattle.executor.proofs.estimates.decimals_before.Given as goal

-- the decimals that are left end within the list of all
abbrev pub invariant-loop-low : goal.invariant-loop-low
invariant-loop-low l = l.high ≤ length l.lengths.indexes.now.decimals

-- each turn leaves fewer decimals
abbrev pub decreases-loop-low : goal.decreases-loop-low
decreases-loop-low l = l.high - l.low
