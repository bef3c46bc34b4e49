use Rattle.std.proofs.Common.{ℕ, ◌-◌, ◌≤◌, ◌<◌, length, get_or}
use Rattle.held_release.proofs.concepts.number_between.Given as goal

abbrev pub invariant-loop-low : goal.invariant-loop-low
invariant-loop-low l = record {
  within : l.high ≤ length l.ids;
  above : (place : ℕ) → place < l.low → get_or l.ids place 0 < l.id;
  below : (place : ℕ) → l.high ≤ place → place < length l.ids → l.id < get_or l.ids place 0;
}

abbrev pub decreases-loop-low : goal.decreases-loop-low
decreases-loop-low l = l.high - l.low
