use Rattle.std.proofs.Common.{◌≡◌, ◌≤◌, ◌-◌, ◌++◌}
use Rattle.std.specs.List.{range_with_len}
use Rattle.pair_sets.proofs.units.push_range.Given as goal

-- the range from `start` up to the number at hand is pushed
abbrev pub invariant-loop-number : goal.invariant-loop-number
invariant-loop-number l = record {
  found : l.found.items ≡ l.fn.found.items ++ range_with_len l.start (l.number - l.start);
  few : l.number - l.start ≤ l.end - l.start;
}
