use Rattle.std.proofs.Common.{◌-◌, ◌≤◌, ◌<◌, length}
use Rattle.idset.specs.Sets.{place_of}
use Rattle.idset.proofs.lists.gallop_to.Given as goal

abbrev pub invariant-loop-gallop : goal.invariant-loop-gallop
invariant-loop-gallop l = record {
  low : l.low ≤ place_of l.items l.number;
  inside : l.low ≤ length l.items;
  some : 0 < l.gallop;
}

abbrev pub decreases-loop-gallop : goal.decreases-loop-gallop
decreases-loop-gallop l = length l.items - l.low
