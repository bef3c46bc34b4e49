use Rattle.std.proofs.Common.{◌-◌, ◌≤◌, length}
use Rattle.release_files.proofs.Parts.{NoFeed}
use Rattle.release_files.proofs.feeds.first_feed.Given as goal

-- `place` is within the bytes, and no line feed stands before it
abbrev pub invariant-loop-place : goal.invariant-loop-place
invariant-loop-place l = record {
  within : l.place ≤ length l.bytes;
  clear : NoFeed l.bytes l.place;
}

-- the number of bytes that are not searched yet falls with each turn
abbrev pub decreases-loop-place : goal.decreases-loop-place
decreases-loop-place l = length l.bytes - l.place
