use Rattle.std.proofs.Common.{◌≡◌, ◌-◌, ◌≤◌, length, take}
use Rattle.std.specs.Simd.Lanes.{zip2}
use Rattle.idset.proofs.kernels.combine_vectors.Given as goal

abbrev pub invariant-loop-place : goal.invariant-loop-place
invariant-loop-place g l = record {
  within : l.place ≤ length l.words;
  done : take l.place l.out ≡ zip2 g.O.WordOperation.of (take l.place l.words) (take l.place l.others);
}

abbrev pub decreases-loop-place : goal.decreases-loop-place
decreases-loop-place g l = length l.words - l.place
