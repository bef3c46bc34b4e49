use Rattle.std.proofs.Common.{◌≡◌, take}
use Rattle.std.specs.Simd.Lanes.{zip2}
use Rattle.idset.proofs.kernels.combine_rest.Given as goal

abbrev pub invariant-loop-place : goal.invariant-loop-place
invariant-loop-place g l = take l.place l.out ≡ zip2 g.O.WordOperation.of (take l.place l.words) (take l.place l.others)
