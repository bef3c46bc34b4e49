use Rattle.std.proofs.Common.{◌≡◌, ◌+◌, drop, sum_by, count_ones}
use Rattle.idset.proofs.kernels.count_rest.Given as goal

abbrev pub invariant-loop-place : goal.invariant-loop-place
invariant-loop-place l = l.count + sum_by count_ones (drop l.place l.words) ≡ sum_by count_ones (drop l.from l.words)
