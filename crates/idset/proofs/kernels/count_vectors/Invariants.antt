use Rattle.std.proofs.Common.{◌≡◌, ◌*◌, take, sum_by, count_ones}
use Rattle.idset.proofs.kernels.count_vectors.Given as goal

abbrev pub invariant-loop-block : goal.invariant-loop-block
invariant-loop-block l = l.count ≡ sum_by count_ones (take (l.block * 16) l.words)
