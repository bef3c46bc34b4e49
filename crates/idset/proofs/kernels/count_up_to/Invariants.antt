use Rattle.std.proofs.Common.{◌≡◌, ◌+◌, drop, sum_by, count_ones}
use Rattle.idset.proofs.kernels.count_up_to.Given as goal

abbrev pub invariant-loop-word : goal.invariant-loop-word
invariant-loop-word l = l.count + sum_by count_ones (drop l.word-index l.words) ≡ sum_by count_ones l.words
