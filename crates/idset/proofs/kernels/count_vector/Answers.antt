use Rattle.std.proofs.Common.{arith, sum_by, count_ones, zero-add, ◌∙◌}
use Rattle.std.specs.Int.Count.{ones-le}
use Rattle.idset.proofs.Counting.{vector_sum}
use Rattle.idset.proofs.kernels.count_vector.Goals as goal

-- the sum of the counts of a vector is the number of its ones
pub returns : goal.returns
returns c =
    vector_sum _ _ _ (λ s x small. omega arith) (λ x small. omega (arith, ones-le 64 x small)) 0 c.args.words
    c.fits-words.1 (omega (arith, c.fits-words.0))
    ∙ zero-add (sum_by count_ones c.args.words)
