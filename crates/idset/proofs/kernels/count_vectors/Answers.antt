use Rattle.std.proofs.Common.{◌+◌, ◌*◌, count_ones, arith}
use Rattle.std.proofs.lemmas.List.Sums.{sum_by-take-le}
use Rattle.idset.proofs.Counting.{count_le, count_vector_step}
use Rattle.idset.proofs.kernels.count_vectors.Goals as goal

-- the count with the next vector fits into 64 bits
pub overflow_add-count : goal.overflow_add-count
overflow_add-count c =
    let words = c.args.words.now in
    let step = count_vector_step words c.loop-block.block c.loop-block.count c.count_vector-count.result
    c.loop-block.invariant c.count_vector-count.ensures in
    record {
      fits = omega (
        arith,
        step,
        sum_by-take-le count_ones words ((c.loop-block.block + 1) * 16),
        count_le words
            (λ k. (c.type_inv.words k).fits),
      );
    }

-- with one vector more, the count is the ones of the first `block + 1` vectors
pub loop-block-preserved : goal.loop-block-preserved
loop-block-preserved c =
    count_vector_step c.args.words.now c.loop-block.block c.loop-block.count c.count_vector-count.result
    c.loop-block.invariant c.count_vector-count.ensures
