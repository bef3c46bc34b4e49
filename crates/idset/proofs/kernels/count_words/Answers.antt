use Rattle.std.proofs.Common.{◌/◌, ◌*◌, ◌∙◌, ◌+◌, length, count_ones, arith}
use Rattle.std.proofs.lemmas.List.Sums.{sum_by-take-drop}
use Rattle.idset.proofs.Counting.{count_le}
use Rattle.idset.proofs.kernels.count_words.Goals as goal

-- the ones of the vectors and of the rest fit into 64 bits
pub overflow_add-result : goal.overflow_add-result
overflow_add-result c =
    let words = c.args.words.now in
    record {
      fits = omega (
        arith,
        c.count_vectors.ensures,
        c.count_rest.ensures,
        sum_by-take-drop count_ones words (length words / 16 * 16),
        count_le words (λ k. (c.type_inv.words k).fits),
      );
    }

-- the ones of the vectors and of the rest are all ones
pub returns : goal.returns
returns c = (λ i. c.count_vectors.ensures i + c.count_rest.ensures i)
    ∙ sum_by-take-drop count_ones c.args.words.now (length c.args.words.now / 16 * 16)
