use Rattle.std.proofs.Common.{count_ones, arith}
use Rattle.std.proofs.lemmas.List.Sums.{sum_by-drop_more, sum_by-take-drop}
use Rattle.idset.proofs.Counting.{count_le}
use Rattle.idset.proofs.kernels.count_rest.Goals as goal

-- the count with the next word fits into 64 bits
pub overflow_add-count : goal.overflow_add-count
overflow_add-count c =
    let words = c.args.words.now in
    record {
      fits = omega (
        arith,
        c.from-count.ensures,
        c.loop-place.invariant,
        sum_by-drop_more count_ones words c.loop-place.place 0 (omega arith),
        sum_by-take-drop count_ones words c.args.from,
        count_le words (λ k. (c.type_inv.words k).fits),
      );
    }
