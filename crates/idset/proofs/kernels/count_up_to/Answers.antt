use Rattle.std.proofs.Common.{◌≡◌, ap, arith, count_ones, drop, sum_by}
use Rattle.std.proofs.lemmas.List.{drop_all}
use Rattle.std.proofs.lemmas.List.Sums.{sum_by-drop_more}
use Rattle.idset.proofs.Counting.{count_le}
use Rattle.idset.proofs.kernels.count_up_to.Goals as goal

-- the count with the next word fits into 64 bits
pub overflow_add-count : goal.overflow_add-count
overflow_add-count c =
    let words = c.args.words.now in
    record {
      fits = omega (
        arith,
        c.loop-word.invariant,
        sum_by-drop_more count_ones words c.loop-word.word-index 0 (omega arith),
        count_le words (λ k. (c.type_inv.words k).fits),
      );
    }

-- the ones counted and those of the words left are all ones
pub loop-word-preserved : goal.loop-word-preserved
loop-word-preserved c =
    omega (
      arith,
      c.loop-word.invariant,
      sum_by-drop_more count_ones c.args.words.now c.loop-word.word-index 0 (omega arith),
      c.from-count.ensures,
    )

-- if the count has reached `most`, the minimum of `most` and all ones is `most`
pub returns-then-count-most : goal.returns-then-count-most
returns-then-count-most c = omega (arith, c.loop-word.invariant)

-- if all words are counted, the lesser of the count and `most` is the result
pub returns : goal.returns
returns c =
    let words = c.args.words.now in
    let past : sum_by count_ones (drop c.loop-word.word-index words) ≡ 0 =
    ap (sum_by count_ones) (drop_all c.loop-word.word-index words c.loop-word-test.false) in
    omega (arith, c.loop-word.invariant, past, c.min.ensures)
