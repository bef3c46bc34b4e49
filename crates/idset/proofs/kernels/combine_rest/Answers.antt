use Rattle.std.proofs.Common.{arith}
use Rattle.idset.proofs.Vectors.{zip2_word_step}
use Rattle.idset.proofs.kernels.combine_rest.Goals as goal

-- with one word more, the first `place + 1` words are those of `zip2`
pub loop-place-preserved : goal.loop-place-preserved
loop-place-preserved g c =
    zip2_word_step g.O.WordOperation.of c.args.words.now c.args.others.now c.loop-place.out c.word.result
    c.loop-place.place (omega arith) c.requires.others
    (omega (arith, c.loop-place.auto.out)) c.word.ensures c.loop-place.invariant
