use Rattle.std.proofs.Common.{arith}
use Rattle.idset.proofs.Vectors.{zip2_vector_step}
use Rattle.idset.proofs.kernels.combine_vectors.Goals as goal

-- with one vector more, the words up to it are those of `zip2`
pub loop-place-preserved : goal.loop-place-preserved
loop-place-preserved g c = record {
  within = omega arith;
  done = zip2_vector_step g.O.WordOperation.of c.args.words.now c.args.others.now c.loop-place.out c.lanes.result
      c.loop-place.place (omega arith) c.requires.others
      (omega (arith, c.loop-place.auto.out)) c.lanes.ensures c.loop-place.invariant.done;
}
