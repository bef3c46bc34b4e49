use Rattle.std.proofs.Common.{refl, arith}
use Rattle.idset.proofs.MarkLemmas.{unmark_step}
use Rattle.idset.proofs.bitmap.unmark_all.Goals as goal

-- with one number more, the first `i + 1` numbers are cleared
pub loop-number-preserved : goal.loop-number-preserved
loop-number-preserved c =
    λ n. unmark_step c.args.words.now c.loop-number.words _ c.args.numbers.now c.loop-number.number-index n
    (omega arith) (omega (arith, c.requires c.loop-number.number-index 0 (omega arith), c.loop-number.auto.words))
    (c.loop-number.invariant n) refl
