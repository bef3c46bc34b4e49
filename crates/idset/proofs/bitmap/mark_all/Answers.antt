use Rattle.std.proofs.Common.{◌∙◌, arith}
use Rattle.idset.proofs.MarkLemmas.{mark_step}
use Rattle.idset.proofs.bitmap.mark_all.Goals as goal

-- with one number more, the first `i + 1` numbers are marked
pub loop-number-preserved : goal.loop-number-preserved
loop-number-preserved c = λ n.
    c.mark.ensures n
    ∙ mark_step c.args.words.now c.loop-number.words c.args.numbers.now c.loop-number.number-index n (omega arith)
    (c.loop-number.invariant n)
