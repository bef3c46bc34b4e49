use Rattle.std.proofs.Common.{arith}
use Rattle.rf2_rows.proofs.Starts.{among_more, starts_rise}
use Rattle.rf2_rows.proofs.tabs.push_starts.Goals as goal

-- the next start is after the one before
pub loop-left-smaller : goal.loop-left-smaller
loop-left-smaller c =
    omega (
      arith,
      starts_rise c.args.line.now c.loop-left.starts c.loop-left.count c.args.from c.loop-left.left
          c.loop-left.invariant (omega (arith, c.loop-left.invariant.cut.few, c.if-count-eq10.false)) (omega arith),
    )

-- the lowest bit is that of the tab that ends the next field
pub loop-left-preserved : goal.loop-left-preserved
loop-left-preserved c =
    among_more c.args.line.now c.loop-left.starts c.loop-left.count c.args.from c.loop-left.left
    c.loop-left.invariant (omega (arith, c.loop-left.invariant.cut.few, c.if-count-eq10.false)) (omega arith)
