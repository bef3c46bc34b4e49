use Rattle.std.proofs.Common.{◌∙◌}
use Rattle.streams.proofs.traversal.Traversal.take_all.Goals as goal

-- if a name cannot be taken, the folders that were entered stay the same
pub returns-in-Err-clause-entered : goal.returns-in-Err-clause-entered
returns-in-Err-clause-entered g c = c.in-Err.ensures.entered ∙ c.loop-name.invariant.entered
