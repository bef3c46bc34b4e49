use Rattle.std.proofs.Common.{ap, ◌∙◌}
use Rattle.query_run.specs.KeptLine.{kept_of}
use Rattle.query_run.proofs.running.Progress.keep.Goals as goal

-- the first 65,536 bytes of the pending ones and the new ones are kept
pub returns-clause-pending : goal.returns-clause-pending
returns-clause-pending c = c.truncate.ensures.items ∙ ap kept_of c.in_ok-extend_from_slice.ensures.items
