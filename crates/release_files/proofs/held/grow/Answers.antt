use Rattle.std.proofs.Common.{arith, take_all, vec_len}
use Rattle.release_files.proofs.held.grow.Goals as goal

-- if memory is refused, the buffer keeps its bytes
pub returns-in_err-resize-clause-kept : goal.returns-in_err-resize-clause-kept
returns-in_err-resize-clause-kept c =
    rw c.in_err-resize.ensures.items (take_all (vec_len c.args.buffer.now) c.args.buffer.now.items (omega arith))
