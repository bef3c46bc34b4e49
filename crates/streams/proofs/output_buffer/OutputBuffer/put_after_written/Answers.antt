use Rattle.std.proofs.lemmas.Result.{on_err_weaker, on_ok_weaker}
use Rattle.streams.proofs.WaitingLemmas.{Puts-through, WritesFront-after}
use Rattle.streams.proofs.output_buffer.OutputBuffer.put_after_written.Goals as goal

-- if the bytes have no room, they are written after those that waited
pub returns-then-bytes-capacity-clause-ok : goal.returns-then-bytes-capacity-clause-ok
returns-then-bytes-capacity-clause-ok g c =
    on_ok_weaker c.write_all.result
    (λ wrote. Puts-through _ _ _ c.args.self.now c.args.bytes.now c.flush.new.self c.in-Ok.ensures.ok wrote
    c.flush.ensures.empty)
    c.write_all.ensures.ok

-- if the output fails at the bytes, a front of what waited and of the bytes was written
pub returns-then-bytes-capacity-clause-err : goal.returns-then-bytes-capacity-clause-err
returns-then-bytes-capacity-clause-err g c =
    on_err_weaker c.write_all.result
    (λ front. WritesFront-after _ _ _ c.args.self.now c.args.bytes.now c.in-Ok.ensures.ok front)
    c.write_all.ensures.err
