use Rattle.std.proofs.lemmas.Result.{on_err_weaker, on_ok_weaker}
use Rattle.streams.proofs.WaitingLemmas.{Puts-cut, Puts-then}
use Rattle.streams.proofs.output_buffer.OutputBuffer.put_line.Goals as goal

-- the line feed is put after the bytes of the line
pub returns-in-Ok-clause-ok : goal.returns-in-Ok-clause-ok
returns-in-Ok-clause-ok g c =
    on_ok_weaker c.put-in-Ok.result
    (λ put. Puts-then _ _ _ c.args.self.now c.args.bytes.now c.put.new.self c.in-Ok.ensures.ok _ c.put-in-Ok.new.self
    put)
    c.put-in-Ok.ensures.ok

-- if the output fails at the line feed, a front of what waited and of the line was written
pub returns-in-Ok-clause-err : goal.returns-in-Ok-clause-err
returns-in-Ok-clause-err g c =
    on_err_weaker c.put-in-Ok.result
    (λ front. Puts-cut _ _ _ c.args.self.now c.args.bytes.now c.put.new.self c.in-Ok.ensures.ok _ front)
    c.put-in-Ok.ensures.err
