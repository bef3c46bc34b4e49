use Rattle.std.proofs.lemmas.Result.{on_err_weaker, on_ok_weaker}
use Rattle.std.proofs.Common.{append_assoc, subst}
use Rattle.streams.specs.Waiting.{WritesFront}
use Rattle.streams.proofs.WaitingLemmas.{Puts-cut, Puts-then, WritesFront-more}
use Rattle.answer_printer.proofs.answer.put_answer.Goals as goal

-- the first line and then the lines of the concepts are put
pub returns-in-Ok-clause-ok : goal.returns-in-Ok-clause-ok
returns-in-Ok-clause-ok g c =
    on_ok_weaker c.put_lines.result
    (Puts-then _ _ _ c.args.buffer.now c.args.head.now c.put.new.self c.in-Ok.ensures.ok _ c.put_lines.new.buffer)
    c.put_lines.ensures.ok

-- if the output fails at the lines, a front of the first line and the lines was written
pub returns-in-Ok-clause-err : goal.returns-in-Ok-clause-err
returns-in-Ok-clause-err g c =
    on_err_weaker c.put_lines.result
    (Puts-cut _ _ _ c.args.buffer.now c.args.head.now c.put.new.self c.in-Ok.ensures.ok _)
    c.put_lines.ensures.err

-- if the output fails at the first line, a front of the first line and the lines was written
pub returns-in-Err-clause-err : goal.returns-in-Err-clause-err
returns-in-Err-clause-err g c =
    subst (WritesFront (g.W.AnswerOutput.written c.args.output.now) (g.W.AnswerOutput.written c.put.new.output))
    (append_assoc c.args.buffer.now c.args.head.now _) (WritesFront-more _ _ _ _ c.in-Err.ensures.err)
