use Rattle.std.proofs.Common.{◌∙◌, ◌++◌, ◌∷◌, [], ap, subst, sym}
use Rattle.query_run.specs.Fault.{IsAnswerFault, LeavesWritten, run_fault_of}
use Rattle.query_run.specs.declared.running.RunFault.{RunFault}
use Rattle.query_run.proofs.FaultLemmas.{answers_one, is_answer_fault, leaves_one}
use Rattle.query_run.proofs.running.Progress.answer_line.Goals as goal

-- the answer to the pending bytes and `line` is written
pub returns-in-Ok-clause-answer : goal.returns-in-Ok-clause-answer
returns-in-Ok-clause-answer g c =
    let (text, is, wrote) = c.in-Ok.ensures.answer in
    answers_one (g.A.AnswerLine.answers c.args.answerer.now) _ _ (c.args.self.now.pending.items ++ c.args.line.now) text
    is wrote

-- a fault of the answer leaves what the run's fault says
pub returns-in-Err-clause-fault : goal.returns-in-Err-clause-fault
returns-in-Err-clause-fault g c =
    let answers = g.A.AnswerLine.answers c.args.answerer.now in
    let line = c.args.self.now.pending.items ++ c.args.line.now in
    let count = c.args.self.now.answered in
    let before = g.W.AnswerOutput.written c.args.output.now in
    let after = g.W.AnswerOutput.written c.write_answer.new.output in
    let failed = g.W.AnswerOutput.has_failed c.write_answer.new.output in
    let told = sym (c.of.ensures ∙ ap (run_fault_of c.in-Err.fault) c.in-Err.ensures.answered) in (
      subst (λ (fault : RunFault). IsAnswerFault fault count failed) told
          (is_answer_fault c.in-Err.fault count failed c.in-Err.ensures.failed),
      subst (λ (fault : RunFault). LeavesWritten answers (line ∷ []) 0 fault before after) told
          (leaves_one answers before after line c.write_answer.new.self.waiting c.in-Err.fault count
          c.in-Err.ensures.fault),
    )
