use Rattle.std.proofs.Common.{◌-◌, ◌^◌, subst}
use Rattle.std.proofs.lemmas.Result.{IfErr-weaker, on_ok_weaker}
use Rattle.streams.proofs.WaitingLemmas.{LeavesAnswer-weaker}
use Rattle.answer_printer.specs.declared.form.AnswerForm.{AnswerForm}
use Rattle.query_service.specs.Answer.{IsAnswer}
use Rattle.query_service.specs.LimitedAnswer.{IsAnswerWithin}
use Rattle.query_tool.proofs.LimitLemmas.{unlimited_answers}
use Rattle.query_tool.proofs.engine.Engine.write_answer.Goals as goal

-- the text put under the greatest limit, with all lines and names, is the answer to the line
pub returns-clause-ok : goal.returns-clause-ok
returns-clause-ok g c =
    let contents = c.args.self.now in
    let line = c.args.line.now in
    on_ok_weaker c.write_within.result
    (λ written.
    let (text, is, put) = written in (
      text,
      unlimited_answers contents line text
          (subst (λ (form : AnswerForm). IsAnswerWithin (2 ^ 64 - 1) form contents line text) c.whole.ensures is),
      put,
    ))
    c.write_within.ensures.ok

-- a fault leaves a front of the answer to the line
pub returns-clause-fault : goal.returns-clause-fault
returns-clause-fault g c =
    let contents = c.args.self.now in
    let line = c.args.line.now in
    IfErr-weaker c.write_within.result _ _
    (λ fault left.
    LeavesAnswer-weaker _ (IsAnswer contents line)
    (λ text is. unlimited_answers contents line text
    (subst (λ (form : AnswerForm). IsAnswerWithin (2 ^ 64 - 1) form contents line text) c.whole.ensures is))
    fault _ _ _ _ left)
    c.write_within.ensures.fault
