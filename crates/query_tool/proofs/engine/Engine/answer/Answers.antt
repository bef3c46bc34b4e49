use Rattle.std.proofs.Common.{◌-◌, ◌^◌, subst}
use Rattle.std.proofs.lemmas.Result.{on_ok_weaker}
use Rattle.answer_printer.specs.declared.form.AnswerForm.{AnswerForm}
use Rattle.query_service.specs.LimitedAnswer.{IsAnswerWithin}
use Rattle.query_tool.proofs.LimitLemmas.{counted_answers, unlimited_answers}
use Rattle.query_tool.proofs.engine.Engine.answer.Goals as goal

-- the answer under the greatest limit, with all lines and names, is the answer to the line
pub returns-clause-ok : goal.returns-clause-ok
returns-clause-ok c =
    let contents = c.args.self.now in
    let line = c.args.line.now in
    on_ok_weaker c.answer_within.result
    (λ answered.
    let (text, is, told) = answered in (
      text,
      unlimited_answers contents line text
          (subst (λ (form : AnswerForm). IsAnswerWithin (2 ^ 64 - 1) form contents line text) c.whole.ensures
          (counted_answers (2 ^ 64 - 1) c.whole.result contents line _ _ text is)),
      told,
    ))
    c.answer_within.ensures.ok
