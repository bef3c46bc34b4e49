use Rattle.std.proofs.Common.{◌∙◌}
use Rattle.std.proofs.lemmas.Result.{IfErr-weaker, on_ok_weaker}
use Rattle.streams.proofs.WaitingLemmas.{LeavesAnswer-weaker}
use Rattle.query_service.specs.SessionAnswer.{IsDescription}
use Rattle.query_tool.proofs.describing.write_description.Goals as goal

-- the text that was put describes the concept that the line names
pub returns-in-Ok-clause-ok : goal.returns-in-Ok-clause-ok
returns-in-Ok-clause-ok g c =
    on_ok_weaker c.put_text.result
    (λ put. (c.as_slice.result.now, c.as_slice.ensures.value ∙ c.in-Ok.ensures, put)) c.put_text.ensures.ok

-- a fault leaves a front of the description, as it leaves a front of the text
pub returns-in-Ok-clause-fault : goal.returns-in-Ok-clause-fault
returns-in-Ok-clause-fault g c =
    IfErr-weaker c.put_text.result _ _
    (λ fault left.
    LeavesAnswer-weaker _ (IsDescription c.args.engine.now c.args.line.now)
    (λ other one. one ∙ c.as_slice.ensures.value ∙ c.in-Ok.ensures) fault _ _ _ _ left)
    c.put_text.ensures.fault
