use Rattle.std.proofs.Common.{◌++◌, ◌∙◌, List, ℕ, ap, subst, sym}
use Rattle.std.proofs.lemmas.Result.{IfErr-weaker, on_ok_weaker}
use Rattle.streams.proofs.WaitingLemmas.{LeavesAnswer-weaker}
use Rattle.query_service.specs.Explanation.{IsExplanation}
use Rattle.query_tool.proofs.explaining.write_explanation.Goals as goal

-- the text that was put explains the line
pub returns-in-Ok-clause-ok : goal.returns-in-Ok-clause-ok
returns-in-Ok-clause-ok g c =
    let (text, is, told) = c.in-Ok.ensures.ok in
    let same = c.as_slice.ensures.value ∙ told ∙ ap (λ (before : List ℕ). before ++ text) c.new-text.ensures.items in
    on_ok_weaker c.put_text.result
    (λ put. (c.as_slice.result.now, subst (IsExplanation c.args.engine.now c.args.line.now) (sym same) is, put))
    c.put_text.ensures.ok

-- a fault leaves a front of the explanation, as it leaves a front of the text
pub returns-in-Ok-clause-fault : goal.returns-in-Ok-clause-fault
returns-in-Ok-clause-fault g c =
    let (text, is, told) = c.in-Ok.ensures.ok in
    let same = c.as_slice.ensures.value ∙ told ∙ ap (λ (before : List ℕ). before ++ text) c.new-text.ensures.items in
    IfErr-weaker c.put_text.result _ _
    (λ fault left.
    LeavesAnswer-weaker _ (IsExplanation c.args.engine.now c.args.line.now)
    (λ other one. subst (IsExplanation c.args.engine.now c.args.line.now) (sym (one ∙ same)) is) fault _ _ _ _ left)
    c.put_text.ensures.fault
