use Rattle.std.proofs.Common.{List, ℕ, [], ◌≡◌, ◌∙◌, ◌++◌, ap, codes}
use Rattle.set_algebra.specs.Physical.{physical_of}
use Rattle.plan_bounds.specs.Bounds.{bound, capped}
use Rattle.answer_printer.specs.AnswerText.{number_line}
use Rattle.answer_printer.specs.inside.PlanLines.{before_bound, with_bounds}
use Rattle.answer_printer.specs.PlanText.{outline}
use Rattle.answer_printer.proofs.LinedLemmas.{lines_are}
use Rattle.answer_printer.proofs.plan.plan_bytes.Goals as goal

-- the head and the lines with the plan's own bounds are the text of the plan
pub returns : goal.returns
returns c =
    let indexed = c.args.indexes.now in
    let plan = physical_of c.args.physical.now.plan in
    let bounds = c.as_slice.result.now in
    let head : List ℕ = codes "PLAN " ++ number_line (capped (bound indexed plan)) in
    let head_is : c.write_number.new.text.items ≡ head =
    c.in_ok-write_number.ensures ∙ (λ i. c.in_ok-text.ensures.items i ++ number_line (c.bound.ensures i)) in
    let plan_is = ap physical_of c.plan.ensures.plan in
    c.in_ok-write_plan.ensures.text
    ∙ (λ i. head_is i ++ with_bounds (outline before_bound [] (plan_is i)) bounds)
    ∙ ap (λ (lines : List ℕ). head ++ lines)
    (lines_are indexed plan bounds (c.as_slice.ensures.value ∙ c.in_ok-bounds.ensures))
