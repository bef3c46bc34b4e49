use Rattle.std.proofs.Common.{ℕ, ◌∙◌, ap, sym}
use Rattle.std.proofs.lemmas.Result.{on_ok_weaker}
use Rattle.release_model.specs.Release.{Release}
use Rattle.constraint_tree.specs.Tree.{tree_of}
use Rattle.set_algebra.specs.Meaning.{means}
use Rattle.set_algebra.specs.Physical.{physical_of}
use Rattle.set_algebra.specs.Plan.{Plan}
use Rattle.answer_printer.specs.PlanText.{plan_text}
use Rattle.query_tool.proofs.ExplanationLemmas.{explains}
use Rattle.query_tool.proofs.answering.explain_least_plan.Goals as goal

-- the printed text is that of the plan with the least bounds, so it explains the constraint
pub returns-clause-ok : goal.returns-clause-ok
returns-clause-ok c =
    let tree = tree_of c.args.constraint.now in
    let indexed = c.args.indexes.now in
    let physical = c.in_ok-physical.physical in
    let chosen = c.in_ok-physical.ensures in
    let meaning = λ (release : Release) (concept : ℕ).
    ap (λ (plan : Plan). means release plan concept) (sym chosen.plan) ∙ chosen.meaning release concept in
    on_ok_weaker c.print_plan.result
    (λ printed. (
      plan_text indexed (physical_of physical.plan),
      explains c.args.snapshot.now tree indexed (physical_of physical.plan) c.requires chosen.chosen chosen.least
          meaning,
      printed,
    ))
    c.print_plan.ensures.ok
