use Rattle.std.proofs.Common.{List, ap, ◌∙◌, arith}
use Rattle.set_algebra.specs.declared.plan.ConceptPlan.{ConceptPlan}
use Rattle.set_algebra.specs.Plan.{plan_of, plans_of}
use Rattle.set_algebra.specs.Depth.{plan_depth, plans_depth}
use Rattle.set_algebra.proofs.PlanLemmas.{plan_of-Values}
use Rattle.set_algebra.proofs.ListLemmas.{deepest_more, deepest_group_more, plans_so_far, groups_so_far}
use Rattle.set_algebra.proofs.+depth.Goals as goal

-- the loop of `deepest` keeps its invariant: `deepest` is the depth of the parts read so far, cut off at 2^64 - 1
pub depth::deepest-loop-part-preserved : goal.depth::deepest-loop-part-preserved
depth::deepest-loop-part-preserved t c =
    c.max-deepest.ensures
    ∙ deepest_more _ _ _ _ _ _
    (plans_so_far c.args.parts.now c.loop-part.part-index c.part-item.result c.loop-part-test.true c.part-item.is)
    c.loop-part.invariant c.depth.ensures

-- the loop of `deepest_group` keeps its invariant: `deepest` is the depth of the plans of groups read so far, cut off
-- at 2^64 - 1
pub depth::deepest_group-loop-part-preserved : goal.depth::deepest_group-loop-part-preserved
depth::deepest_group-loop-part-preserved t c =
    c.max-deepest.ensures
    ∙ deepest_group_more _ _ _ _ _ _
    (groups_so_far c.args.parts.now c.loop-part.part-index c.part-item.result c.loop-part-test.true c.part-item.is)
    c.loop-part.invariant c.depth.ensures

-- `depth` returns the depth of a `Values` plan, cut off at 2^64 - 1
pub plan::ConceptPlan::depth-returns-in-Values : goal.plan::ConceptPlan::depth-returns-in-Values
plan::ConceptPlan::depth-returns-in-Values t c =
    let plan_is = ap plan_of c.in-Values.is ∙ plan_of-Values c.in-Values.start c.in-Values.names in
    let start_is = ap (λ (start : ConceptPlan). plan_depth (plan_of start)) c.deref-in-Values.ensures in
    let names_are = ap (λ (names : List ConceptPlan). plans_depth (plans_of names)) c.deref-in-Values-2.ensures.value in
    omega (arith, ap plan_depth plan_is, start_is, names_are)
