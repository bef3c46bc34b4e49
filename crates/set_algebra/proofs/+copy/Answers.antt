use Rattle.std.proofs.Common.{List, ap, sym, ◌∙◌, arith}
use Rattle.set_algebra.specs.declared.plan.ConceptPlan.{ConceptPlan}
use Rattle.set_algebra.specs.Plan.{plan_of, plans_of}
use Rattle.set_algebra.proofs.PlanLemmas.{plan_of-Values, plans_of_items}
use Rattle.set_algebra.proofs.ListLemmas.{plans_so_far, groups_so_far, plans_more, groups_more, values_made}
use Rattle.set_algebra.proofs.+copy.Goals as goal

-- the loop of `each` keeps its invariant: the copies made so far have the plans of the items read so far
pub copy::each-loop-plan-preserved : goal.copy::each-loop-plan-preserved
copy::each-loop-plan-preserved t c =
    plans_more _ _ _ _ _ _ c.in_ok-push.ensures.items
    (plans_so_far c.args.plans.now c.loop-plan.plan-index c.plan-item.result c.loop-plan-test.true c.plan-item.is)
    c.loop-plan.invariant c.in_ok-copy.ensures

-- the loop of `each_group` keeps its invariant: the copies made so far have the plans of groups of the items read so
-- far
pub copy::each_group-loop-plan-preserved : goal.copy::each_group-loop-plan-preserved
copy::each_group-loop-plan-preserved t c =
    groups_more _ _ _ _ _ _ c.in_ok-push.ensures.items
    (groups_so_far c.args.plans.now c.loop-plan.plan-index c.plan-item.result c.loop-plan-test.true c.plan-item.is)
    c.loop-plan.invariant c.in_ok-copy.ensures

-- the copy of a `Values` plan has the plan of the original
pub plan::ConceptPlan::copy-returns-in_ok-each-in-Values :
    goal.plan::ConceptPlan::copy-returns-in_ok-each-in-Values
plan::ConceptPlan::copy-returns-in_ok-each-in-Values t c =
    let start_is = ap (λ (start : ConceptPlan). plan_of start) c.deref-in-Values.ensures in
    let names_are = ap (λ (names : List ConceptPlan). plans_of names) c.deref-in-Values-2.ensures.value in
    values_made c.in_ok-start-in-Values.start c.in_ok-each-in-Values.field-0 _ _
    (c.in_ok-start-in-Values.ensures ∙ start_is) (c.in_ok-each-in-Values.ensures ∙ names_are)
    ∙ sym (ap plan_of c.in-Values.is ∙ plan_of-Values c.in-Values.start c.in-Values.names)

-- the copy of a `Walk` plan has the plan of the original
pub plan::ConceptPlan::copy-returns-in_ok-boxed-in-Walk : goal.plan::ConceptPlan::copy-returns-in_ok-boxed-in-Walk
plan::ConceptPlan::copy-returns-in_ok-boxed-in-Walk t c = grind (arith, plans_of_items)

-- the copy of a `Members` plan has the plan of the original
pub plan::ConceptPlan::copy-returns-in_ok-boxed-in-Members : goal.plan::ConceptPlan::copy-returns-in_ok-boxed-in-Members
plan::ConceptPlan::copy-returns-in_ok-boxed-in-Members t c = grind (arith, plans_of_items)

-- the copy of an `Or` plan of concepts has the plan of the original
pub plan::ConceptPlan::copy-returns-in_ok-each-in-Or : goal.plan::ConceptPlan::copy-returns-in_ok-each-in-Or
plan::ConceptPlan::copy-returns-in_ok-each-in-Or t c = grind (arith, plans_of_items)

-- the copy of a `Minus` plan of concepts has the plan of the original
pub plan::ConceptPlan::copy-returns-in_ok-boxed-in-Minus : goal.plan::ConceptPlan::copy-returns-in_ok-boxed-in-Minus
plan::ConceptPlan::copy-returns-in_ok-boxed-in-Minus t c = grind (arith, plans_of_items)

-- the copy of a `Pairs` plan of concepts has the plan of the original
pub plan::ConceptPlan::copy-returns-in_ok-copy-in-Pairs : goal.plan::ConceptPlan::copy-returns-in_ok-copy-in-Pairs
plan::ConceptPlan::copy-returns-in_ok-copy-in-Pairs t c = grind (arith, plans_of_items)

-- the copy of a `Units` plan has the plan of the original
pub plan::ConceptPlan::copy-returns-in_ok-boxed_group-in-Units :
    goal.plan::ConceptPlan::copy-returns-in_ok-boxed_group-in-Units
plan::ConceptPlan::copy-returns-in_ok-boxed_group-in-Units t c = grind (arith, plans_of_items)
