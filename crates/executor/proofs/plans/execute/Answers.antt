use Rattle.std.proofs.Common.{◌≡◌, ◌∙◌, ap, sym, arith}
use Rattle.set_algebra.specs.Meaning.{means}
use Rattle.set_algebra.specs.Physical.{physical_of}
use Rattle.set_algebra.specs.Plan.{plan_of}
use Rattle.set_algebra.proofs.PhysicalLemmas.{logical-physical_of}
use Rattle.plan_bounds.specs.Bounds.{bound}
use Rattle.candidates.specs.Numbers.{numbers_in}
use Rattle.executor.proofs.plans.execute.Goals as goal

-- if an error is returned, the visits are within the bound of the plan
pub returns-in_err-answer-clause-within : goal.returns-in_err-answer-clause-within
returns-in_err-answer-clause-within g c =
    let same : bound c.args.indexes.now (physical_of c.args.physical.now.plan)
    ≡ bound c.open.result.0.indexes.now (physical_of c.plan-plan.result.now) =
    (λ i. bound (sym c.open.ensures.indexes i) (physical_of (sym c.plan-plan.ensures.plan i))) in
    omega (arith, c.execute_within-found.ensures.counted.within, c.open.ensures.count, c.visits.ensures, same)

-- if an answer is returned, the visits are within the bound of the plan
pub returns-clause-within : goal.returns-clause-within
returns-clause-within g c =
    let same : bound c.args.indexes.now (physical_of c.args.physical.now.plan)
    ≡ bound c.open.result.0.indexes.now (physical_of c.plan-plan.result.now) =
    (λ i. bound (sym c.open.ensures.indexes i) (physical_of (sym c.plan-plan.ensures.plan i))) in
    omega (arith, c.execute_within-found.ensures.counted.within, c.open.ensures.count, c.visits.ensures, same)

-- the choices of a plan do not change what it means, so the answer has what the plan means
pub returns-clause-items : goal.returns-clause-items
returns-clause-items g c =
    let same = logical-physical_of c.plan-plan.result.now ∙ ap plan_of c.plan-plan.ensures.plan in
    ap g.S.ConceptSet.items_of c.close.ensures
    ∙ c.in_ok-answer.ensures.found.items
    ∙ (λ i. numbers_in (c.open.ensures.snapshot i).release (means (c.open.ensures.snapshot i).release (same i)))
