use Rattle.std.proofs.Common.{None, Some, ◌∙◌, ap, sym}
use Rattle.set_algebra.specs.Plan.{plan_of}
use Rattle.candidates.proofs.AddsLemmas.{adds_none}
use Rattle.executor.proofs.NamedLemmas.{adds_named}
use Rattle.executor.proofs.plans.estimate_named.Goals as goal

-- the rows of a concept in force that the plan names are added
pub returns-in-Some : goal.returns-in-Some
returns-in-Some c =
    adds_named c.args.reader.snapshot.now.release c.concept_count.ensures.rising c.in-One.id (Some c.in-Some.concept)
    (sym c.index_of.ensures.release ∙ c.in-Some.is) c.args.estimate.now c.add.new.self c.add.ensures
    (plan_of c.args.plan.now) (ap plan_of c.in-One.is)

-- a concept that is not in force has no row, so nothing is added
pub returns-in_default-index_of : goal.returns-in_default-index_of
returns-in_default-index_of c =
    adds_named c.args.reader.snapshot.now.release c.concept_count.ensures.rising c.in-One.id None
    (sym c.index_of.ensures.release ∙ c.in_default-index_of.is) c.args.estimate.now c.args.estimate.now
    (adds_none c.args.estimate.now)
    (plan_of c.args.plan.now) (ap plan_of c.in-One.is)
