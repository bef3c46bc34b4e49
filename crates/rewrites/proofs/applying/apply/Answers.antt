use Rattle.set_algebra.specs.Plan.{plan_of}
use Rattle.set_algebra.specs.Places.{concept_node}
use Rattle.rewrites.proofs.KeepingLemmas.{keeps_meaning}
use Rattle.rewrites.proofs.applying.apply.Goals as goal

-- the plan that `apply` returns means the same as the given one over every release
pub returns-in-Ok-clause-meaning : goal.returns-in-Ok-clause-meaning
returns-in-Ok-clause-meaning c =
    λ release concept.
    keeps_meaning release c.args.rule c.args.place.now (concept_node (plan_of c.args.plan))
    (concept_node (plan_of c.in-Ok.new)) c.in-Ok.ensures.taken concept
