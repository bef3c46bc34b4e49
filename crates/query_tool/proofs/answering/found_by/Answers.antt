use Rattle.set_algebra.specs.Plan.{plan_of}
use Rattle.query_tool.proofs.AnswerLemmas.{concepts_answered}
use Rattle.query_tool.proofs.answering.found_by.Goals as goal

-- the concepts found are those of each constraint that denotes what the plan means
pub returns-clause-concepts : goal.returns-clause-concepts
returns-clause-concepts g c = λ tree same.
    concepts_answered c.args.snapshot.now.release tree (plan_of c.args.physical.now.plan) _ same
    c.in_ok-found.ensures.items
