use Rattle.std.proofs.Common.{ap}
use Rattle.set_algebra.specs.Plan.{plan_of, plans_of, plan_then, no_plans}
use Rattle.rewrites.proofs.lists.with_first.Goals as goal

-- `with_first` returns `first` and copies of the plans of concepts `rest`
pub returns : goal.returns
returns c =
    c.with_copies.ensures (plan_then (plan_of c.args.first) no_plans) (ap plans_of c.in_ok-first.ensures.items)
