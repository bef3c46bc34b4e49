use Rattle.std.proofs.Common.{ap}
use Rattle.set_algebra.specs.Plan.{group_plan_of, group_plans_of, group_plan_then, no_group_plans}
use Rattle.rewrites.proofs.group_lists.with_first.Goals as goal

-- `with_first` returns `first` and copies of the plans of groups `rest`
pub returns : goal.returns
returns c =
    c.with_copies.ensures (group_plan_then (group_plan_of c.args.first) no_group_plans)
    (ap group_plans_of c.in_ok-first.ensures.items)
