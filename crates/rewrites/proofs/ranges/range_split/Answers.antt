use Rattle.std.proofs.Common.{Option, subst, sym, ◌∙◌}
use Rattle.set_algebra.specs.Plan.{Plan, plan_of}
use Rattle.rewrites.specs.inside.Gives.{Gives}
use Rattle.rewrites.proofs.RangeLemmas.{range_split_made}
use Rattle.rewrites.proofs.ranges.range_split.Goals as goal

-- `range_split` returns the plan that RangeSplit makes of a plan with a cardinality that can be split
pub returns : goal.returns
returns c =
    subst (λ (made : Option Plan). Gives made c.given.result)
    (sym
    (range_split_made (plan_of c.args.plan.now) c.in-Some.count c.in-Some-split.least c.in-Some-split.most
    (sym c.in-Some.is ∙ c.count_of.ensures) (sym c.in-Some-split.is ∙ c.split.ensures)))
    (c.given.ensures _ c.with_counts.ensures)
