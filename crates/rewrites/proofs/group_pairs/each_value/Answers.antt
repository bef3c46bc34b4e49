use Rattle.std.proofs.Common.{◌∙◌, ap, arith}
use Rattle.set_algebra.specs.Plan.{groups_from}
use Rattle.rewrites.proofs.ListLemmas.{more_made, all_made, groups_made_of_plans}
use Rattle.rewrites.proofs.group_pairs.each_value.Goals as goal

-- the loop of `each_value` keeps its invariant: it has made the `pairs_group_plan` of the plans of values read so far
pub loop-part-preserved : goal.loop-part-preserved
loop-part-preserved c =
    more_made _ _ _ _ _ _ _ _ c.in_ok-made.ensures c.loop-part-test.true c.part-item.is c.loop-part.invariant
    c.pairs_within.ensures

-- `each_value` returns the `pairs_group_plan` made of all plans of values, in their order
pub returns : goal.returns
returns c = ap groups_from (all_made _ _ _ _ _ (omega arith) c.loop-part.invariant) ∙ groups_made_of_plans _ _
