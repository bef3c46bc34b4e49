use Rattle.std.proofs.Common.{◌∙◌, ap, arith}
use Rattle.set_algebra.specs.Plan.{plans_from}
use Rattle.rewrites.proofs.ListLemmas.{more_made, all_made, plans_made_of_groups}
use Rattle.rewrites.proofs.braces.each_groups.Goals as goal

-- the loop of `each_groups` keeps its invariant: it has made the `groups_plan`s of the plans of groups read so far
pub loop-part-preserved : goal.loop-part-preserved
loop-part-preserved c =
    more_made _ _ _ _ _ _ _ _ c.in_ok-made.ensures c.loop-part-test.true c.part-item.is c.loop-part.invariant
    c.units.ensures

-- `each_groups` returns the `groups_plan`s made of all plans of groups, in their order
pub returns : goal.returns
returns c = ap plans_from (all_made _ _ _ _ _ (omega arith) c.loop-part.invariant) ∙ plans_made_of_groups _ _
