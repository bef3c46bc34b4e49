use Rattle.std.proofs.Common.{◌∙◌, ap, arith}
use Rattle.set_algebra.specs.Plan.{groups_from}
use Rattle.rewrites.proofs.ListLemmas.{more_made, all_made, groups_made}
use Rattle.rewrites.proofs.group_lists.each_with.Goals as goal

-- the loop of `each_with` keeps its invariant: it has made the conjunctions of groups of the plans of groups read so
-- far
pub loop-part-preserved : goal.loop-part-preserved
loop-part-preserved c =
    more_made _ _ _ _ _ _ _ _ c.in_ok-made.ensures c.loop-part-test.true c.part-item.is c.loop-part.invariant
    c.and_first.ensures

-- `each_with` returns the conjunctions of groups made of all plans of groups, in their order
pub returns : goal.returns
returns c = ap groups_from (all_made _ _ _ _ _ (omega arith) c.loop-part.invariant) ∙ groups_made _ _
