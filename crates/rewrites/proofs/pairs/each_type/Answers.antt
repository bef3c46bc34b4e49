use Rattle.std.proofs.Common.{◌∙◌, ap, arith}
use Rattle.set_algebra.specs.Plan.{plans_from}
use Rattle.rewrites.proofs.ListLemmas.{more_made, all_made, plans_made}
use Rattle.rewrites.proofs.pairs.each_type.Goals as goal

-- the loop of `each_type` keeps its invariant: it has made the `pairs_plan`s of the types read so far
pub loop-part-preserved : goal.loop-part-preserved
loop-part-preserved c =
    more_made _ _ _ _ _ _ _ _ c.in_ok-made.ensures c.loop-part-test.true c.part-item.is c.loop-part.invariant
    c.pairs.ensures

-- `each_type` returns the `pairs_plan`s made of all types, in their order
pub returns : goal.returns
returns c = ap plans_from (all_made _ _ _ _ _ (omega arith) c.loop-part.invariant) ∙ plans_made _ _
