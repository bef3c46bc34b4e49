use Rattle.std.proofs.Common.{◌-◌}
use Rattle.hierarchy.proofs.WayLemmas.{OnWay}
use Rattle.hierarchy.proofs.order.parents_first.Given as goal

-- the first `done` concepts of the order are done
abbrev pub invariant-loop-done : goal.invariant-loop-done
invariant-loop-done l = OnWay l.count l.rows l.done l.waiting.items l.order.items

-- the number of concepts that are not done gets less
abbrev pub decreases-loop-done : goal.decreases-loop-done
decreases-loop-done l = l.count - l.done
