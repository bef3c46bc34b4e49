use Rattle.std.proofs.Common.{arith}
use Rattle.set_algebra.specs.Physical.{physical_of}
use Rattle.plan_bounds.specs.Counts.{one_of}
use Rattle.plan_bounds.proofs.FloorLemmas.{walk-le}
use Rattle.plan_bounds.proofs.limits.walk_limits.Goals as goal

-- the floor of a walk is at most its bound, so the limits are in order
pub returns-clause-ordered : goal.returns-clause-ordered
returns-clause-ordered c =
    omega (
      arith,
      c.walk_floor.ensures,
      c.cost_of_walk.ensures.bound,
      walk-le c.args.lengths.indexes.now c.args.operator (one_of (physical_of c.args.operand.now)) c.args.size,
    )
