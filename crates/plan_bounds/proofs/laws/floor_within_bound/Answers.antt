use Rattle.plan_bounds.proofs.FloorLemmas.{floor-le-bound}
use Rattle.plan_bounds.proofs.laws.floor_within_bound.Goals as goal

-- the floor of a plan is at most its bound
pub returns : goal.returns
returns c = floor-le-bound
