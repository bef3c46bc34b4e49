use Rattle.plan_bounds.proofs.SizeLemmas.{finds_within_size}
use Rattle.plan_bounds.proofs.laws.finds_within_size.Goals as goal

-- a plan finds at most its size
pub returns : goal.returns
returns c = finds_within_size
