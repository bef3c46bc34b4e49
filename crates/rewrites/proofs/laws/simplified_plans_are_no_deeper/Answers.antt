use Rattle.rewrites.proofs.DepthLemmas.{simplified_sinks}
use Rattle.rewrites.proofs.laws.simplified_plans_are_no_deeper.Goals as goal

-- a simplified plan is no deeper than the plan
pub returns : goal.returns
returns c = simplified_sinks
