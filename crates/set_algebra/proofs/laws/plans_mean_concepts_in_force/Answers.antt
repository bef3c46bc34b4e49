use Rattle.set_algebra.proofs.MeaningLemmas.{means_concepts_in_force}
use Rattle.set_algebra.proofs.laws.plans_mean_concepts_in_force.Goals as goal

-- each concept that a plan means over a release is in force there
pub returns : goal.returns
returns c = means_concepts_in_force
