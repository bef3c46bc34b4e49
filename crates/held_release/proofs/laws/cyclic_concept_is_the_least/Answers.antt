use Rattle.held_release.proofs.LawLemmas.{names_least_cyclic}
use Rattle.held_release.proofs.laws.cyclic_concept_is_the_least.Goals as goal

-- the concept that `least_cyclic` names is the least that reaches itself
pub returns : goal.returns
returns c = names_least_cyclic
