use Rattle.constraint_tree.proofs.DenotationLemmas.{denotes_concepts_in_force}
use Rattle.constraint_tree.proofs.laws.constraints_denote_concepts_in_force.Goals as goal

-- a constraint denotes only concepts in force
pub returns : goal.returns
returns c = denotes_concepts_in_force
