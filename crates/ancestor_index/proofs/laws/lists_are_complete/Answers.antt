use Rattle.ancestor_index.proofs.CompleteLemmas.{are_complete, are_rising, are_single_steps}
use Rattle.ancestor_index.proofs.laws.lists_are_complete.Goals as goal

-- each list of a hierarchy rises strictly
pub returns-clause-rising : goal.returns-clause-rising
returns-clause-rising c = are_rising

-- the lists of ancestors and descendants hold exactly what chains of is-a rows lead to
pub returns-clause-reached : goal.returns-clause-reached
returns-clause-reached c = are_complete

-- the lists of parents and children hold exactly what single is-a rows lead to
pub returns-clause-steps : goal.returns-clause-steps
returns-clause-steps c = are_single_steps
