use Rattle.number_lists.proofs.DistinctLemmas.{keeps_each_number_once}
use Rattle.release_model.proofs.PairLemmas.{keeps_each_pair_once}
use Rattle.release_model.proofs.laws.distinct_keeps_each_once.Goals as goal

-- `distinct` keeps each number of a list once
pub returns-clause-numbers : goal.returns-clause-numbers
returns-clause-numbers c = keeps_each_number_once

-- `distinct` keeps each pair of a list once
pub returns-clause-pairs : goal.returns-clause-pairs
returns-clause-pairs c = keeps_each_pair_once
