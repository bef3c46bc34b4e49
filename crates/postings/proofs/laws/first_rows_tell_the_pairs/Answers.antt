use Rattle.postings.proofs.CountLemmas.{back_count, first_entries, first_entries_of_group}
use Rattle.postings.proofs.laws.first_rows_tell_the_pairs.Goals as goal

-- the distinct pairs of a concept are those of its entries that are first
pub returns-clause-concept : goal.returns-clause-concept
returns-clause-concept c = λ release rises. first_entries release rises

-- the distinct pairs of a group are those of its entries that are first in it
pub returns-clause-group : goal.returns-clause-group
returns-clause-group c = λ release rises. first_entries_of_group release rises

-- the distinct reverse pairs of a concept are counted by its entries that are first
pub returns-clause-back : goal.returns-clause-back
returns-clause-back c = back_count
