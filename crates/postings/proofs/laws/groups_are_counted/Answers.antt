use Rattle.postings.proofs.CountLemmas.{groups_count}
use Rattle.postings.proofs.laws.groups_are_counted.Goals as goal

-- a concept has equally many groups that pass a test by their numbers as by definition
pub returns : goal.returns
returns c = groups_count
