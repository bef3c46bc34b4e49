use Rattle.rewrites.proofs.KeepingLemmas.{keeps_meaning_at_root, keeps_meaning}
use Rattle.rewrites.proofs.laws.rules_keep_the_meaning.Goals as goal

-- each rule keeps the meaning of a node at its root
pub returns-clause-root : goal.returns-clause-root
returns-clause-root c = keeps_meaning_at_root

-- each rule keeps the meaning of a node at every place
pub returns-clause-place : goal.returns-clause-place
returns-clause-place c = keeps_meaning
