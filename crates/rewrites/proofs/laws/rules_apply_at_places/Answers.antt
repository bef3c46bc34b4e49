use Rattle.rewrites.proofs.KeepingLemmas.{is_there_alone}
use Rattle.rewrites.proofs.laws.rules_apply_at_places.Goals as goal

-- a rule makes a node at a place exactly if the place names a node of which it makes one, and the result is the whole
-- with that node put there
pub returns : goal.returns
returns c = is_there_alone
