use Rattle.set_algebra.proofs.PlaceLemmas.{keeps_meaning_at_places}
use Rattle.set_algebra.proofs.laws.places_keep_the_meaning.Goals as goal

-- a node keeps its meaning if the node at one of its places is replaced by one that means the same
pub returns : goal.returns
returns c = keeps_meaning_at_places
