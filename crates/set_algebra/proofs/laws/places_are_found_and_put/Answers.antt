use Rattle.set_algebra.proofs.NodeLemmas.{replaces_one_child, finds_what_is_put, puts_back}
use Rattle.set_algebra.proofs.laws.places_are_found_and_put.Goals as goal

-- `with_child` replaces child `number` by a node of its sort, and leaves the other children
pub returns-clause-child : goal.returns-clause-child
returns-clause-child c = replaces_one_child

-- a node of the sort of the old one stands at the place where `put_at` puts it
pub returns-clause-found : goal.returns-clause-found
returns-clause-found c = finds_what_is_put

-- putting at a place the node that stands there changes nothing
pub returns-clause-back : goal.returns-clause-back
returns-clause-back c = puts_back
