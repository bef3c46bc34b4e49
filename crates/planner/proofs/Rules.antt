-- Sets of lemmas that functions name.
use Rattle.set_algebra.proofs.PhysicalLemmas.{physicals_of_items}
use Rattle.set_algebra.proofs.PlanLemmas.{plans_of_items}

-- lemmas for the functions that list bounds
pub ruleset listing = (physicals_of_items)

-- lemmas for the functions that put choices into leaves
pub ruleset choosing = (plans_of_items, physicals_of_items)
