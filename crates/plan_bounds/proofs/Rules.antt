-- Sets of lemmas that functions name.
use Rattle.set_algebra.proofs.PhysicalLemmas.{physicals_of_items}

-- lemmas for the functions that add up sizes, bounds and floors
pub ruleset costing = (physicals_of_items)
