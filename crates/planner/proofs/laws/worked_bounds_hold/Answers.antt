use Rattle.std.proofs.Common.{refl}
use Rattle.planner.proofs.laws.worked_bounds_hold.Goals as goal

-- the counts of the sample release follow by computing
pub returns-clause-counts : goal.returns-clause-counts
returns-clause-counts c = refl

-- the choices, bounds and floor of the plan by value follow by computing
pub returns-clause-by_value : goal.returns-clause-by_value
returns-clause-by_value c = record { choices_are = refl; own_bounds_are = refl; bound_is = refl; floor_is = refl }

-- the choices, bounds and floor of the plan by type follow by computing
pub returns-clause-by_type : goal.returns-clause-by_type
returns-clause-by_type c = record { choices_are = refl; own_bounds_are = refl; bound_is = refl; floor_is = refl }

-- the choices, bounds and floor of the plan in braces follow by computing
pub returns-clause-in_braces : goal.returns-clause-in_braces
returns-clause-in_braces c = record { choices_are = refl; own_bounds_are = refl; bound_is = refl; floor_is = refl }

-- the choices, bounds and floor of the plan of one concept follow by computing
pub returns-clause-of_one : goal.returns-clause-of_one
returns-clause-of_one c = record { choices_are = refl; own_bounds_are = refl; bound_is = refl; floor_is = refl }
