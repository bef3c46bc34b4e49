use Rattle.std.proofs.Common.{refl}
use Rattle.set_algebra.proofs.laws.worked_queries_have_plans.Goals as goal

-- the plan of `<100005:104001=106004` is the conjunction of a walk and of pairs with a test by concept
pub returns-clause-attribute : goal.returns-clause-attribute
returns-clause-attribute c = refl

-- the plan of `*:105000>#2` is the conjunction of all concepts and of pairs with a test by number
pub returns-clause-number : goal.returns-clause-number
returns-clause-number c = refl

-- the plan of a query with braces has the conjunction of two plans of groups inside `groups_plan`
pub returns-clause-braces : goal.returns-clause-braces
returns-clause-braces c = refl

-- the plan of `100005,100005` has the plan of the concept twice
pub returns-clause-twice : goal.returns-clause-twice
returns-clause-twice c = refl
