use Rattle.std.proofs.Common.{refl}
use Rattle.number_lists.proofs.ListLemmas.{differ}
use Rattle.set_algebra.proofs.laws.wrong_plans_differ.Goals as goal

-- splitting braces into one pair of braces for each attribute changes the meaning
pub returns-clause-split_braces : goal.returns-clause-split_braces
returns-clause-split_braces c = (refl, refl, differ _ _ refl)

-- spreading a cardinality before braces over the parts of an `OR` changes the meaning
pub returns-clause-spread_count : goal.returns-clause-spread_count
returns-clause-spread_count c = (refl, refl, differ _ _ refl)

-- leaving out the braces after a cardinality changes the meaning
pub returns-clause-count_of_braces : goal.returns-clause-count_of_braces
returns-clause-count_of_braces c = (refl, refl, differ _ _ refl)
