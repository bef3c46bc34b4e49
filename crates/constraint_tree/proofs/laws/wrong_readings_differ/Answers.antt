use Rattle.std.proofs.Common.{refl}
use Rattle.number_lists.proofs.ListLemmas.{differ}
use Rattle.constraint_tree.proofs.laws.wrong_readings_differ.Goals as goal

-- on the sample, braces split into one pair of braces for each attribute give another answer
pub returns-clause-split_braces : goal.returns-clause-split_braces
returns-clause-split_braces c = (refl, refl, differ _ _ refl)

-- on the sample, `!=` read as the negation of `=` gives another answer
pub returns-clause-not_equal : goal.returns-clause-not_equal
returns-clause-not_equal c = (refl, refl, differ _ _ refl)

-- on the sample, `[0..0]` inside braces read of the whole concept gives another answer
pub returns-clause-none_in_braces : goal.returns-clause-none_in_braces
returns-clause-none_in_braces c = (refl, refl, differ _ _ refl)

-- on the sample, group 0 read as a group like the others gives another answer
pub returns-clause-group_zero : goal.returns-clause-group_zero
returns-clause-group_zero c = (refl, refl, differ _ _ refl)

-- on the sample, counting rows in place of distinct pairs gives another answer
pub returns-clause-rows : goal.returns-clause-rows
returns-clause-rows c = (refl, refl, differ _ _ refl)

-- on the sample, `!!>` read of parents alone gives another answer
pub returns-clause-top : goal.returns-clause-top
returns-clause-top c = (refl, refl, differ _ _ refl)

-- on the sample, ancestors at most two is-a rows away give another answer
pub returns-clause-depth : goal.returns-clause-depth
returns-clause-depth c = (refl, refl, differ _ _ refl)

-- on the sample, following the first parent of each concept alone gives another answer
pub returns-clause-second_parent : goal.returns-clause-second_parent
returns-clause-second_parent c = (refl, refl, differ _ _ refl)

-- on the sample, `<<(a AND b)` read as `<<a AND <<b` gives another answer
pub returns-clause-walk_of_and : goal.returns-clause-walk_of_and
returns-clause-walk_of_and c = (refl, refl, differ _ _ refl)
