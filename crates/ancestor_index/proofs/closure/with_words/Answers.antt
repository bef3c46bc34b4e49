use Rattle.std.proofs.Common.{arith}
use Rattle.std.proofs.lemmas.Bool.Decides.{nat_tests}
use Rattle.std.proofs.lemmas.Grind.{common_steps}
use Rattle.number_lists.proofs.WhereLemmas.{has-numbers_where}
use Rattle.ancestor_index.proofs.GatherLemmas.{with_words_has}
use Rattle.ancestor_index.proofs.closure.with_words.Goals as goal

-- a set joined with the words has the numbers of both
pub returns-in-Some-clause-items : goal.returns-in-Some-clause-items
returns-in-Some-clause-items g c =
    grind (arith, common_steps, nat_tests, with_words_has, c.or.ensures, c.in_ok-set.ensures)

-- without a set, the numbers of the words make one
pub returns-in-None-clause-items : goal.returns-in-None-clause-items
returns-in-None-clause-items g c = grind (arith, common_steps, nat_tests, has-numbers_where, c.in_ok-set.ensures)
