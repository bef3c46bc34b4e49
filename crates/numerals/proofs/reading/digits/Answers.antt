use Rattle.std.proofs.lemmas.Bool.Decides.{nat_tests}
use Rattle.std.proofs.lemmas.Grind.{common_steps}
use Rattle.std.proofs.Common.{arith}
use Rattle.numerals.proofs.DigitLemmas.{front_small}
use Rattle.numerals.proofs.reading.digits.Goals as goal

-- the number that at most `most` digits write is below 10^most
pub returns-clause-small : goal.returns-clause-small
returns-clause-small c = grind (arith, common_steps, nat_tests, front_small)
