use Rattle.std.proofs.Common.{arith}
use Rattle.std.proofs.lemmas.Bool.Decides.{nat_tests}
use Rattle.sctid.proofs.PartDigit.{part_digit}
use Rattle.sctid.proofs.SctId.part.Goals as goal

-- if the second last digit is 0, the identifier is of a concept
pub returns-in-0 : goal.returns-in-0
returns-in-0 c =
    let digit = part_digit c.self.inside.number c.self.invariant.0 c.self.invariant.1 in
    grind (arith, nat_tests)

-- if the second last digit is 1, the identifier is of a description
pub returns-in-1 : goal.returns-in-1
returns-in-1 c =
    let digit = part_digit c.self.inside.number c.self.invariant.0 c.self.invariant.1 in
    grind (arith, nat_tests)

-- if the second last digit is neither 0 nor 1, the identifier is of a relationship
pub returns-in_default : goal.returns-in_default
returns-in_default c =
    let digit = part_digit c.self.inside.number c.self.invariant.0 c.self.invariant.1 in
    grind (arith, nat_tests)
