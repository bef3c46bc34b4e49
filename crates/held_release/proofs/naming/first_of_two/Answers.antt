use Rattle.std.proofs.Common.{arith}
use Rattle.std.proofs.lemmas.Grind.{elements}
use Rattle.held_release.proofs.naming.first_of_two.Goals as goal

-- if the later row comes before the row at `place`, its place is that of the first of both
pub returns-in-Some : goal.returns-in-Some
returns-in-Some c row = grind (arith, elements, (c.comes_before.ensures row))

-- if no later row comes before the row at `place`, the place is that of the first
pub returns-in_default : goal.returns-in_default
returns-in_default c row = grind (arith, elements, (c.comes_before.ensures row))
