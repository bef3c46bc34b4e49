use Rattle.std.proofs.Common.{arith}
use Rattle.std.proofs.lemmas.Grind.{common_steps}
use Rattle.held_release.proofs.NumberingLemmas.{number_has}
use Rattle.held_release.proofs.concepts.ConceptsKnownConcepts.has.Goals as goal

-- an identifier has a number exactly if it is among the concepts
pub returns : goal.returns
returns c = grind (arith, common_steps, number_has c.args.self.now c.args.id)
