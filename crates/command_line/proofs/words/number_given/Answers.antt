use Rattle.std.proofs.Common.{◌∙◌, None, Option, Some, refl, subst}
use Rattle.clap.specs.Words.{Text, found_of}
use Rattle.clap.proofs.WalkLemmas.{first_value-rows}
use Rattle.command_line.specs.QueryWords.{GivesNumber, IsNoNumber}
use Rattle.command_line.proofs.WordLemmas.{number_fault}
use Rattle.command_line.proofs.words.number_given.Goals as goal

-- an option without a row gives no number
pub returns-in_default-clause-asked : goal.returns-in_default-clause-asked
returns-in_default-clause-asked c =
    subst (λ (given : Option Text). GivesNumber given None)
    (c.in_default.ensures ∙ first_value-rows (found_of c.args.arguments.now) c.args.name.now) refl

-- an option whose text is a number gives that number
pub returns-in-Some-decimal_number-clause-asked : goal.returns-in-Some-decimal_number-clause-asked
returns-in-Some-decimal_number-clause-asked c =
    let number = c.in-Some-decimal_number.number in
    subst (λ (given : Option Text). GivesNumber given (Some number))
    (c.in-Some.ensures ∙ first_value-rows (found_of c.args.arguments.now) c.args.name.now)
    (number, refl, c.in-Some-decimal_number.ensures)

-- an option whose text is no number is refused
pub returns-in-None-clause-refused : goal.returns-in-None-clause-refused
returns-in-None-clause-refused c =
    number_fault _ c.no_number.result c.no_number.ensures
    (subst (λ (given : Option Text). IsNoNumber given)
    (c.in-Some.ensures ∙ first_value-rows (found_of c.args.arguments.now) c.args.name.now) c.in-None.ensures)
