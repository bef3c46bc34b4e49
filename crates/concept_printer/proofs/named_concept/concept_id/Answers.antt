use Rattle.std.proofs.Common.{◌∙◌, ap, arith, decimal, sym}
use Rattle.std.proofs.lemmas.Fmt.{digits_value-decimal}
use Rattle.numerals.specs.Numbers.{number_of}
use Rattle.numerals.proofs.DigitLemmas.{numerals}
use Rattle.concept_printer.proofs.named_concept.concept_id.Goals as goal

-- the identifier is the number that its text writes
pub returns-in-Ok-clause-id : goal.returns-in-Ok-clause-id
returns-in-Ok-clause-id c =
    sym (digits_value-decimal numerals c.number.result (omega (arith, c.number.ensures.small)))
    ∙ ap number_of (ap decimal c.number.ensures.number ∙ c.in-Ok.ensures.same)
