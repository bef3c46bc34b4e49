use Rattle.std.proofs.Common.{◌≡◌, None, decimal, sym, ap, ◌∙◌, arith}
use Rattle.std.proofs.lemmas.Bool.Decides.{nat_tests}
use Rattle.sctid.specs.Identifier.{fault_of}
use Rattle.numerals.proofs.DigitLemmas.{decimal_of_text}
use Rattle.sctid.proofs.SctId.parse.Goals as goal

-- the number read is below 10^18, and its decimal text has no fault
pub invariant_of-result : goal.invariant_of-result
invariant_of-result c =
    let read = c.in-Some.ensures in
    let text = c.args.text.now in
    let text_is = ap decimal read.number
    ∙ decimal_of_text text (omega arith) (omega arith) (sym read.digits) (omega arith) in
    let valid : fault_of text ≡ None = grind (arith, nat_tests) in
    (read.small, ap fault_of text_is ∙ valid)

-- the decimal text of the number read is the text
pub returns-clause-same : goal.returns-clause-same
returns-clause-same c =
    let read = c.in-Some.ensures in
    ap decimal read.number ∙ decimal_of_text c.args.text.now (omega arith) (omega arith) (sym read.digits) (omega arith)
