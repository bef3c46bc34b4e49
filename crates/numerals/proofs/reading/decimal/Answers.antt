-- A number after a minus is negative.
use Rattle.std.proofs.Common.{◌≡◌, get_or, length, drop, arith, rules}
use Rattle.std.proofs.lemmas.Slice.{between_to_end}
use mir.Syntax.{w128}
use mir.Val.{SFits}
use Rattle.numerals.specs.Decimals.{unsigned_of}
use Rattle.numerals.proofs.DecimalLemmas.{negative_of, negation}
use Rattle.numerals.proofs.reading.decimal.Goals as goal

-- after a minus `decimal` returns the negative of the number that the rest writes
pub returns-in_ok-number-in-45 : goal.returns-in_ok-number-in-45
returns-in_ok-number-in-45 c =
    let text = c.args.text.now in
    let number = c.in_ok-number-in-45.number in
    let fits : SFits w128 number = search rules in
    let first : get_or text 0 0 ≡ 45 = omega arith in
    let found = rw (between_to_end text 1 (length text) (omega arith)) at c.in_ok-number-in-45.ensures in
    rw (negative_of text (omega arith) first) (negation (unsigned_of (drop 1 text)) number fits found)
