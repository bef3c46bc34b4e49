use Rattle.std.proofs.Common.{◌≡◌, ◌<◌, ◌⊎◌, inl, inr, true, false, refl, arith}
use Rattle.std.specs.Prelude.{nat_le}
use Rattle.std.proofs.lemmas.List.{take_rest}
use Rattle.std.proofs.lemmas.Bool.{le-leb, lt-leb}
use Rattle.ecl_lexer.proofs.NumberLemmas.{number_is}
use Rattle.ecl_lexer.proofs.lexemes.number.Goals as goal
use Rattle.ecl_lexer.proofs.lexemes.number.Goals.{then-fraction-gt0, else-fraction-gt0}

-- `number` returns the number that `number_at` finds, if it has at most 18 digits before its point
pub returns-then-whole-le-MOST_DIGITS : goal.returns-then-whole-le-MOST_DIGITS
returns-then-whole-le-MOST_DIGITS c =
    let fraction = c.fraction_count-fraction.result in
    let point = c.if-fraction-gt0.point in
    let cases : ((0 < fraction) × (point ≡ 1)) ⊎ ((fraction ≡ 0) × (point ≡ 0)) =
    elim c.if-fraction-gt0.branch [
      | then-fraction-gt0 w ↦ inl (omega arith, w.point-is)
      | else-fraction-gt0 w ↦ inr (omega arith, w.point-is)
    ] in
    let few : nat_le c.in-Some.whole 18 ≡ true = le-leb c.in-Some.whole 18 (omega arith) in
    number_is c.args.text.now c.sign_length-sign.result c.in-Some.whole point fraction _
    c.sign_length-sign.ensures.sign (rw take_rest at c.in-Some.ensures.digits)
    (simp take_rest at c.fraction_count-fraction.ensures.count) cases (rw few refl)

-- `number` returns the number that `number_at` finds, if it has more than 18 digits before its point
pub returns-else-whole-le-MOST_DIGITS : goal.returns-else-whole-le-MOST_DIGITS
returns-else-whole-le-MOST_DIGITS c =
    let fraction = c.fraction_count-fraction.result in
    let point = c.if-fraction-gt0.point in
    let cases : ((0 < fraction) × (point ≡ 1)) ⊎ ((fraction ≡ 0) × (point ≡ 0)) =
    elim c.if-fraction-gt0.branch [
      | then-fraction-gt0 w ↦ inl (omega arith, w.point-is)
      | else-fraction-gt0 w ↦ inr (omega arith, w.point-is)
    ] in
    let many : nat_le c.in-Some.whole 18 ≡ false = lt-leb c.in-Some.whole 18 (omega arith) in
    number_is c.args.text.now c.sign_length-sign.result c.in-Some.whole point fraction _
    c.sign_length-sign.ensures.sign (rw take_rest at c.in-Some.ensures.digits)
    (simp take_rest at c.fraction_count-fraction.ensures.count) cases (rw many refl)
