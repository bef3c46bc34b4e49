-- The digits of a fraction write its value, and the text of a number reads back.
use Rattle.std.proofs.Common.{ℕ, ◌≡◌, ◌+◌, ◌-◌, ◌*◌, ◌/◌, ◌%◌, ◌^◌, ◌≤◌, ◌<◌, true, List, [], ◌∷◌, length, zero, suc}
use Rattle.std.proofs.Common.{nat_le, refl, ap, ◌∙◌, sym, subst, arith}
use Rattle.std.specs.Char.{is_ascii_digit}
use Rattle.std.specs.List.{list_all}
use Rattle.std.specs.Str.Parse.{digits_value_after}
use Rattle.std.specs.Char.{digit_value}
use Rattle.std.proofs.lemmas.Bool.{and_from, le-leb}
use Rattle.std.proofs.lemmas.Str.{digit_value_digit}
use Rattle.std.proofs.Math.Nat.{add-mul, mul_assoc, mul_comm, pow-suc, pow-zero, mod-lt, div-add-mod'}
use Rattle.std.proofs.lemmas.Nat.{pow-add}
use Rattle.numerals.specs.Numbers.{number_of}
use Rattle.constraint_tree.specs.Text.{fraction_digits}
use Rattle.constraint_tree.proofs.TextLemmas.{first_digit, fraction_digits-none, fraction_digits-step, unit_is_some}

-- moving a number up by a place for each further digit keeps the sum
moved : (n digit unit rest : ℕ) → (n * 10 + digit) * unit + rest ≡ n * (unit * 10) + (digit * unit + rest)
moved n digit unit rest =
    let apart : (n * 10 + digit) * unit ≡ n * 10 * unit + digit * unit = add-mul (n * 10) digit unit in
    let up : n * 10 * unit ≡ n * (10 * unit) = mul_assoc n 10 unit in
    let turned : n * (10 * unit) ≡ n * (unit * 10) = ap (λ (m : ℕ). n * m) (mul_comm 10 unit) in
    omega (arith, apart, up, turned)

-- digits read after the number `n` move `n` up by a place for each digit
value_after : (digits : List ℕ) (n : ℕ)
    → digits_value_after 10 n digits ≡ n * 10 ^ length digits + digits_value_after 10 0 digits
value_after [] n = omega (arith, pow-zero 10)
value_after (byte ∷ digits) n =
    let here = value_after digits (n * 10 + digit_value byte) in
    let alone = value_after digits (0 * 10 + digit_value byte) in
    let one : 0 * 10 + digit_value byte ≡ digit_value byte = omega arith in
    let one_up : (0 * 10 + digit_value byte) * 10 ^ length digits ≡ digit_value byte * 10 ^ length digits =
    ap (λ (m : ℕ). m * 10 ^ length digits) one in
    let longer : 10 ^ suc (length digits) ≡ 10 ^ length digits * 10 = pow-suc 10 (length digits) in
    let longer_up : n * 10 ^ suc (length digits) ≡ n * (10 ^ length digits * 10) = ap (λ (m : ℕ). n * m) longer in
    omega (
      arith,
      here,
      alone,
      one_up,
      longer_up,
      moved n (digit_value byte) (10 ^ length digits)
          (digits_value_after 10 0 digits),
    )

-- `digits` are the digits of `fraction`, which counts 10^-`places`, perhaps without zeros at the end
pub record WritesFraction (places fraction : ℕ) (digits : List ℕ) : Type 0 where
  -- every byte is a digit
  pub each : list_all is_ascii_digit digits ≡ true
  -- there are at most `places` digits
  pub few : length digits ≤ places
  -- the number that the digits spell, multiplied by 10 for each zero that is left out, is `fraction`
  pub value : number_of digits * 10 ^ (places - length digits) ≡ fraction
  -- there is at least one digit if the fraction is not zero
  pub some : (fraction ≡ 0 → ⊥) → 0 < length digits

-- 48 plus a number below 10 is the byte of a digit
is_digit : (digit : ℕ) → digit < 10 → is_ascii_digit (48 + digit) ≡ true
is_digit digit below = and_from (nat_le 48 (48 + digit)) (nat_le (48 + digit) 57) (le-leb 48 (48 + digit) (omega arith))
    (le-leb (48 + digit) 57 (omega arith))

-- the value of the byte 48 plus a number below 10 is that number
digit_is : (digit : ℕ) → digit < 10 → digit_value (48 + digit) ≡ digit
digit_is digit below = omega (arith, digit_value_digit (48 + digit) (omega arith, omega arith))

-- a digit in front of the digits of a fraction writes a fraction of one more place
first_in_front : (places digit rest : ℕ) (digits : List ℕ) → digit < 10 → WritesFraction places rest digits
    → WritesFraction (suc places) (digit * 10 ^ places + rest) ((48 + digit) ∷ digits)
first_in_front places digit rest digits below written =
    let left = places - length digits in
    let few = written.few in
    let less : suc places - suc (length digits) ≡ left = omega (arith, written.few) in
    let following = value_after digits (0 * 10 + digit_value (48 + digit)) in
    let one : 0 * 10 + digit_value (48 + digit) ≡ digit = omega (arith, digit_is digit below) in
    let number : number_of ((48 + digit) ∷ digits) ≡ digit * 10 ^ length digits + number_of digits =
    following ∙ ap (λ (m : ℕ). m * 10 ^ length digits + number_of digits) one in
    let apart : (digit * 10 ^ length digits + number_of digits) * 10 ^ left ≡ digit * 10 ^ length digits * 10 ^ left
    + number_of digits * 10 ^ left =
    add-mul (digit * 10 ^ length digits) (number_of digits) (10 ^ left) in
    let whole : digit * 10 ^ length digits * 10 ^ left ≡ digit * 10 ^ places =
    mul_assoc digit (10 ^ length digits) (10 ^ left) ∙ ap (λ (m : ℕ). digit * m) (sym (pow-add 10 (length digits) left))
    ∙ ap (λ (m : ℕ). digit * 10 ^ m) (sum_is few) in
    record {
      each = and_from (is_ascii_digit (48 + digit)) (list_all is_ascii_digit digits) (is_digit digit below)
          written.each;
      few = omega (arith, written.few);
      value = ap (λ (m : ℕ). number_of ((48 + digit) ∷ digits) * 10 ^ m) less ∙ ap (λ (m : ℕ). m * 10 ^ left) number
          ∙ apart
          ∙ ap (λ (m : ℕ). m + number_of digits * 10 ^ left) whole
          ∙ ap (λ (m : ℕ). digit * 10 ^ places + m) written.value;
      some = λ other. omega arith;
    }
  where
    sum_is : length digits ≤ places → length digits + (places - length digits) ≡ places
    sum_is few = omega arith

-- no digits write the fraction 0
nothing_written : (places fraction : ℕ) → fraction ≡ 0 → WritesFraction places fraction []
nothing_written places fraction none = record {
  each = refl;
  few = omega arith;
  value = omega (arith, none);
  some = λ other. absurd (other none);
}

-- the digits of a fraction that is not zero write it, if the digits after the first write the rest
some_written : (places fraction : ℕ) → (fraction ≡ 0 → ⊥) → fraction < 10 ^ suc places
    → WritesFraction places (fraction % 10 ^ places) (fraction_digits places (fraction % 10 ^ places))
    → WritesFraction (suc places) fraction (fraction_digits (suc places) fraction)
some_written places fraction other below rest =
    let less : suc places - 1 ≡ places = omega arith in
    let step : fraction_digits (suc places) fraction ≡ (48 + fraction / 10 ^ places)
    ∷ fraction_digits places (fraction % 10 ^ places) =
    fraction_digits-step (suc places) fraction other below
    ∙ ap (λ (n : ℕ). (48 + fraction / 10 ^ n) ∷ fraction_digits n (fraction % 10 ^ n)) less in
    let digit : fraction / 10 ^ places < 10 = under_ten less in
    let front : WritesFraction (suc places) (fraction / 10 ^ places * 10 ^ places + fraction % 10 ^ places)
    ((48 + fraction / 10 ^ places) ∷ fraction_digits places (fraction % 10 ^ places)) =
    first_in_front places (fraction / 10 ^ places) (fraction % 10 ^ places)
    (fraction_digits places (fraction % 10 ^ places)) digit rest in
    let same : fraction / 10 ^ places * 10 ^ places + fraction % 10 ^ places ≡ fraction =
    div-add-mod' fraction (10 ^ places) in
    let P : List ℕ → Type 0 = λ digits. WritesFraction (suc places) fraction digits in
    let Q : ℕ → Type 0 = λ n. WritesFraction (suc places) n
    ((48 + fraction / 10 ^ places) ∷ fraction_digits places (fraction % 10 ^ places)) in
    subst P (sym step) (subst Q same front)
  where
    under_ten : suc places - 1 ≡ places → fraction / 10 ^ places < 10
    under_ten less =
        let R : ℕ → Type 0 = λ n. fraction / 10 ^ n < 10 in
        subst R less (first_digit (suc places) fraction other below)

-- if `fraction` is below 10^places, `fraction_digits` returns its digits
pub fraction_written : (places fraction : ℕ) → fraction < 10 ^ places
    → WritesFraction places fraction (fraction_digits places fraction)
fraction_written zero fraction below =
    let none : fraction ≡ 0 = omega (arith, pow-zero 10) in
    let P : List ℕ → Type 0 = λ digits. WritesFraction zero fraction digits in
    subst P (sym (fraction_digits-none zero fraction none)) (nothing_written zero fraction none)
fraction_written (suc places) zero below =
    let P : List ℕ → Type 0 = λ digits. WritesFraction (suc places) zero digits in
    subst P (sym (fraction_digits-none (suc places) zero refl)) (nothing_written (suc places) zero refl)
fraction_written (suc places) (suc less) below =
    some_written places (suc less) (λ is. omega arith) below
    (fraction_written places (suc less % 10 ^ places) (mod-lt (suc less) (unit_is_some places)))
