-- Decimal numbers: the parts of their texts, and how the code puts them together.
use Rattle.std.proofs.lemmas.Grind.{common_steps}
use Rattle.std.proofs.Common.{◌≡◌, ℕ, ◌+◌, ◌-◌, ◌*◌, ◌^◌, ◌<◌, ◌≤◌, ◌==◌, true, false, List, [], ◌∷◌, length, get_or}
use Rattle.std.proofs.Common.{take, drop, Option, None, Some, arith, ℤ, pos, neg_ℤ, ◌+ℤ◌, ◌-ℤ◌, ◌*ℤ◌, option_map}
use Rattle.std.specs.Char.{is_ascii_digit}
use Rattle.std.specs.List.{list_all}
use Rattle.std.specs.Str.Parse.{digits_value}
use Rattle.std.proofs.lemmas.Bool.{and_from, and_parts}
use Rattle.std.proofs.lemmas.Bool.Decides.{nat_tests}
use Rattle.std.proofs.lemmas.Int.{ints}
use Rattle.std.proofs.lemmas.List.Splits.{join_with_byte-slice_split, length-slice_split, slice_split_none}
use Rattle.std.proofs.lemmas.Nat.{pow-add}
use Rattle.std.proofs.lemmas.Str.Parse.{digits_value_short}
use Rattle.std.proofs.Math.Nat.{mul-lt-mul_of_pos_right, one-le-pow}
use mir.Syntax.{w128}
use mir.Val.{SFits, to_z, of_z}
use Rattle.numerals.proofs.DigitLemmas.{digits_more, front_small, numerals, value_more, digit_in}
use Rattle.numerals.specs.Numbers.{is_number, number_of}
use Rattle.text_parts.specs.Parts.{parts_at}
use Rattle.numerals.specs.Decimals.{point, whole_of, fraction_of, number_in, unsigned_of, decimal_of}

-- if the first `i` bytes of a text are digits, and `i` is at most 17, their value is below 10^17
pub front_of_17 : (text : List ℕ) (i : ℕ) → i ≤ 17 → list_all is_ascii_digit (take i text) ≡ true
    → digits_value 10 (take i text) < 10 ^ 17
front_of_17 text i few digits = front_small text i 17 few digits

-- the lemmas for `grind` on one step of the loop that reads digits
pub ruleset digit_steps = (digits_more, value_more, front_of_17)

-- a fraction of 1 to 18 digits is less than 10^18 units of 10^-18, that is, less than one
pub fraction_small : (text : List ℕ) → is_number 1 18 text ≡ true → fraction_of text < 10 ^ 18
fraction_small text is =
    let small : number_of text < 10 ^ length text =
    digits_value_short numerals text (length text) (grind (arith, nat_tests)) (omega arith) in
    let short : length text ≤ 18 = grind (arith, nat_tests) in
    grind (
      arith,
      (mul-lt-mul_of_pos_right small (one-le-pow (18 - length text) 10 (omega arith))),
      (pow-add 10 (length text) (18 - length text)),
      short,
    )

-- a text of digits has no point, so it is one part
digits_one_part : (text : List ℕ) → list_all is_ascii_digit text ≡ true → parts_at point text ≡ text ∷ []
digits_one_part text digits = grind (arith, common_steps, nat_tests, digit_in, slice_split_none)

-- if `whole` and `following` have 1 to 18 digits each, the number with the parts `whole` and `following` is the sum
-- of both
pub number_with_fraction : (whole following : List ℕ) → is_number 1 18 whole ≡ true → is_number 1 18 following ≡ true
    → number_in (whole ∷ parts_at point following) ≡ Some (whole_of whole + fraction_of following)
number_with_fraction whole following one other =
    grind (arith, common_steps, nat_tests, and_from, and_parts, digits_one_part)

-- if the text after the first point, `following`, is not 1 to 18 digits, the text is no number
pub number_without_fraction : (whole following : List ℕ) → is_number 1 18 whole ≡ true
    → is_number 1 18 following ≡ false
    → number_in (whole ∷ parts_at point following) ≡ None
number_without_fraction whole following one no_number =
    grind (
      arith,
      (length-slice_split (λ byte. byte == point) following),
      (join_with_byte-slice_split point following),
      one,
      no_number,
    )

-- a text that begins with `-` is the negative of the number that the text after it is
pub negative_of : (text : List ℕ) → 0 < length text → get_or text 0 0 ≡ 45
    → decimal_of text ≡ option_map (λ number. neg_ℤ (pos number)) (unsigned_of (drop 1 text))
negative_of x0 some is = grind arith

-- the code's sum of a whole part and a fraction does not overflow 128 bits
pub signed_sum : (whole fraction : ℕ) → whole < 10 ^ 18 → fraction < 10 ^ 18
    → to_z w128 (of_z w128 (to_z w128 (of_z w128 (to_z w128 (of_z w128 (pos whole)) *ℤ pos (10 ^ 18))) +ℤ to_z w128
    (of_z w128 (pos fraction)))) ≡ pos (whole * 10 ^ 18 + fraction)
signed_sum whole fraction small_whole small_fraction = omega (arith, ints)

-- the code's negation in 128 bits gives the negative of the number that was found
pub negation : (found : Option ℕ) (number : ℤ) → SFits w128 number → Some number ≡ option_map pos found
    → Some (to_z w128 (of_z w128 (pos 0 -ℤ to_z w128 (of_z w128 number)))) ≡ option_map (λ size. neg_ℤ (pos size)) found
negation x0 number fits same = grind (arith)

-- the lemmas for `grind` on how the parts of a number are put together
pub ruleset parts_of_number = (number_with_fraction, number_without_fraction, signed_sum)
