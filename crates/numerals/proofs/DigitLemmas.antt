-- Texts of decimal digits, and their values.
use Rattle.std.proofs.Common.{◌≡◌, ℕ, ◌+◌, ◌-◌, ◌*◌, ◌^◌, ◌<◌, ◌≤◌, ◌≢◌, true, decimal, List, length, get_or, take}
use Rattle.std.proofs.Common.{length-take, ◌∙◌, arith, rules}
use Rattle.std.specs.Char.{is_ascii_digit}
use Rattle.std.specs.List.{list_all}
use Rattle.std.specs.Str.Parse.{digits_value}
use Rattle.std.proofs.lemmas.Bool.{and_from, and_parts, both_ways, leb-true, true_from_ne_false}
use Rattle.std.proofs.lemmas.Fmt.{decimal-digits_value}
use Rattle.std.proofs.lemmas.Int.Digits.{digits_value_more}
use Rattle.std.proofs.lemmas.List.Folds.{list_all_at, list_all_more}
use Rattle.std.proofs.lemmas.Str.{digit_value_digit}
use Rattle.std.proofs.lemmas.Str.Parse.{IsDigitsTest, IsNumeralModel, numerals_by_value, digits_value_short}

-- `list_all is_ascii_digit` holds exactly for texts of digits alone
tells_digits : IsDigitsTest (λ ds. list_all is_ascii_digit ds ≡ true)
tells_digits = search rules

-- texts of digits alone, with `digits_value 10` as their value, are numerals in the sense of std (`IsNumeralModel`)
pub numerals : IsNumeralModel (λ ds. list_all is_ascii_digit ds ≡ true) (digits_value 10)
numerals = numerals_by_value _ tells_digits

-- each byte of a text of digits is a digit
pub digit_in : (text : List ℕ) (i : ℕ) → i < length text → list_all is_ascii_digit text ≡ true
    → is_ascii_digit (get_or text i 0) ≡ true
digit_in text i within digits =
    true_from_ne_false _ (λ other. both_ways _ (list_all_at is_ascii_digit text i 0 within other) digits)

-- if the first `i` bytes of a text and the byte at `i` are digits, the first `i + 1` bytes are digits
pub digits_more : (text : List ℕ) (i : ℕ) → i < length text → list_all is_ascii_digit (take i text) ≡ true
    → is_ascii_digit (get_or text i 0) ≡ true → list_all is_ascii_digit (take (i + 1) text) ≡ true
digits_more text i within front digit =
    list_all_more is_ascii_digit text i 0 within ∙ and_from _ _ front digit

-- if the byte at `i` is a digit, the value of the first `i + 1` bytes is ten times the value of the first `i` bytes
-- plus this digit
pub value_more : (text : List ℕ) (i : ℕ) → i < length text → is_ascii_digit (get_or text i 0) ≡ true
    → digits_value 10 (take (i + 1) text) ≡ digits_value 10 (take i text) * 10 + (get_or text i 0 - 48)
value_more text i within digit =
    let ends = and_parts _ _ digit in
    let digit_is = digit_value_digit (get_or text i 0) (leb-true 48 _ ends.0, leb-true _ 57 ends.1) in
    omega (arith, digits_value_more 10 text i within)

-- if the first `i` bytes of a text are digits, and `i` is at most `k`, their value is below 10^k
pub front_small : (text : List ℕ) (i k : ℕ) → i ≤ k → list_all is_ascii_digit (take i text) ≡ true
    → digits_value 10 (take i text) < 10 ^ k
front_small text i k short digits =
    digits_value_short numerals (take i text) k digits (omega (arith, length-take i text))

-- a text of 1 to 18 digits that does not begin with 0 is the decimal text of its value
pub decimal_of_text : (text : List ℕ) → 0 < length text → length text ≤ 18 → list_all is_ascii_digit text ≡ true
    → get_or text 0 0 ≢ 48 → decimal (digits_value 10 text) ≡ text
decimal_of_text text some short digits first =
    let small : digits_value 10 text < 10 ^ 18 = digits_value_short numerals text 18 digits short in
    decimal-digits_value numerals text digits some (λ zero_first. absurd (first zero_first)) (omega arith)
