-- The text of a number reads back as that number.
use Rattle.std.proofs.Common.{ℕ, ℤ, pos, negsuc, neg_ℤ, ◌≡◌, ◌==◌, ◌&&◌, ◌+◌, ◌*◌, ◌/◌, ◌%◌, ◌^◌, ◌≤◌, ◌<◌, Bool, true}
use Rattle.std.proofs.Common.{false, if◌then◌else◌, List, [], ◌∷◌, ◌++◌, Option, None, Some, length, drop, zero, suc}
use Rattle.std.proofs.Common.{nat_eq, nat_le, decimal, refl, ap, ◌∙◌, sym, subst, arith}
use Rattle.std.specs.Char.{is_ascii_digit}
use Rattle.std.specs.List.{list_all, onto_first, starts_with}
use Rattle.std.specs.Option.{option_map}
use Rattle.std.proofs.lemmas.Bool.{and_from, and_parts, eqb-true, false_from_ne_true, le-leb, leb-true}
use Rattle.std.proofs.lemmas.Bool.Decides.{nat_tests}
use Rattle.std.proofs.lemmas.Fmt.{decimal_is_IsNumeral, decimal_nonempty, length-decimal-le}
use Rattle.std.proofs.lemmas.Str.Parse.{digits_value_short}
use Rattle.std.proofs.Math.Nat.{div-add-mod'}
use Rattle.numerals.proofs.DigitLemmas.{numerals}
use Rattle.text_parts.proofs.Parts.{parts_onto}
use Rattle.numerals.proofs.DecimalLemmas.{fraction_small, negative_of, number_with_fraction}
use Rattle.numerals.specs.Numbers.{is_number, number_of}
use Rattle.text_parts.specs.Parts.{parts_at}
use Rattle.numerals.specs.Decimals.{point, whole_of, fraction_of, number_in, unsigned_of, decimal_of}
use Rattle.constraint_tree.specs.Text.{fraction_digits, fraction_text, number_text, unsigned_text}
use Rattle.constraint_tree.proofs.FitLemmas.{NumbersRead}
use Rattle.constraint_tree.proofs.FractionLemmas.{fraction_written}
use Rattle.constraint_tree.proofs.TextLemmas.{no_more}

-- a digit is no byte below 48
digit_other : (byte other : ℕ) → is_ascii_digit byte ≡ true → other < 48 → (byte == other) ≡ true → ⊥
digit_other byte other digit low is =
    let bounds = and_parts (nat_le 48 byte) (nat_le byte 57) digit in
    let high : 48 ≤ byte = leb-true 48 byte bounds.0 in
    let same : byte ≡ other = eqb-true byte other is in
    omega arith

-- a digit run is a single part if it is cut at points
one_part : (run : List ℕ) → list_all is_ascii_digit run ≡ true → parts_at 46 run ≡ run ∷ []
one_part [] each = refl
one_part (byte ∷ run) each =
    let tests = and_parts (is_ascii_digit byte) (list_all is_ascii_digit run) each in
    parts_onto 46 byte run (digit_other byte 46 tests.0 (omega arith)) ∙ ap (onto_first byte) (one_part run tests.1)

-- a digit run, a point and more text are cut at the point
parts_following : (run more : List ℕ) → list_all is_ascii_digit run ≡ true
    → parts_at 46 (run ++ 46 ∷ more) ≡ run ∷ parts_at 46 more
parts_following [] more each = refl
parts_following (byte ∷ run) more each =
    let tests = and_parts (is_ascii_digit byte) (list_all is_ascii_digit run) each in
    parts_onto 46 byte (run ++ 46 ∷ more) (digit_other byte 46 tests.0 (omega arith))
    ∙ ap (onto_first byte) (parts_following run more tests.1)

-- 1 to 18 digits are a number
is_number_from : (text : List ℕ) → 0 < length text → length text ≤ 18 → list_all is_ascii_digit text ≡ true
    → is_number 1 18 text ≡ true
is_number_from text some few each =
    and_from (nat_le 1 (length text) && nat_le (length text) 18) (list_all is_ascii_digit text)
    (and_from (nat_le 1 (length text)) (nat_le (length text) 18) (le-leb 1 (length text) (omega arith))
    (le-leb (length text) 18 few)) each

-- the decimal digits of `number` are 1 to 18 digits that spell `number`
pub record WritesWhole (number : ℕ) : Type 0 where
  -- every byte is a digit
  pub each : list_all is_ascii_digit (decimal number) ≡ true
  -- there is at least one digit
  pub some : 0 < length (decimal number)
  -- the digits are a number of 1 to 18 digits
  pub is : is_number 1 18 (decimal number) ≡ true
  -- the digits spell `number`
  pub value : number_of (decimal number) ≡ number

-- if `number` is below 10^18, its decimal digits are 1 to 18 digits that spell it
pub whole_written : (number : ℕ) → number < 10 ^ 18 → WritesWhole number
whole_written number small =
    let numeral = decimal_is_IsNumeral number (omega arith) in
    let each : list_all is_ascii_digit (decimal number) ≡ true = numerals.from (decimal number) numeral.0.1 in
    let some : 0 < length (decimal number) = decimal_nonempty number (omega arith) in
    let few : length (decimal number) ≤ 18 = length-decimal-le 18 number (omega arith) small (omega arith) in
    record { each = each; some = some; is = is_number_from (decimal number) some few each; value = numeral.1 }

-- the digits of a whole number read as that number
whole_reads : (whole : ℕ) → WritesWhole whole → unsigned_of (decimal whole) ≡ Some (whole * 10 ^ 18)
whole_reads whole written =
    ap number_in (one_part (decimal whole) written.each)
    ∙ ap (λ (test : Bool). if test then Some (whole_of (decimal whole)) else None) written.is
    ∙ ap (λ (number : ℕ). Some (number * 10 ^ 18)) written.value

-- the digits of a whole number, a point and the digits of a fraction read as their sum
fraction_reads : (whole fraction : ℕ) → WritesWhole whole → (fraction ≡ 0 → ⊥) → fraction < 10 ^ 18
    → unsigned_of (decimal whole ++ 46 ∷ fraction_digits 18 fraction) ≡ Some (whole * 10 ^ 18 + fraction)
fraction_reads whole fraction written other small =
    let following = fraction_written 18 fraction small in
    let is : is_number 1 18 (fraction_digits 18 fraction) ≡ true =
    is_number_from (fraction_digits 18 fraction) (following.some other) following.few following.each in
    ap number_in (parts_following (decimal whole) (fraction_digits 18 fraction) written.each)
    ∙ number_with_fraction (decimal whole) (fraction_digits 18 fraction) written.is is
    ∙ ap (λ (number : ℕ). Some (number * 10 ^ 18 + fraction_of (fraction_digits 18 fraction))) written.value
    ∙ ap (λ (number : ℕ). Some (whole * 10 ^ 18 + number)) following.value

-- the text of a whole number and its fraction reads as their sum
parts_read : (whole fraction : ℕ) → whole < 10 ^ 18 → fraction < 10 ^ 18
    → unsigned_of (decimal whole ++ fraction_text fraction) ≡ Some (whole * 10 ^ 18 + fraction)
parts_read whole fraction small below = by (fraction == 0) refl
  where
    by : (test : Bool) → (fraction == 0) ≡ test → unsigned_of (decimal whole ++ fraction_text fraction)
        ≡ Some (whole * 10 ^ 18 + fraction)
    by true test =
        let none : fraction ≡ 0 = eqb-true fraction 0 test in
        let nothing : fraction_text fraction ≡ [] =
        ap (λ (empty : Bool). if empty then [] else 46 ∷ fraction_digits 18 fraction) test in
        let sum : whole * 10 ^ 18 ≡ whole * 10 ^ 18 + fraction = omega (arith, none) in
        ap unsigned_of (sym (no_more (decimal whole) (fraction_text fraction) nothing))
        ∙ whole_reads whole (whole_written whole small) ∙ ap (λ (number : ℕ). Some number) sum
    by false test =
        let other : (fraction ≡ 0) → ⊥ = λ none. grind (arith, nat_tests, test) in
        let something : fraction_text fraction ≡ 46 ∷ fraction_digits 18 fraction =
        ap (λ (empty : Bool). if empty then [] else 46 ∷ fraction_digits 18 fraction) test in
        ap (λ (text : List ℕ). unsigned_of (decimal whole ++ text)) something
        ∙ fraction_reads whole fraction (whole_written whole small) other below

-- the text of a number below 10^36 reads back as that number
unsigned_reads : (number : ℕ) → number < 10 ^ 36 → unsigned_of (unsigned_text number) ≡ Some number
unsigned_reads number small =
    let whole : number / 10 ^ 18 < 10 ^ 18 = omega arith in
    let below : number % 10 ^ 18 < 10 ^ 18 = omega arith in
    let sum : number / 10 ^ 18 * 10 ^ 18 + number % 10 ^ 18 ≡ number = div-add-mod' number (10 ^ 18) in
    parts_read (number / 10 ^ 18) (number % 10 ^ 18) whole below ∙ ap (λ (read : ℕ). Some read) sum

-- a text that begins with a digit has no sign
positive_of : (run rest : List ℕ) → 0 < length run → list_all is_ascii_digit run ≡ true
    → decimal_of (run ++ rest) ≡ option_map pos (unsigned_of (run ++ rest))
positive_of [] rest some each = absurd (omega arith)
positive_of (byte ∷ run) rest some each =
    let digit = (and_parts (is_ascii_digit byte) (list_all is_ascii_digit run) each).0 in
    let no_minus : (45 == byte) ≡ false = false_from_ne_true (45 == byte) (λ is. unlike 45 digit (omega arith) is) in
    let no_plus : (43 == byte) ≡ false = false_from_ne_true (43 == byte) (λ is. unlike 43 digit (omega arith) is) in
    rw (no_minus, no_plus) refl
  where
    unlike : (other : ℕ) → is_ascii_digit byte ≡ true → other < 48 → (other == byte) ≡ true → ⊥
    unlike other digit low is =
        let high : 48 ≤ byte = leb-true 48 byte (and_parts (nat_le 48 byte) (nat_le byte 57) digit).0 in
        let same : other ≡ byte = eqb-true other byte is in
        omega arith

-- a number of 1 to 18 digits is below 10^18
digits_small : (text : List ℕ) → is_number 1 18 text ≡ true → number_of text < 10 ^ 18
digits_small text is =
    let tests = and_parts (nat_le 1 (length text) && nat_le (length text) 18) (list_all is_ascii_digit text) is in
    let lengths = and_parts (nat_le 1 (length text)) (nat_le (length text) 18) tests.0 in
    digits_value_short numerals text 18 tests.1 (leb-true (length text) 18 lengths.1)

-- a number that passes a test is small, if passing makes it small
tested_small : (test : Bool) (number found : ℕ) → (test ≡ true → number < 10 ^ 36)
    → (if test then Some number else None) ≡ Some found → found < 10 ^ 36
tested_small true number found small is =
    let same : number ≡ found = cc in
    subst (λ (n : ℕ). n < 10 ^ 36) same (small refl)
tested_small false number found small is = absurd (cc)

-- a number that is read from its parts is below 10^36
number_small : (parts : List (List ℕ)) (found : ℕ) → number_in parts ≡ Some found → found < 10 ^ 36
number_small [] found is = absurd (cc)
number_small (whole ∷ []) found is =
    tested_small (is_number 1 18 whole) (whole_of whole) found (λ test. omega (arith, digits_small whole test)) is
number_small (whole ∷ following ∷ []) found is =
    tested_small (is_number 1 18 whole && is_number 1 18 following) (whole_of whole + fraction_of following) found
    (λ test. both test) is
  where
    both : (is_number 1 18 whole && is_number 1 18 following) ≡ true → whole_of whole + fraction_of following < 10 ^ 36
    both test =
        let tests = and_parts (is_number 1 18 whole) (is_number 1 18 following) test in
        omega (arith, digits_small whole tests.0, fraction_small following tests.1)
number_small (whole ∷ following ∷ another ∷ others) found is = absurd (cc)

-- the absolute value of a number is below 10^36
abbrev pub IsSmall : ℤ → Type 0
IsSmall (pos number) = number < 10 ^ 36
IsSmall (negsuc below) = suc below < 10 ^ 36

-- the negative of a number below 10^36 is small
negated_small : (number : ℕ) → number < 10 ^ 36 → IsSmall (neg_ℤ (pos number))
negated_small zero small = small
negated_small (suc below) small = small

-- a number below 10^36 that is read as positive is small
positive_small : (found : Option ℕ) (value : ℤ) → ((number : ℕ) → found ≡ Some number → number < 10 ^ 36)
    → option_map pos found ≡ Some value → IsSmall value
positive_small None value small is = absurd (cc)
positive_small (Some number) value small is =
    let same : pos number ≡ value = cc in
    subst (λ (z : ℤ). IsSmall z) same (small number refl)

-- a number below 10^36 that is read as negative is small
negative_small : (found : Option ℕ) (value : ℤ) → ((number : ℕ) → found ≡ Some number → number < 10 ^ 36)
    → option_map (λ number. neg_ℤ (pos number)) found ≡ Some value → IsSmall value
negative_small None value small is = absurd (cc)
negative_small (Some number) value small is =
    let same : neg_ℤ (pos number) ≡ value = cc in
    subst (λ (z : ℤ). IsSmall z) same (negated_small number (small number refl))

-- a number that is read with a sign or without is small
signed_small : (minus plus : Bool) (text : List ℕ) (value : ℤ)
    → (if minus then option_map (λ number. neg_ℤ (pos number))
    (unsigned_of (drop 1 text)) else if plus then option_map pos (unsigned_of (drop 1 text)) else option_map pos
    (unsigned_of text)) ≡ Some value → IsSmall value
signed_small true plus text value is =
    negative_small (unsigned_of (drop 1 text)) value (number_small (parts_at point (drop 1 text))) is
signed_small false true text value is =
    positive_small (unsigned_of (drop 1 text)) value (number_small (parts_at point (drop 1 text))) is
signed_small false false text value is = positive_small (unsigned_of text) value (number_small (parts_at point text)) is

-- the text of a small number reads back as that number
value_reads : (value : ℤ) → IsSmall value → decimal_of (drop 1 (number_text value)) ≡ Some value
value_reads (pos number) small =
    let written = whole_written (number / 10 ^ 18) (omega arith) in
    positive_of (decimal (number / 10 ^ 18)) (fraction_text (number % 10 ^ 18)) written.some written.each
    ∙ ap (option_map pos) (unsigned_reads number small)
value_reads (negsuc below) small =
    negative_of (45 ∷ unsigned_text (suc below)) (omega arith) refl
    ∙ ap (option_map (λ number. neg_ℤ (pos number))) (unsigned_reads (suc below) small)

-- if a text is read as the number `value`, the absolute value of `value` is below 10^36
pub number_is_small : (text : List ℕ) (value : ℤ) → decimal_of text ≡ Some value → IsSmall value
number_is_small text value is =
    signed_small (starts_with nat_eq text (45 ∷ [])) (starts_with nat_eq text (43 ∷ [])) text value is

-- each number that a text is read as is also read from its own printed text
pub numbers_read : NumbersRead
numbers_read text value is = value_reads value (number_is_small text value is)
