-- Cutting a text at its first space, and reading a text of digits.
use Rattle.std.proofs.Common.{◌≡◌, ◌∙◌, ℕ, zero, suc, ◌+◌, ◌-◌, ◌<◌, ◌≤◌, ◌==◌, ◌&&◌, ◌^◌, true, false, cond, List, []}
use Rattle.std.proofs.Common.{◌∷◌, None, Some, option_map, length, get_or, take, drop, refl, ap, subst, sym, arith}
use Rattle.std.specs.Prelude.{nat_le, nat_lt, IsUtf8}
use Rattle.std.specs.Char.{is_ascii_digit}
use Rattle.std.specs.List.{list_all}
use Rattle.std.specs.Str.Parse.{IsNumeral, digits_value, without_leading_plus}
use Rattle.std.proofs.lemmas.Bool.{and_parts, both_ways, false_from_ne_true, leb-true, lt-ltb, ltb-true, ne_eqb}
use Rattle.std.proofs.lemmas.Fmt.{IsAscii-from_digits}
use Rattle.std.proofs.lemmas.Str.{IsUtf8-from_ascii}
use Rattle.std.proofs.lemmas.Slice.{between_to_end}
use Rattle.numerals.proofs.DigitLemmas.{digit_in, numerals}
use Rattle.session_line.specs.SessionRequest.{cut_of, is_number, number_in}

-- if the first space of `text` is at `at`, then `cut_of` cuts the text there
cut_there : (text : List ℕ) (at : ℕ) → at < length text
    → ((k : ℕ) → 0 ≤ k → k < at → (get_or text k 0 == 32) ≡ true → ⊥)
    → (get_or text at 0 == 32) ≡ true → cut_of text ≡ Some (take at text, drop (suc at) text)
cut_there [] at within before is = absurd (omega arith)
cut_there (byte ∷ bytes) zero within before is =
    λ i. cond (is i) (Some ([], bytes)) (option_map (λ (cut : List ℕ × List ℕ). (byte ∷ cut.0, cut.1)) (cut_of bytes))
cut_there (byte ∷ bytes) (suc at) within before is =
    let other : (byte == 32) ≡ false = false_from_ne_true _ (before 0 (omega arith) (omega arith)) in
    (λ i. cond (other i) (Some ([], bytes))
    (option_map (λ (cut : List ℕ × List ℕ). (byte ∷ cut.0, cut.1)) (cut_of bytes)))
    ∙ ap (option_map (λ (cut : List ℕ × List ℕ). (byte ∷ cut.0, cut.1)))
    (cut_there bytes at (omega arith) (λ k least below. before (suc k) (omega arith) (omega arith)) is)

-- if the first space of `text` is at `at`, then `cut_of` gives the bytes before it and those after it
pub cut_at : (text : List ℕ) (at : ℕ) → at < length text
    → ((k : ℕ) → 0 ≤ k → k < at → (get_or text k 0 == 32) ≡ true → ⊥) → (get_or text at 0 == 32) ≡ true
    → Some (take at text, take (length text - (at + 1)) (drop (at + 1) text)) ≡ cut_of text
cut_at text at within before is =
    ap (λ rest. Some (take at text, rest)) (between_to_end text (at + 1) (length text) (omega arith))
    ∙ (λ i. Some (take at text, drop (next i) text))
    ∙ sym (cut_there text at within before is)
  where
    next : at + 1 ≡ suc at
    next = omega arith

-- if `text` has no space, `cut_of` gives `None`
pub not_cut : (text : List ℕ) → ((k : ℕ) → 0 ≤ k → k < length text → (get_or text k 0 == 32) ≡ true → ⊥)
    → None ≡ cut_of text
not_cut [] none = refl
not_cut (byte ∷ bytes) none =
    let other : (byte == 32) ≡ false = false_from_ne_true _ (none 0 (omega arith) (omega arith)) in
    ap (option_map (λ (cut : List ℕ × List ℕ). (byte ∷ cut.0, cut.1)))
    (not_cut bytes (λ k least below. none (suc k) (omega arith) (omega arith)))
    ∙ sym (λ i. cond (other i) (Some ([], bytes))
    (option_map (λ (cut : List ℕ × List ℕ). (byte ∷ cut.0, cut.1)) (cut_of bytes)))

-- the lemmas for `cut_word`: a text with a space is cut, and a text without one is not
pub ruleset cuts = (cut_at, not_cut)

-- a text of digits alone does not begin with a plus sign
no_sign : (text : List ℕ) → list_all is_ascii_digit text ≡ true → without_leading_plus text ≡ text
no_sign [] digits = refl
no_sign (byte ∷ bytes) digits =
    let first = and_parts (is_ascii_digit byte) (list_all is_ascii_digit bytes) digits in
    let least : 48 ≤ byte = leb-true 48 byte (and_parts (nat_le 48 byte) (nat_le byte 57) first.0).0 in
    λ i. drop (cond (ne_eqb byte 43 (λ same. absurd (omega arith)) i) 1 0) (byte ∷ bytes)

-- `text` is a number in base ten, and is below 2^64
abbrev IsShort : List ℕ → Type 0
IsShort text = IsNumeral 10 text × (digits_value 10 text < 2 ^ 64)

-- if a text has digits alone and 64 bits hold its number, then `number_in` gives that number
pub digits_read : (text : List ℕ) (number : ℕ) → list_all is_ascii_digit text ≡ true
    → IsShort (without_leading_plus text) → number ≡ digits_value 10 (without_leading_plus text)
    → Some number ≡ number_in text
digits_read text number digits read value =
    let plain : without_leading_plus text ≡ text = no_sign text digits in
    let own : IsShort text = subst IsShort plain read in
    let are : is_number text ≡ true =
    λ i. lt-ltb 0 (length text) own.0.0 i && (digits i && lt-ltb (digits_value 10 text) (2 ^ 64) own.1 i) in
    ap (λ (read : ℕ). Some read) (value ∙ ap (digits_value 10) plain)
    ∙ sym (λ i. cond (are i) (Some (digits_value 10 text)) None)

-- a text that `is_number` accepts has digits alone, and a number below 2^64
number_parts : (text : List ℕ) → is_number text ≡ true → (list_all is_ascii_digit text ≡ true) × IsShort text
number_parts text are =
    let some = and_parts (nat_lt 0 (length text))
    (list_all is_ascii_digit text && nat_lt (digits_value 10 text) (2 ^ 64)) are in
    let small = and_parts (list_all is_ascii_digit text) (nat_lt (digits_value 10 text) (2 ^ 64)) some.1 in (
      small.0,
      ((ltb-true 0 (length text) some.0, numerals.to text small.0), ltb-true (digits_value 10 text) (2 ^ 64) small.1),
    )

-- if a text has digits alone, but is empty or 64 bits do not hold its number, then `number_in` gives `None`
pub digits_refused : (text : List ℕ) → list_all is_ascii_digit text ≡ true → ¬ IsShort (without_leading_plus text)
    → None ≡ number_in text
digits_refused text digits refused =
    let never : ¬ (is_number text ≡ true) =
    λ are. refused (subst IsShort (sym (no_sign text digits)) (number_parts text are).1) in
    sym (λ i. cond (false_from_ne_true (is_number text) never i) (Some (digits_value 10 text)) None)

-- if a text has a byte that is no digit, `number_in` gives `None`
pub not_digits : (text : List ℕ) → list_all is_ascii_digit text ≡ false → None ≡ number_in text
not_digits text other =
    let never : ¬ (is_number text ≡ true) =
    λ are. both_ways (list_all is_ascii_digit text) other (number_parts text are).0 in
    sym (λ i. cond (false_from_ne_true (is_number text) never i) (Some (digits_value 10 text)) None)

-- a text of digits alone is UTF-8
pub digits_utf8 : (text : List ℕ) → list_all is_ascii_digit text ≡ true → IsUtf8 text
digits_utf8 text digits = IsUtf8-from_ascii text (IsAscii-from_digits text (numerals.to text digits))

-- the lemmas for `number`: digits whose number fits, digits whose number does not, and a text with another byte
pub ruleset numbers = (digits_read, digits_refused, not_digits)
