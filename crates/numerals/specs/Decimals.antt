-- Decimal numbers (Release File Specification, "Relationship concrete values file"), each as a
-- whole number of units of 10^-18.
use Rattle.std.specs.Prelude.{ℕ, ◌+◌, ◌-◌, ◌*◌, ◌^◌, ℤ, pos, neg_ℤ, nat_eq, ◌&&◌, if◌then◌else◌, List, [], ◌∷◌, length}
use Rattle.std.specs.Prelude.{drop, codes, Option, None, Some, option_map}
use Rattle.std.specs.List.{starts_with}
use Rattle.numerals.specs.Numbers.{is_number, number_of}
use Rattle.text_parts.specs.Parts.{parts_at}

-- the byte between the whole part of a number and its fraction
abbrev pub point : ℕ
point = 46

-- the value of the digits before the point, in units of 10^-18
abbrev pub whole_of : List ℕ → ℕ
whole_of digits = number_of digits * 10 ^ 18

-- the value of the digits after the point, in units of 10^-18
abbrev pub fraction_of : List ℕ → ℕ
fraction_of digits = number_of digits * 10 ^ (18 - length digits)

-- the number, in units of 10^-18, that the parts of a text between its points make: `whole`, or
-- `whole` and `fraction`, of 1 to 18 digits each; none for any other parts
abbrev pub number_in : List (List ℕ) → Option ℕ
number_in (whole ∷ []) =
    if is_number 1 18 whole then Some (whole_of whole) else None
number_in (whole ∷ fraction ∷ []) =
    if is_number 1 18 whole && is_number 1 18 fraction then Some
    (whole_of whole + fraction_of fraction) else None
number_in _ = None

-- the number, in units of 10^-18, of a text that is a decimal number without a sign; none for any
-- other text
abbrev pub unsigned_of : List ℕ → Option ℕ
unsigned_of text = number_in (parts_at point text)

-- the number, in units of 10^-18, of a text that is a decimal number with or without a sign; none
-- for any other text
abbrev pub decimal_of : List ℕ → Option ℤ
decimal_of text =
    if starts_with nat_eq text (codes "-") then option_map (λ number. neg_ℤ (pos number))
    (unsigned_of (drop 1 text))
    else if starts_with nat_eq text (codes "+") then option_map pos (unsigned_of (drop 1 text))
    else option_map pos (unsigned_of text)
