-- Whole numbers as texts of decimal digits.
use Rattle.std.specs.Prelude.{ℕ, Bool, ◌&&◌, nat_le, List, length}
use Rattle.std.specs.List.{list_all}
use Rattle.std.specs.Char.{is_ascii_digit}
use Rattle.std.specs.Str.Parse.{digits_value}

-- whether a text has `least` to `most` bytes, all of them ASCII digits
abbrev pub is_number : ℕ → ℕ → List ℕ → Bool
is_number least most text =
    nat_le least (length text) && nat_le (length text) most && list_all is_ascii_digit text

-- the value of a text of digits as a decimal number
abbrev pub number_of : List ℕ → ℕ
number_of text = digits_value 10 text
