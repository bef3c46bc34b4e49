-- The printed form of a file's name, which is on one line whatever bytes the name has.
use Rattle.std.specs.Prelude.{ℕ, ◌/◌, ◌%◌, false, if◌then◌else◌, List, [], ◌∷◌, ◌++◌, codes}
use Rattle.std.specs.Char.{is_ascii_control}
use Rattle.std.specs.Fmt.{digit_glyph}
use Rattle.std.specs.List.{flat_map}

-- the two hexadecimal digits of a byte, in lower case
abbrev pub two_digits : ℕ → List ℕ
two_digits byte = digit_glyph false (byte / 16) ∷ digit_glyph false (byte % 16) ∷ []

-- the printed form of a byte: an ASCII control character as `\x` and its two hexadecimal digits,
-- any other byte as it is
abbrev pub told_byte : ℕ → List ℕ
told_byte byte = if is_ascii_control byte then codes "\\x" ++ two_digits byte else byte ∷ []

-- the printed form of a name, byte by byte
abbrev pub told_name : List ℕ → List ℕ
told_name name = flat_map told_byte name
