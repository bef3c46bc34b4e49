-- The parts of a text that is cut at each separator, a byte.
use Rattle.std.specs.Prelude.{ℕ, ◌==◌, List, [], map, Option, None, Some}
use Rattle.std.specs.Borrow.{Bor}
use Rattle.std.specs.List.{slice_split}

-- the parts of `text` before, between and after its separators, one more than there are separators
abbrev pub parts_at : ℕ → List ℕ → List (List ℕ)
parts_at separator text = slice_split (λ byte. byte == separator) text

-- the parts of the text that is left after the first separator, or no part if there was no
-- separator
abbrev pub parts_left : ℕ → Option (Bor (List ℕ)) → List (List ℕ)
parts_left separator None = []
parts_left separator (Some text) = parts_at separator text.now

-- the bytes of each borrowed text
abbrev pub texts_of : List (Bor (List ℕ)) → List (List ℕ)
texts_of lent = map (λ text. text.now) lent
