-- Prefixes of bytes.
use Rattle.std.specs.Prelude.{ℕ, ◌≡◌, List, length, take}

-- `front` is a prefix of `bytes`
abbrev pub IsPrefixOf : List ℕ → List ℕ → Type 0
IsPrefixOf front bytes = take (length front) bytes ≡ front
