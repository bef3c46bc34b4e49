-- The first bytes of an unended line, which a run keeps until the line ends.
use Rattle.std.specs.Prelude.{◌≡◌, ℕ, List, take}
use Rattle.query_run.specs.Lines.{IsCutInto}

-- the first 65,536 bytes of a line
abbrev pub kept_of : List ℕ → List ℕ
kept_of line = take 65536 line

-- `bytes` consist of the ended lines `lines` and then an unended line, whose first 65,536 bytes are
-- `kept`
abbrev pub IsCutTo : List ℕ → List (List ℕ) → List ℕ → Type 0
IsCutTo bytes lines kept = (unended : List ℕ) × IsCutInto bytes lines unended
    × (kept ≡ kept_of unended)
