-- The hierarchy that the is-a rows make (RF2, |Is a|). A row is a pair, a child and its parent.
use Rattle.std.specs.Prelude.{ℕ, ◌<◌, ◌↔◌, ◌==◌, ◌&&◌, ◌||◌, Bool, false, IsTrue, List, [], ◌∷◌, All, Contains}

-- a concept reaches another if a non-empty chain of rows leads from it to the other: a row, or a
-- row to a concept that reaches the other
pub data Reaches (rows : List (ℕ × ℕ)) : ℕ → ℕ → Type 0 where
  one_row : {child parent : ℕ} → Contains rows (child, parent) → Reaches rows child parent
  more_rows : {child parent ancestor : ℕ} → Contains rows (child, parent)
      → Reaches rows parent ancestor → Reaches rows child ancestor

-- whether a concept reaches another, as a test that can be computed: by the rows after the first,
-- or through the first row
abbrev pub reaches : List (ℕ × ℕ) → ℕ → ℕ → Bool
reaches [] from to = false
reaches (row ∷ rows) from to =
    reaches rows from to
    || (((from == row.0) || reaches rows from row.0) && ((row.1 == to) || reaches rows row.1 to))

-- the test `reaches` holds exactly if `Reaches` does: if a chain of rows leads from `from` to `to`
abbrev pub TellsReaches : Type 0
TellsReaches = (rows : List (ℕ × ℕ)) (from to : ℕ)
    → IsTrue (reaches rows from to) ↔ Reaches rows from to

-- both ends of each row are below `count`
abbrev pub IsWithin : ℕ → List (ℕ × ℕ) → Type 0
IsWithin count rows = All (λ (row : ℕ × ℕ). (row.0 < count) × (row.1 < count)) rows
