-- The state of the search for cycles: marks on the concepts that a concept, the start, was found to
-- reach, and ranks that no row lowers. These are the search's own; `Reaches` defines cycles.
use Rattle.std.specs.Prelude.{ℕ, ◌≡◌, ◌≤◌, Bool, true, false, not, List, All, slice_index_or, count_by, ◌⊎◌}
use Rattle.hierarchy.specs.Hierarchy.{Reaches}

-- whether a concept is marked
abbrev pub IsMarked : List Bool → ℕ → Type 0
IsMarked marks concept = slice_index_or marks concept false ≡ true

-- how many concepts are not marked
abbrev pub unmarked_count : List Bool → ℕ
unmarked_count marks = count_by not marks

-- only concepts that the start reaches are marked
abbrev pub MarksReached : List (ℕ × ℕ) → ℕ → List Bool → Type 0
MarksReached rows start marks = (concept : ℕ) → IsMarked marks concept → Reaches rows start concept

-- a row is followed: if its child is the start or marked, its parent is marked
abbrev pub IsFollowed : ℕ → List Bool → ℕ × ℕ → Type 0
IsFollowed start marks row = (row.0 ≡ start) ⊎ IsMarked marks row.0 → IsMarked marks row.1

-- the rank of a concept, or 0 if it has none
abbrev pub rank_in : List ℕ → ℕ → ℕ
rank_in ranks concept = slice_index_or ranks concept 0

-- no row leads from a higher rank to a lower one
abbrev pub NoneFalls : List ℕ → List (ℕ × ℕ) → Type 0
NoneFalls ranks rows = All (λ (row : ℕ × ℕ). rank_in ranks row.0 ≤ rank_in ranks row.1) rows
