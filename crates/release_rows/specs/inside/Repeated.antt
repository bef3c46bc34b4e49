-- The numbers that occur in a sorted list more than once.
use Rattle.std.specs.Prelude.{ℕ, ◌==◌, List, [], ◌∷◌, if◌then◌else◌}

-- each number that equals the one before it
abbrev pub equal_neighbours : List ℕ → List ℕ
equal_neighbours [] = []
equal_neighbours (one ∷ []) = []
equal_neighbours (one ∷ other ∷ later) =
    if one == other then other ∷ equal_neighbours (other ∷ later) else equal_neighbours
    (other ∷ later)
