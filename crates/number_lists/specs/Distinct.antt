-- The items of a list, each once.
use Rattle.std.specs.Prelude.{ℕ, ◌↔◌, Bool, not, nat_eq, List, [], ◌∷◌, filter}
use Rattle.std.specs.List.{Contains, IsDistinct}

-- the items of a list without repeats: an item that `same` finds the same as an earlier one is left
-- out
abbrev pub distinct : {X : Type 0} → (X → X → Bool) → List X → List X
distinct same [] = []
distinct same (first ∷ rest) = first ∷ filter (λ other. not (same first other)) (distinct same rest)

-- `distinct same items` has no repeats, and exactly the members of `items`
abbrev pub KeepsEachOnce : {X : Type 0} → (X → X → Bool) → List X → Type 0
KeepsEachOnce {X} same items =
    IsDistinct same (distinct same items)
    × ((item : X) → Contains (distinct same items) item ↔ Contains items item)

-- for every list of numbers, `distinct` gives a list without repeats that has exactly its members
abbrev pub KeepsEachNumberOnce : Type 0
KeepsEachNumberOnce = (numbers : List ℕ) → KeepsEachOnce nat_eq numbers
