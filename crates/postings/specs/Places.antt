-- The places of the items of a list that pass a test.
use Rattle.std.specs.Prelude.{ℕ, ◌+◌, ◌==◌, Bool, if◌then◌else◌, List, [], ◌∷◌, map}
use Rattle.std.specs.List.{range_with_len}

-- the places of the items that pass `test`, in rising order, if the places are counted from `place`
abbrev pub places_from : {X : Type 0} → ℕ → (X → Bool) → List X → List ℕ
places_from place test [] = []
places_from place test (item ∷ items) =
    if test item then place ∷ places_from (place + 1) test items else places_from (place + 1) test
    items

-- the places, counted from 0, of the items that pass `test`, in rising order
abbrev pub places_where : {X : Type 0} → (X → Bool) → List X → List ℕ
places_where test items = places_from 0 test items

-- for each key below `count`, the places of `keys` that have this key, in rising order
abbrev pub places_by : ℕ → List ℕ → List (List ℕ)
places_by count keys = map (λ key. places_where (λ other. other == key) keys)
    (range_with_len 0 count)
