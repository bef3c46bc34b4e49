-- The row that names each concept, by its index among the name rows.
use Rattle.std.specs.Prelude.{ℕ, ◌≡◌, ◌<◌, List, length, slice_index, slice_index_or, Option, None, Some, option_map}
use Rattle.std.specs.List.{slice_get}
use Rattle.release_model.specs.Release.{Name}
use Rattle.held_release.specs.Name.{first_name, first_of_two, names_of}

-- `place` is the index in `names` of the row that comes first among the rows of `some` for
-- `concept`; or there is no such row, and no index
abbrev pub IsFirstPlace : List ℕ → ℕ → List Name → List Name → Option ℕ → Type 0
IsFirstPlace language concept names some place =
    option_map (slice_get names) place
    ≡ option_map Some (first_name language (names_of concept some))

-- `places` has, for each concept, the index of the row of `some` that comes first for it, if there
-- is one (`IsFirstPlace`)
abbrev pub AreFirstPlaces : List ℕ → List ℕ → List Name → List Name → List (Option ℕ) → Type 0
AreFirstPlaces language concepts names some places =
    (length places ≡ length concepts)
    × ((number : ℕ) → number < length concepts
    → IsFirstPlace language (slice_index concepts number) names some
    (slice_index_or places number None))

-- `result` is the index of the row that comes first: the one at `place`, or the one at `later`, if
-- there is one
abbrev pub IsFirstOfTwo : List ℕ → List Name → ℕ → Option ℕ → ℕ → Type 0
IsFirstOfTwo language names place later result =
    (row : Name) (first : Option Name) → slice_get names place ≡ Some row
    → option_map (slice_get names) later ≡ option_map Some first
    → slice_get names result ≡ Some (first_of_two language row first)
