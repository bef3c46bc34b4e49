-- The row that names each concept, by a loop over the rows from the last to the first.
use Rattle.std.proofs.Common.{rules, ℕ, ◌≡◌, ◌<◌, ◌≤◌, ◌-◌, ◌==◌, drop, drop-cons, List, ◌∷◌, length, get_or, set}
use Rattle.std.proofs.Common.{Option, None, Some, option_map, IfSome, false, arith, slice_get, eqb-true}
use Rattle.std.proofs.Common.{get_or-set_same, get_or-set_other, length-set}
use Rattle.std.proofs.lemmas.Grind.{common_steps}
use Rattle.std.specs.List.Sorted.{IsStrictlyIncreasing}
use Rattle.std.proofs.lemmas.Bool.{cases_eq}
use Rattle.std.proofs.lemmas.Bool.Decides.{nat_tests}
use Rattle.std.proofs.lemmas.List.{get_or_default}
use Rattle.std.proofs.lemmas.Option.{slice_get_read}
use Rattle.std.proofs.lemmas.List.Quantifiers.{position-Some}
use Rattle.std.proofs.lemmas.List.Sums.{fails_before_first}
use Rattle.release_model.specs.Release.{Name}
use Rattle.held_release.specs.inside.FirstRows.{AreFirstPlaces, IsFirstOfTwo, IsFirstPlace}
use Rattle.held_release.specs.Name.{first_name, names_of}
use Rattle.held_release.specs.Numbering.{concept_number}
use Rattle.held_release.proofs.LineLemmas.{place_within}
use Rattle.number_lists.proofs.IncreasingLemmas.{earlier_below}

-- two different places of a rising list hold different concepts
places_apart : (concepts : List ℕ) → IsStrictlyIncreasing concepts → (i j : ℕ) → i < length concepts
    → j < length concepts → (i ≡ j → ⊥)
    → (get_or concepts i 0 == get_or concepts j 0) ≡ false
places_apart concepts rising i j here there apart = search (rules, earlier_below, nat_tests)

-- if a row names none of the concepts, the places for `later` are also right for the row followed by `later`
pub first_places-other : (language concepts : List ℕ) (names later : List Name) (row : Name)
    (places : List (Option ℕ)) → concept_number concepts row.concept ≡ None
    → AreFirstPlaces language concepts names later places → AreFirstPlaces language concepts names (row ∷ later) places
first_places-other language concepts names later row places none are = grind (arith, fails_before_first)

-- if a row names the concept with the number `number`, the places for `later` are right for the row followed by `later`
-- once the entry of the concept is `result`: the one of this row and the old entry that comes first
pub first_places-own : (language concepts : List ℕ) (names later : List Name) (row : Name) (at number result : ℕ)
    (places : List (Option ℕ)) → IsStrictlyIncreasing concepts
    → concept_number concepts row.concept ≡ Some number → slice_get names at ≡ Some row
    → IsFirstOfTwo language names at (get_or places number None) result
    → AreFirstPlaces language concepts names later places
    → AreFirstPlaces language concepts names (row ∷ later) (set places number (Some result))
first_places-own language concepts names later row at number result places rising own there first are =
    grind (
      arith,
      position-Some,
      eqb-true,
      length-set,
      cases_eq,
      get_or-set_same,
      get_or-set_other,
      places_apart,
      option_map,
    )

-- the list `names` from the index `following - 1` on is the row at this index, followed by the list from `following` on
pub names_from : (names : List Name) (following : ℕ) (row : Name) → 0 < following → following ≤ length names
    → row ≡ get_or names (following - 1) row
    → drop (following - 1) names ≡ row ∷ drop following names
names_from names following row some within is = grind (arith, (drop-cons names (following - 1) row))

-- if `row` is the row at the index `at` of `names`, within the list, `slice_get` gives it
pub name_at : (names : List Name) (at : ℕ) (row : Name) → at < length names → row ≡ get_or names at row
    → slice_get names at ≡ Some row
name_at names at row within is = grind (arith, common_steps, nat_tests, slice_get_read)

-- the index of the row that names a concept, if there is one, is below the number of rows
pub first_within : (language : List ℕ) (concept : ℕ) (names later : List Name) (place : Option ℕ)
    → IsFirstPlace language concept names later place → IfSome place (λ at. at < length names)
first_within language concept names later place is =
    place_within names place (first_name language (names_of concept later)) is

-- if the concept `id` has the number `number`, the entry of `places` at this number is within the list, and does not
-- depend on the default
pub place_read : (language concepts : List ℕ) (id : ℕ) (names later : List Name) (places : List (Option ℕ)) (number : ℕ)
    (place : Option ℕ)
    → AreFirstPlaces language concepts names later places → concept_number concepts id ≡ Some number
    → place ≡ get_or places number place
    → (number < length concepts) × (place ≡ get_or places number None)
place_read language concepts id names later places number place are own is =
    grind (arith, common_steps, nat_tests, get_or_default, position-Some)
