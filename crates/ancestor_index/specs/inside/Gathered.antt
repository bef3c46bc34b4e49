-- Concepts gathered with their lists of ancestors, before they are sorted. The list of a concept is
-- the one in `lists` at its entry of `places`.
use Rattle.std.specs.Prelude.{ℕ, ◌≡◌, ◌<◌, ◌∷◌, ◌||◌, Bool, false, List, Option, None, Some, All, flat_map, slice_index}
use Rattle.number_lists.specs.Rising.{IsRisingBelow}
use Rattle.number_lists.specs.Members.{has}
use Rattle.number_lists.specs.KeyedLists.{list_of}

-- each of `concepts`, followed by the items of its list
abbrev pub gathered_by : List ℕ → List (List ℕ) → List ℕ → List ℕ
gathered_by places lists concepts =
    flat_map (λ concept. concept ∷ list_of lists (slice_index places concept)) concepts

-- whether there is a set and it has the number
abbrev pub has_joined : {S : Type 0} → (S → List ℕ) → Option S → ℕ → Bool
has_joined items_of None number = false
has_joined items_of (Some set) number = has (items_of set) number

-- of the numbers below `count`, `list` and the set `joined` together have exactly those of `all`
abbrev pub AreGathered : {S : Type 0} → (S → List ℕ) → ℕ → List ℕ → List ℕ → Option S → Type 0
AreGathered items_of count all list joined =
    (number : ℕ) → number < count
    → has all number ≡ (has list number || has_joined items_of joined number)

-- each list rises below `count`
abbrev pub AreRisingBelow : ℕ → List (List ℕ) → Type 0
AreRisingBelow count lists = All (λ list. IsRisingBelow count list) lists
