-- The places of the types that are in a set of concepts.
use Rattle.std.proofs.Common.{ℕ, ◌≡◌, ◌<◌, ◌+◌, ◌++◌, ◌∷◌, [], ◌==◌, ◌||◌, ◌∙◌, Bool, true, false, List, length, get_or}
use Rattle.std.proofs.Common.{take, inl, inr, refl, sym, ap, arith}
use Rattle.std.specs.Prelude.{All, None, Option, Some, nat_eq, position}
use Rattle.std.specs.List.{IsDistinct}
use Rattle.std.specs.List.Sorted.{IsStrictlyIncreasing}
use Rattle.std.proofs.lemmas.Bool.{cases_eq, cases_lt, eq-eqb, eqb-false, eqb-true, ne_eqb}
use Rattle.std.proofs.lemmas.List.{take_more}
use Rattle.std.proofs.lemmas.List.Folds.{list_any-append}
use Rattle.std.proofs.lemmas.List.Quantifiers.{position-Some}
use Rattle.std.proofs.lemmas.Map.Keys.{apart_from_distinct}
use Rattle.std.proofs.lemmas.Option.{slice_get-get_or}
use Rattle.std.proofs.Math.Bool.{or-false}
use Rattle.release_model.specs.Release.{Attribute}
use Rattle.number_lists.specs.Members.{has}
use Rattle.postings.specs.Indexed.{Indexed, concept_of_type, types_of}
use Rattle.pair_sets.specs.inside.Hits.{TellsTypes, is_one_at, is_type_in}
use Rattle.candidates.specs.Numbers.{is_one_of}
use Rattle.pair_sets.proofs.LeafLemmas.{types_apart}
use Rattle.candidates.proofs.Normal.{concept_number-None, concept_number-Some}
use Rattle.pair_sets.proofs.PassingLemmas.{none_by_number, one_by_number}
use Rattle.pair_sets.proofs.TimesLemmas.{item_more}

-- the places with one place more, if there is one
abbrev pub with_place : List ℕ → Option ℕ → List ℕ
with_place places None = places
with_place places (Some place) = places ++ place ∷ []

-- whether a place that may have been found is `place`
abbrev is_place : Option ℕ → ℕ → Bool
is_place None place = false
is_place (Some at) place = at == place

module _ (types : List ℕ) (apart : IsDistinct nat_eq types) where
  -- the place at which an identifier is found is the only one that it has
  only_place : (id place : ℕ) → place < length types → (found : Option ℕ) → position (nat_eq id) types ≡ found
      → is_place found place ≡ (id == get_or types place 0)
  only_place id place within None at =
      sym (ne_eqb id (get_or types place 0) (λ same. concept_number-None types id at place within (sym same)))
  only_place id place within (Some p) at = elim (cases_eq p place) [
    | inl same ↦ eq-eqb p place same
        ∙ sym (eq-eqb id (get_or types place 0) (named ∙ ap (λ (n : ℕ). get_or types n 0) same))
    | inr other ↦
        ne_eqb p place other
        ∙ sym (ne_eqb id (get_or types place 0) (λ same. elim (cases_lt p place) [
          | inl before ↦ eqb-false (get_or types p 0) (get_or types place 0)
              (apart_from_distinct nat_eq types p place 0 apart before within) (sym named ∙ same)
          | inr following ↦ eqb-false (get_or types place 0) (get_or types p 0)
              (apart_from_distinct nat_eq types place p 0 apart (omega (arith, following, other)) first.0) (sym same
              ∙ named)
        ]))
  ]
    where
      first : (p < length types) × (nat_eq id (get_or types p 0) ≡ true)
      first = let told = position-Some (nat_eq id) types p 0 at in (told.0, told.1)

      named : id ≡ get_or types p 0
      named = eqb-true id (get_or types p 0) first.1

  -- if `places` has the places of the types among the first `k` of `numbers`, adding the place of concept `k`, if it is
  -- a type, makes it so for the first `k + 1`
  pub places_more : (concepts numbers places : List ℕ) (k : ℕ) → k < length numbers → (id : ℕ)
      → id ≡ get_or concepts (get_or numbers k 0) 0
      → (found : Option ℕ) → position (nat_eq id) types ≡ found
      → ((place : ℕ) → place < length types
      → has places place ≡ is_one_of concepts (take k numbers) (get_or types place 0))
      → (place : ℕ) → place < length types
      → has (with_place places found) place ≡ is_one_of concepts (take (k + 1) numbers) (get_or types place 0)
  places_more concepts numbers places k within id is found at told place inside =
      added found
      ∙ (λ i. told place inside i || only_place id place inside found at i)
      ∙ sym (ap (λ (xs : List ℕ). is_one_of concepts xs (get_or types place 0)) (take_more numbers k 0 within)
      ∙ list_any-append (λ number. get_or concepts number 0 == get_or types place 0) (take k numbers)
      (get_or numbers k 0 ∷ [])
      ∙ ap (λ (b : Bool). is_one_of concepts (take k numbers) (get_or types place 0) || b)
      (or-false (get_or concepts (get_or numbers k 0) 0 == get_or types place 0)
      ∙ ap (λ (n : ℕ). n == get_or types place 0) (sym is)))
    where
      added : (found : Option ℕ) → has (with_place places found) place ≡ (has places place || is_place found place)
      added None = sym (or-false (has places place))
      added (Some p) = item_more places p place

-- if `places` has the places of the types of `rows` among the first `k` of `numbers`, adding the place of concept `k`,
-- if it is a type, makes it so for the first `k + 1`
pub places_more_of : (rows : List Attribute) (concepts numbers places : List ℕ) (k : ℕ) → k < length numbers → (id : ℕ)
    → id ≡ get_or concepts (get_or numbers k 0) 0
    → (found : Option ℕ) → position (nat_eq id) (types_of rows) ≡ found
    → ((place : ℕ) → place < length (types_of rows)
    → has places place ≡ is_one_of concepts (take k numbers) (get_or (types_of rows) place 0))
    → (place : ℕ) → place < length (types_of rows) → has (with_place places found) place
    ≡ is_one_of concepts (take (k + 1) numbers) (get_or (types_of rows) place 0)
places_more_of rows = places_more (types_of rows) (types_apart rows)

-- the place at which an identifier is found is below the number of types
pub place_below : (types : List ℕ) (id place : ℕ) → position (nat_eq id) types ≡ Some place → place < length types
place_below types id place at = (position-Some (nat_eq id) types place 0 at).0

-- whether the type of a row is in a set can be decided by the type's place
pub type_tells : (indexed : Indexed) (numbers : List ℕ)
    → TellsTypes indexed.rows (is_one_of indexed.concepts numbers) (is_type_in indexed numbers)
type_tells indexed numbers place within =
    ap (is_one_at indexed.concepts numbers) (slice_get-get_or (types_of indexed.rows) place 0 within)

-- types of rows, tested by the number of their concept
module _ (indexed : Indexed) (items : List ℕ) (below : All (λ item. item < length indexed.concepts) items) where
  -- a type that is not a concept in force is in no set of concepts
  pub no_typed : (at : Option ℕ) → concept_of_type indexed at ≡ None → false ≡ is_one_at indexed.concepts items at
  no_typed None none = refl
  no_typed (Some id) none = sym (none_by_number indexed.concepts items below id none)

-- a type that is a concept in force is in a set exactly if the set contains the concept's number
pub typed : (indexed : Indexed) → IsStrictlyIncreasing indexed.concepts → (items : List ℕ)
    → All (λ item. item < length indexed.concepts) items
    → (at : Option ℕ) (concept : ℕ) → concept_of_type indexed at ≡ Some concept
    → has items concept ≡ is_one_at indexed.concepts items at
typed indexed rising items below None concept none = absurd cc
typed indexed rising items below (Some id) concept is =
    let found = concept_number-Some indexed.concepts id concept is in
    sym (one_by_number indexed.concepts rising items below concept found.0)
    ∙ ap (is_one_of indexed.concepts items) found.1
