-- Places by their keys, one by one, and the lists that they make.
use Rattle.std.proofs.Common.{ℕ, ◌+◌, ◌==◌, ◌≡◌, ◌≢◌, ◌≤◌, ◌<◌, ◌++◌, ◌∷◌, [], ◌∙◌, ⊎_elim, Bool}
use Rattle.std.proofs.Common.{true, false, cond, List, length, get_or, map, take, nat_lt, refl, sym, ap, arith}
use Rattle.std.proofs.Common.{length-take}
use Rattle.std.specs.List.{filter}
use Rattle.std.proofs.lemmas.Bool.{cases_eq, eq-eqb, lt-ltb, ltb-true, ne_eqb}
use Rattle.std.proofs.lemmas.List.{take_more}
use Rattle.std.proofs.lemmas.List.Elements.{All-cons}
use Rattle.number_lists.specs.KeyedLists.{AreKeysBelow, items_of, lists_by}
use Rattle.number_lists.proofs.ListLemmas.{same_maps}
use Rattle.postings.specs.inside.KeyedPlaces.{keyed_places}
use Rattle.postings.specs.Places.{places_by, places_from}

-- a key with its place, if it is below the count
abbrev pub keyed_place : ℕ → ℕ → ℕ → List (ℕ × ℕ)
keyed_place count place key = cond (nat_lt key count) ((key, place) ∷ []) []

keyed_places-append : (count place : ℕ) (xs ys : List ℕ)
    → keyed_places count place (xs ++ ys) ≡ keyed_places count place xs ++ keyed_places count (place + length xs) ys
keyed_places-append count place [] ys = ap (λ (at : ℕ). keyed_places count at ys) (omega arith)
keyed_places-append count place (x ∷ xs) ys =
    let rest = keyed_places-append count (place + 1) xs ys
    ∙ ap (λ (at : ℕ). keyed_places count (place + 1) xs ++ keyed_places count at ys) (omega arith) in
    elim (nat_lt x count) as (λ b. cond b ((x, place) ∷ keyed_places count (place + 1) (xs ++ ys))
    (keyed_places count (place + 1) (xs ++ ys))
    ≡ cond b ((x, place) ∷ keyed_places count (place + 1) xs) (keyed_places count (place + 1) xs)
    ++ keyed_places count (place + length (x ∷ xs)) ys) [
      | true ↦ ap (λ (pairs : List (ℕ × ℕ)). (x, place) ∷ pairs) rest
      | false ↦ rest
    ]

-- the keyed places of the first `i + 1` keys are those of the first `i`, with the pair of key `i` and its place at the
-- end if the key is below `count`
pub keyed_places-more : (count : ℕ) (keys : List ℕ) (i : ℕ) → i < length keys
    → keyed_places count 0 (take (i + 1) keys) ≡ keyed_places count 0 (take i keys)
    ++ keyed_place count i (get_or keys i 0)
keyed_places-more count keys i within =
    ap (keyed_places count 0) (take_more keys i 0 within)
    ∙ keyed_places-append count 0 (take i keys) (get_or keys i 0 ∷ [])
    ∙ ap (λ (at : ℕ). keyed_places count 0 (take i keys) ++ keyed_place count at (get_or keys i 0))
    (omega (arith, length-take i keys))

-- there are at most as many keyed places as keys
pub length-keyed_places : (count place : ℕ) (keys : List ℕ) → length (keyed_places count place keys) ≤ length keys
length-keyed_places count place [] = omega arith
length-keyed_places count place (key ∷ keys) =
    grind (arith, cond, keyed_places, (length-keyed_places count (place + 1) keys))

-- each key in the keyed places is below `count`
pub keyed_below : (count place : ℕ) (keys : List ℕ) → AreKeysBelow count (keyed_places count place keys)
keyed_below count place [] = λ k d within. absurd (omega arith)
keyed_below count place (key ∷ keys) = by (nat_lt key count) refl (keyed_below count (place + 1) keys)
  where
    by : (b : Bool) → nat_lt key count ≡ b → AreKeysBelow count (keyed_places count (place + 1) keys)
        → AreKeysBelow count (cond b ((key, place) ∷ keyed_places count (place + 1) keys)
        (keyed_places count (place + 1) keys))
    by true below rest = All-cons (λ (pair : ℕ × ℕ). pair.0 < count) (key, place) (keyed_places count (place + 1) keys)
        (ltb-true key count below) rest
    by false above rest = rest

-- the items of a key among keyed places are the places at which it stands
items_of-keyed : (count key : ℕ) → key < count → (place : ℕ) (keys : List ℕ)
    → items_of (keyed_places count place keys) key ≡ places_from place (λ other. other == key) keys
items_of-keyed count key below place [] = refl
items_of-keyed count key below place (first ∷ keys) =
    let rest = items_of-keyed count key below (place + 1) keys in
    let others = keyed_places count (place + 1) keys in
    ⊎_elim
    (λ (same : first ≡ key).
    (λ i. items_of (cond (lt-ltb first count (omega arith) i) ((first, place) ∷ others) others) key)
    ∙ (λ i. map (λ (pair : ℕ × ℕ). pair.1) (cond (eq-eqb first key same i)
    ((first, place) ∷ filter (λ (pair : ℕ × ℕ). pair.0 == key) others)
    (filter (λ (pair : ℕ × ℕ). pair.0 == key) others)))
    ∙ ap (λ (items : List ℕ). place ∷ items) rest
    ∙ (λ i. cond (sym (eq-eqb first key same) i) (place ∷ places_from (place + 1) (λ other. other == key) keys)
    (places_from (place + 1) (λ other. other == key) keys)))
    (λ (apart : first ≢ key).
    skipped (nat_lt first count) others (ne_eqb first key apart)
    ∙ rest
    ∙ (λ i. cond (sym (ne_eqb first key apart) i) (place ∷ places_from (place + 1) (λ other. other == key) keys)
    (places_from (place + 1) (λ other. other == key) keys)))
    (cases_eq first key)
  where
    skipped : (b : Bool) (others : List (ℕ × ℕ)) (other : (first == key) ≡ false)
        → items_of (cond b ((first, place) ∷ others) others) key ≡ items_of others key
    skipped true others other = λ i. map (λ (pair : ℕ × ℕ). pair.1)
        (cond (other i) ((first, place) ∷ filter (λ (pair : ℕ × ℕ). pair.0 == key) others)
        (filter (λ (pair : ℕ × ℕ). pair.0 == key) others))
    skipped false others other = refl

-- collecting the keyed places into lists by key gives, for each key below `count`, the places of `keys` that have it
pub places_by_keyed : (count : ℕ) (keys : List ℕ) → lists_by count (keyed_places count 0 keys) ≡ places_by count keys
places_by_keyed count keys =
    same_maps (items_of (keyed_places count 0 keys)) (λ key. places_from 0 (λ other. other == key) keys) 0 count
    (λ key from below. items_of-keyed count key (omega (arith, below)) 0 keys)
