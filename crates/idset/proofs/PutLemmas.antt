-- A number added to a rising list at its place.
use Rattle.std.proofs.Common.{ℕ, suc, ◌+◌, ◌<◌, ◌≤◌, ◌≡◌, ◌++◌, ◌∷◌, ◌∙◌, ◌||◌, [], Bool, List, inl, inr}
use Rattle.std.proofs.Common.{ap, arith, cond, drop, false, length, refl, sym, take, true}
use Rattle.std.proofs.lemmas.Bool.Decides.{nat_tests}
use Rattle.std.proofs.lemmas.Bool.{cases_lt, cases_order, eq-eqb, le-ltb, lt-ltb, ne_eqb}
use Rattle.std.proofs.lemmas.List.{drop_all}
use Rattle.std.specs.Int.{from_bool}
use Rattle.number_lists.specs.Members.{has}
use Rattle.number_lists.specs.Rising.{IsRising, IsRisingBelow, rises_within}
use Rattle.number_lists.specs.RisingOrder.{put}
use Rattle.number_lists.proofs.RisingLemmas.{has-below_lowest, rises_from_on, rises_on, rising_is_where}
use Rattle.number_lists.proofs.RisingOrderLemmas.{has-put}
use Rattle.idset.specs.Sets.{all_items, place_of}
use Rattle.idset.proofs.Merging.{from_bool_le}
use Rattle.idset.proofs.Places.{has-gone, place_le}

-- the items of a rising list before the place of a number, the number, and the items after it are the list with the
-- number put into it
put_at : (lowest bound : ℕ) (items : List ℕ) (number : ℕ) → rises_within lowest bound items ≡ true
    → take (place_of items number) items ++ number
    ∷ drop (place_of items number + from_bool (has items number)) items ≡ put number items
put_at lowest bound [] number rises = ap (λ (rest : List ℕ). number ∷ rest) (drop_all (0 + 0) [] (omega arith))
put_at lowest bound (item ∷ items) number rises =
    let on = rises_on lowest bound item items rises in
    let all = item ∷ items in
    let place = place_of items number in
    elim (cases_order number item) [
      | inl same ↦
          let before : place_of all number ≡ 0 = (λ i. cond (le-ltb item number (omega arith) i) (1 + place) 0) in
          let after : place_of all number + from_bool (has all number) ≡ 1 =
          (λ i. before i + from_bool (eq-eqb item number (sym same) i || has items number)) in
          (λ i. take (before i) all ++ number ∷ drop (after i) all)
          ∙ (rw (le-ltb number item (omega arith), eq-eqb number item same) (ap (λ (n : ℕ). n ∷ items) same))
      | inr (inl under) ↦
          let before : place_of all number ≡ 0 = (λ i. cond (le-ltb item number (omega arith) i) (1 + place) 0) in
          let none : has all number ≡ false = has-below_lowest item bound all number
          (rises_from_on item bound item items (omega arith) on.below on.rest) under in
          let after : place_of all number + from_bool (has all number) ≡ 0 = (λ i. before i + from_bool (none i)) in
          (λ i. take (before i) all ++ number ∷ drop (after i) all) ∙ (rw (lt-ltb number item under) refl)
      | inr (inr over) ↦
          let before : place_of all number ≡ suc place =
          (λ i. cond (lt-ltb item number over i) (1 + place) 0) ∙ omega arith in
          let after : place_of all number + from_bool (has all number)
          ≡ suc (place + from_bool (has items number)) =
          (λ i. before i + from_bool (ne_eqb item number (λ same. omega arith) i || has items number))
          ∙ omega arith in
          (λ i. take (before i) all ++ number ∷ drop (after i) all)
          ∙ (rw (le-ltb number item (omega arith), ne_eqb number item (λ same. omega arith))
          (ap (λ (rest : List ℕ). item ∷ rest) (put_at (suc item) bound items number on.rest)))
    ]

-- a rising list stays rising if a number within its bounds is put into it
put-rises_within : (lowest bound number : ℕ) (items : List ℕ) → lowest ≤ number → number < bound
    → rises_within lowest bound items ≡ true → rises_within lowest bound (put number items) ≡ true
put-rises_within lowest bound number [] above below rises = rises_from_on lowest bound number [] above below refl
put-rises_within lowest bound number (item ∷ items) above below rises =
    let on = rises_on lowest bound item items rises in
    elim (cases_order number item) [
      | inl same ↦ rw (le-ltb number item (omega arith), eq-eqb number item same) rises
      | inr (inl under) ↦ rw (lt-ltb number item under)
          (rises_from_on lowest bound number (item ∷ items) above below
          (rises_from_on (suc number) bound item items (omega arith) on.below on.rest))
      | inr (inr over) ↦ rw (le-ltb number item (omega arith), ne_eqb number item (λ same. omega arith))
          (rises_from_on lowest bound item (put number items) on.above on.below
          (put-rises_within (suc item) bound number items (omega arith) below on.rest))
    ]

-- the items of a rising list before the place of a number, the number, and the items after it are the list with the
-- number added; `stands` tells whether the number is in the list
pub put_is_union : (bound : ℕ) (items : List ℕ) (number : ℕ) (stands : Bool) → stands ≡ has items number
    → IsRisingBelow bound items → number < bound
    → take (place_of items number) items ++ number ∷ drop (place_of items number + from_bool stands) items
    ≡ all_items bound items (number ∷ [])
put_is_union bound items number stands told rises below =
    ap (λ (here : Bool). take (place_of items number) items ++ number ∷ drop (place_of items number + from_bool here)
    items) told
    ∙ put_at 0 bound items number rises
    ∙ rising_is_where bound (put number items) (λ other. has items other || has (number ∷ []) other)
    (put-rises_within 0 bound number items (omega arith) below rises)
    (λ other within. has-put number items other ∙ grind (arith, nat_tests))

-- the items after a number start within the list
pub above_within : (items : List ℕ) (number : ℕ) (stands : Bool) → IsRising items → stands ≡ has items number
    → place_of items number + from_bool stands ≤ length items
above_within items number stands rises told = elim (cases_lt (place_of items number) (length items)) [
  | inl within ↦ omega (arith, from_bool_le stands)
  | inr past ↦
      let none : stands ≡ false = told ∙ sym (has-gone items number (place_of items number) rises refl past) in
      omega (arith, ap from_bool none, place_le items number)
]

-- the bounds of the places that the code reads
pub ruleset within = (above_within, place_le, from_bool_le)
