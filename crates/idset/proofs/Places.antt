-- The place of a number in a rising list: how many items are below it.
use Rattle.std.proofs.Common.{ℕ, suc, ◌+◌, ◌-◌, ◌<◌, ◌≤◌, ◌≡◌, ◌^◌, Bool, true, false, ◌&&◌, ◌||◌, cond, ltb, eqb, List}
use Rattle.std.proofs.Common.{[], ◌∷◌, ◌++◌, length, take, drop, get_or, refl, sym, ◌∙◌, subst, arith, inl, inr}
use Rattle.std.specs.List.{filter}
use Rattle.std.proofs.lemmas.Bool.{lt-ltb, le-ltb, eq-eqb, ne_eqb, ltb-true, cases_lt, cases_eq, true≢false}
use Rattle.std.proofs.lemmas.List.Elements.{filter_more}
use Rattle.std.proofs.lemmas.List.Sums.{prefix_len-le-length, prefix_len_passes, prefix_len_stops}
use Rattle.std.proofs.lemmas.List.Folds.{list_any_at}
use Rattle.number_lists.specs.Members.{has}
use Rattle.number_lists.specs.Rising.{rises_within, IsRising, IsRisingBelow}
use Rattle.idset.specs.Sets.{place_of}
use Rattle.number_lists.proofs.RisingLemmas.{get_or-rising, has-below_lowest, rises_from_on, rises_on}

-- the place of a number is at most the length of the list
pub place_le : (items : List ℕ) (n : ℕ) → place_of items n ≤ length items
place_le items n = prefix_len-le-length (λ item. ltb item n) items

-- each item before the place of a number is below this number
pub below_place : (items : List ℕ) (n k : ℕ) → k < place_of items n → get_or items k 0 < n
below_place items n k lt = ltb-true (get_or items k 0) n (prefix_len_passes (λ item. ltb item n) items k 0 lt)

-- the item at the place of a number is not below this number
pub at_place : (items : List ℕ) (n : ℕ) → place_of items n < length items → n ≤ get_or items (place_of items n) 0
at_place items n lt = ltb-ge (get_or items (place_of items n) 0) n (prefix_len_stops (λ item. ltb item n) items 0 lt)
  where
    ltb-ge : (a b : ℕ) → ltb a b ≡ false → b ≤ a
    ltb-ge a b e = elim (cases_lt a b) [ inl lt ↦ absurd (true≢false (sym (lt-ltb a b lt) ∙ e)) | inr ge ↦ ge ]

-- an item of a rising list that is below a number is before the place of the number
pub place_above : (bound : ℕ) (items : List ℕ) (n k : ℕ) → IsRisingBelow bound items → k < length items
    → get_or items k 0 < n → k < place_of items n
place_above bound items n k rises in' lt =
    elim (cases_lt k (place_of items n)) [
      | inl before ↦ before
      | inr not_before ↦
          let here : place_of items n < length items = omega arith in
          let at : n ≤ get_or items (place_of items n) 0 = at_place items n here in
          elim (cases_eq (place_of items n) k) [
            | inl same ↦ absurd (omega (arith, subst (λ (p : ℕ). n ≤ get_or items p 0) same at))
            | inr apart ↦ absurd (omega (
              arith,
              get_or-rising 0 bound items (place_of items n) k rises (omega arith)
                  in',
            ))
          ]
    ]

-- the place of a number is at most that of an item that is not below it
pub place_at_most : (items : List ℕ) (n k : ℕ) → n ≤ get_or items k 0 → place_of items n ≤ k
place_at_most items n k le =
    elim (cases_lt k (place_of items n)) [ inl lt ↦ absurd (omega (arith, below_place items n k lt)) | inr ge ↦ ge ]

-- in a rising list, `p` is the place of `n` if the item before `p` is below `n` and the item at `p` is not
pub place_is : (bound : ℕ) (items : List ℕ) (n p : ℕ) → IsRisingBelow bound items → p ≤ length items
    → (0 < p → get_or items (p - 1) 0 < n) → (p < length items → n ≤ get_or items p 0) → p ≡ place_of items n
place_is bound items n p rises in' before here =
    let low : p ≤ place_of items n =
    elim (cases_lt 0 p) [
      | inl some ↦
          omega (arith, place_above bound items n (p - 1) rises (omega arith) (before some))
      | inr none ↦ omega arith
    ] in
    let high : place_of items n ≤ p =
    elim (cases_lt p (length items)) [
      | inl lt ↦ place_at_most items n p (here lt)
      | inr ge ↦
          omega (arith, place_le items n)
    ] in
    omega arith

-- the place of a number is at most the place of a greater one
pub place_grows : (items : List ℕ) (m n : ℕ) → m ≤ n → place_of items m ≤ place_of items n
place_grows items m n le =
    elim (cases_lt (place_of items n) (length items)) [
      | inl lt ↦ place_at_most items m (place_of items n) (omega (arith, at_place items n lt))
      | inr ge ↦ omega (arith, place_le items m)
    ]

-- if the first item is below `n`, the place of `n` is one more than its place in the list after this item
place-cons_below : (item : ℕ) (items : List ℕ) (n : ℕ) → item < n → place_of (item ∷ items) n ≡ suc (place_of items n)
place-cons_below item items n lt = (λ i. cond (lt-ltb item n lt i) (1 + place_of items n) 0) ∙ more
  where
    more : 1 + place_of items n ≡ suc (place_of items n)
    more = omega arith

-- if the first item is not below `n`, the place of `n` is 0
place-cons_here : (item : ℕ) (items : List ℕ) (n : ℕ) → n ≤ item → place_of (item ∷ items) n ≡ 0
place-cons_here item items n le = (λ i. cond (le-ltb item n le i) (1 + place_of items n) 0)

-- the items from the place of a number on rise from this number
pub drop_place-rising : (lowest bound : ℕ) (items : List ℕ) (n : ℕ) → rises_within lowest bound items ≡ true
    → rises_within n bound (drop (place_of items n) items) ≡ true
drop_place-rising lowest bound [] n rises = refl
drop_place-rising lowest bound (item ∷ items) n rises =
    let on = rises_on lowest bound item items rises in
    elim (cases_lt item n) [
      | inl lt ↦ (λ i. rises_within n bound (drop (place-cons_below item items n lt i) (item ∷ items)))
          ∙ drop_place-rising (suc item) bound items n on.rest
      | inr ge ↦ (λ i. rises_within n bound (drop (place-cons_here item items n ge i) (item ∷ items)))
          ∙ rises_from_on n bound item items ge on.below on.rest
    ]

-- the items from the place of `n` on have the members of the list that are not below `n`
pub has-drop_place : (items : List ℕ) (n m : ℕ) → n ≤ m → has (drop (place_of items n) items) m ≡ has items m
has-drop_place [] n m le = refl
has-drop_place (item ∷ items) n m le =
    elim (cases_lt item n) [
      | inl lt ↦
          let apart : eqb item m ≡ false = ne_eqb item m (λ e. omega arith) in
          (λ i. has (drop (place-cons_below item items n lt i) (item ∷ items)) m)
          ∙ has-drop_place items n m le ∙ sym (λ i. apart i || has items m)
      | inr ge ↦ (λ i. has (drop (place-cons_here item items n ge i) (item ∷ items)) m)
    ]

-- the item at a place of a list is in the list
pub has-get_or : (items : List ℕ) (k : ℕ) → k < length items → has items (get_or items k 0) ≡ true
has-get_or items k in' =
    list_any_at (λ item. eqb item (get_or items k 0)) items k 0 in' (eq-eqb (get_or items k 0) (get_or items k 0) refl)

-- a number from `n` on and below the item at the place of `n` is not in the rising list
pub none_between : (bound : ℕ) (items : List ℕ) (n m : ℕ) → IsRisingBelow bound items → n ≤ m
    → (place_of items n < length items → m < get_or items (place_of items n) 0) → has items m ≡ false
none_between bound items n m rises le before =
    sym (has-drop_place items n m le) ∙ none_in 0 bound items n m rises le before
  where
    none_in : (lowest bound : ℕ) (items : List ℕ) (n m : ℕ) → rises_within lowest bound items ≡ true → n ≤ m
        → (place_of items n < length items → m < get_or items (place_of items n) 0)
        → has (drop (place_of items n) items) m ≡ false
    none_in lowest bound [] n m rises le before = refl
    none_in lowest bound (item ∷ items) n m rises le before =
        let on = rises_on lowest bound item items rises in
        elim (cases_lt item n) [
          | inl lt ↦
              let step = place-cons_below item items n lt in
              (λ i. has (drop (step i) (item ∷ items)) m)
              ∙ none_in (suc item) bound items n m on.rest le
              (λ in'. subst (λ (p : ℕ). m < get_or (item ∷ items) p 0) step (before (omega (arith, step))))
          | inr ge ↦
              let step = place-cons_here item items n ge in
              let above : m < item = subst (λ (p : ℕ). m < get_or (item ∷ items) p 0) step
              (before (omega (arith, step))) in
              (λ i. has (drop (step i) (item ∷ items)) m)
              ∙ has-below_lowest item bound (item ∷ items) m
              (rises_from_on item bound item items (omega arith) on.below on.rest) above
        ]

-- a number is in a rising list exactly if it is the item at its place
pub has-place : (bound : ℕ) (items : List ℕ) (n : ℕ) → IsRisingBelow bound items
    → has items n ≡ (ltb (place_of items n) (length items) && eqb (get_or items (place_of items n) 0) n)
has-place bound items n rises =
    elim (cases_lt (place_of items n) (length items)) [
      | inl lt ↦ (elim (cases_eq (get_or items (place_of items n) 0) n) [
        | inl same ↦ subst (λ (m : ℕ). has items m ≡ true) same (has-get_or items (place_of items n) lt)
            ∙ sym (eq-eqb (get_or items (place_of items n) 0) n same)
        | inr apart ↦ none_between bound items n n rises (omega arith) (λ _. omega (arith, at_place items n lt))
            ∙ sym (ne_eqb (get_or items (place_of items n) 0) n apart)
      ]) ∙ sym (λ i. lt-ltb (place_of items n) (length items) lt i && eqb (get_or items (place_of items n) 0) n)
      | inr ge ↦ none_between bound items n n rises (omega arith) (λ in'. absurd (omega arith))
          ∙ sym (λ i. le-ltb (place_of items n) (length items) ge i && eqb (get_or items (place_of items n) 0) n)
    ]

-- the item at the place of `n` equals `n` exactly if `n` is in the list
pub has-here : (items : List ℕ) (n p : ℕ) → IsRising items → p ≡ place_of items n → p < length items
    → eqb (get_or items p 0) n ≡ has items n
has-here items n p rises is lt =
    let here : place_of items n < length items = omega arith in
    (λ i. eqb (get_or items (is i) 0) n)
    ∙ sym (has-place (2 ^ 32) items n rises
    ∙ (λ i. lt-ltb (place_of items n) (length items) here i && eqb (get_or items (place_of items n) 0) n))

-- a number whose place is the end of the list is not in the list
pub has-gone : (items : List ℕ) (n p : ℕ) → IsRising items → p ≡ place_of items n → length items ≤ p
    → false ≡ has items n
has-gone items n p rises is ge =
    let here : length items ≤ place_of items n = omega arith in
    sym (has-place (2 ^ 32) items n rises
    ∙ (λ i. le-ltb (place_of items n) (length items) here i && eqb (get_or items (place_of items n) 0) n))

-- if the item at `k` of a rising list is below `n`, the place of `n` is after `k`
pub read_below : (items : List ℕ) (n k : ℕ) → IsRising items → k < length items → get_or items k 0 < n
    → suc k ≤ place_of items n
read_below items n k rises in' lt = place_above (2 ^ 32) items n k rises in' lt

-- if the place of `n` is not before `k`, and the item at `k` is not below `n`, the place of `n` is `k`
pub read_reached : (items : List ℕ) (n k : ℕ) → k ≤ place_of items n → n ≤ get_or items k 0 → k ≡ place_of items n
read_reached items n k le here = omega (arith, place_at_most items n k here)

-- if the place of `n` is not before `k`, and `k` is not before the end of the list, the place of `n` is `k`
pub read_all : (items : List ℕ) (n k : ℕ) → k ≤ place_of items n → length items ≤ k → k ≡ place_of items n
read_all items n k le past = omega (arith, place_le items n)

-- the lemmas on the place of a number, by the items that the code reads
pub ruleset readings = (read_below, read_reached, read_all, place_le, place_at_most, has-here, has-gone)

-- ---- one step of a loop that looks each item of a rising list up in another
-- if `out` is the filter of the first `i` items, and item `i` is pushed exactly if it passes, the result is the
-- filter of the first `i + 1` items
pub filter_step : (p : ℕ → Bool) (items out next : List ℕ) (i : ℕ) (kept : Bool) → i < length items
    → out ≡ filter p (take i items) → kept ≡ p (get_or items i 0)
    → next ≡ out ++ cond kept (get_or items i 0 ∷ []) [] → next ≡ filter p (take (i + 1) items)
filter_step p items out next i kept in' so_far same pushed =
    pushed ∙ (λ j. so_far j ++ cond (same j) (get_or items i 0 ∷ []) []) ∙ sym (filter_more p items i 0 in')

-- the place of item `i` of a rising list in `others` is at most that of item `i + 1`
pub after_step : (items others : List ℕ) (i p : ℕ) → IsRising items → i + 1 < length items
    → p ≡ place_of others (get_or items i 0) → p ≤ place_of others (get_or items (i + 1) 0)
after_step items others i p rises in' is =
    omega (
      arith,
      place_grows others (get_or items i 0) (get_or items (i + 1) 0)
          (omega (arith, get_or-rising 0 (2 ^ 32) items i (i + 1) rises (omega arith) in')),
    )
