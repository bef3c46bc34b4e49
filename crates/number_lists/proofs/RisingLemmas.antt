-- Rising lists: each is determined by its members, so two rising lists with the same members are equal.
use Rattle.std.proofs.Common.{ℕ, zero, suc, ◌+◌, ◌-◌, ◌<◌, ◌≤◌, ◌≡◌, Bool, true, false, ◌&&◌, ◌||◌, cond, ◌^◌, ltb, leb}
use Rattle.std.proofs.Common.{eqb}
use Rattle.std.proofs.Common.{List, [], ◌∷◌, ◌++◌, length, get_or, refl, sym, ◌∙◌, subst, arith, inl, inr}
use Rattle.std.specs.Prelude.{All}
use Rattle.std.specs.List.{range_with_len, filter}
use Rattle.std.proofs.lemmas.Bool.{lt-ltb, le-leb, eq-eqb, ne_eqb, ltb-true, leb-true, eqb-true, and_parts, and_from}
use Rattle.std.proofs.lemmas.Bool.{cases_lt, or_cases, false≢true}
use Rattle.std.proofs.lemmas.List.{get_or_default}
use Rattle.number_lists.specs.Members.{has}
use Rattle.number_lists.specs.Rising.{rises_within, IsRising, IsRisingBelow, numbers_where}
use Rattle.number_lists.proofs.WhereLemmas.{has-numbers_where, has-numbers_where_past, numbers_where-agree}

-- `item` followed by `items` rises: `item` is at least `lowest` and below `bound`, and `items` rises above `item`,
-- below `bound`
pub record RisesOn (lowest bound item : ℕ) (items : List ℕ) : Type 0 where
  -- the first item is not below `lowest`
  pub above : lowest ≤ item
  -- the first item is below `bound`
  pub below : item < bound
  -- the items after the first rise strictly above it
  pub rest : rises_within (suc item) bound items ≡ true

-- if `item` followed by `items` rises from `lowest` on and below `bound`, `RisesOn` holds of them
pub rises_on : (lowest bound item : ℕ) (items : List ℕ) → rises_within lowest bound (item ∷ items) ≡ true
    → RisesOn lowest bound item items
rises_on lowest bound item items rises =
    let outer = and_parts (leb lowest item) (ltb item bound && rises_within (suc item) bound items) rises in
    let inner = and_parts (ltb item bound) (rises_within (suc item) bound items) outer.1 in
    record { above = leb-true lowest item outer.0; below = ltb-true item bound inner.0; rest = inner.1 }

-- if `item` is at least `lowest` and below `bound`, and `items` rises above it, then `item` followed by `items`
-- rises
pub rises_from_on : (lowest bound item : ℕ) (items : List ℕ) → lowest ≤ item → item < bound
    → rises_within (suc item) bound items ≡ true → rises_within lowest bound (item ∷ items) ≡ true
rises_from_on lowest bound item items above below rest =
    and_from (leb lowest item) (ltb item bound && rises_within (suc item) bound items) (le-leb lowest item above)
    (and_from (ltb item bound) (rises_within (suc item) bound items) (lt-ltb item bound below) rest)

-- a list that rises within limits rises within wider limits
pub rises_within-wider : (lowest bound lower higher : ℕ) (items : List ℕ) → lower ≤ lowest → bound ≤ higher
    → rises_within lowest bound items ≡ true → rises_within lower higher items ≡ true
rises_within-wider lowest bound lower higher [] le le' rises = refl
rises_within-wider lowest bound lower higher (item ∷ items) le le' rises =
    let on = rises_on lowest bound item items rises in
    rises_from_on lower higher item items (omega (arith, on.above)) (omega (arith, on.below))
    (rises_within-wider (suc item) bound (suc item) higher items (omega arith) le' on.rest)

-- a rising list has no number below `lowest`
pub has-below_lowest : (lowest bound : ℕ) (items : List ℕ) (n : ℕ) → rises_within lowest bound items ≡ true → n < lowest
    → has items n ≡ false
has-below_lowest lowest bound [] n rises below = refl
has-below_lowest lowest bound (item ∷ items) n rises below =
    let on = rises_on lowest bound item items rises in
    let apart : eqb item n ≡ false = ne_eqb item n (λ e. omega (arith, on.above)) in
    (λ i. apart i || has-below_lowest (suc item) bound items n on.rest (omega (arith, on.above)) i)

-- a rising list has no number from `bound` on
pub has-past_bound : (lowest bound : ℕ) (items : List ℕ) (n : ℕ) → rises_within lowest bound items ≡ true → bound ≤ n
    → has items n ≡ false
has-past_bound lowest bound [] n rises past = refl
has-past_bound lowest bound (item ∷ items) n rises past =
    let on = rises_on lowest bound item items rises in
    let apart : eqb item n ≡ false = ne_eqb item n (λ e. omega (arith, on.below)) in
    (λ i. apart i || has-past_bound (suc item) bound items n on.rest past i)

-- a member of a rising list is not below `lowest`
lowest_le : (lowest bound : ℕ) (items : List ℕ) (n : ℕ) → rises_within lowest bound items ≡ true → has items n ≡ true
    → lowest ≤ n
lowest_le lowest bound items n rises there =
    elim (cases_lt n lowest) [
      | inl below ↦
          absurd (false≢true (sym (has-below_lowest lowest bound items n rises below) ∙ there))
      | inr above ↦ above
    ]

-- a number equals itself
eqb-same : (n : ℕ) → eqb n n ≡ true
eqb-same n = eq-eqb n n refl

-- if `x` is in a rising list, the first item of this list is at most `x`
first_le : (lowest bound x y : ℕ) (xs ys : List ℕ) → rises_within lowest bound (y ∷ ys) ≡ true
    → has (x ∷ xs) x ≡ has (y ∷ ys) x → y ≤ x
first_le lowest bound x y xs ys rises same =
    let on = rises_on lowest bound y ys rises in
    let there : has (y ∷ ys) x ≡ true = sym same ∙ (λ i. eqb-same x i || has xs x) in
    elim (or_cases (eqb y x) (has ys x) there) [
      | inl here ↦ omega (arith, eqb-true y x here)
      | inr later ↦
          omega (arith, lowest_le (suc y) bound ys x on.rest later)
    ]

-- two rising lists with the same members are equal
pub same_rising : (lowest bound : ℕ) (xs ys : List ℕ) → rises_within lowest bound xs ≡ true
    → rises_within lowest bound ys ≡ true → ((n : ℕ) → has xs n ≡ has ys n) → xs ≡ ys
same_rising lowest bound [] [] rises-x rises-y same = refl
same_rising lowest bound [] (y ∷ ys) rises-x rises-y same =
    absurd (false≢true (same y ∙ (λ i. eqb-same y i || has ys y)))
same_rising lowest bound (x ∷ xs) [] rises-x rises-y same =
    absurd (false≢true (sym (same x) ∙ (λ i. eqb-same x i || has xs x)))
same_rising lowest bound (x ∷ xs) (y ∷ ys) rises-x rises-y same =
    let on-x = rises_on lowest bound x xs rises-x in
    let on-y = rises_on lowest bound y ys rises-y in
    let first : x ≡ y = omega (
      arith,
      first_le lowest bound x y xs ys rises-y (same x),
      first_le lowest bound y x ys xs rises-x
          (sym (same y)),
    ) in
    let rises : rises_within (suc x) bound ys ≡ true =
    subst (λ (z : ℕ). rises_within (suc z) bound ys ≡ true) (sym first) on-y.rest in
    let rest : xs ≡ ys = same_rising (suc x) bound xs ys on-x.rest rises
    (λ n. rest_same lowest bound x y xs ys n first on-x.rest rises (same n)) in
    (λ i. first i ∷ rest i)
  where
    rest_same : (lowest bound x y : ℕ) (xs ys : List ℕ) (n : ℕ) → x ≡ y → rises_within (suc x) bound xs ≡ true
        → rises_within (suc x) bound ys ≡ true → has (x ∷ xs) n ≡ has (y ∷ ys) n → has xs n ≡ has ys n
    rest_same lowest bound x y xs ys n first rises-x rises-y same =
        elim (cases_lt x n) [
          | inl above ↦
              let not-x : eqb x n ≡ false = ne_eqb x n (λ e. omega arith) in
              let not-y : eqb y n ≡ false = ne_eqb y n (λ e. omega arith) in
              sym (λ i. not-x i || has xs n) ∙ same ∙ (λ i. not-y i || has ys n)
          | inr below ↦ has-below_lowest (suc x) bound xs n rises-x (omega arith)
              ∙ sym (has-below_lowest (suc x) bound ys n rises-y (omega arith))
        ]

-- if a list rises within limits, its items that pass a test do
pub rises_within-filter : (lowest bound : ℕ) (p : ℕ → Bool) (xs : List ℕ) → rises_within lowest bound xs ≡ true
    → rises_within lowest bound (filter p xs) ≡ true
rises_within-filter lowest bound p [] rises = refl
rises_within-filter lowest bound p (x ∷ xs) rises =
    let on = rises_on lowest bound x xs rises in
    let kept = rises_within-filter (suc x) bound p xs on.rest in
    elim (p x) as (λ b. rises_within lowest bound (cond b (x ∷ filter p xs) (filter p xs)) ≡ true) [
      | true ↦ rises_from_on lowest bound x (filter p xs) on.above on.below kept
      | false ↦ rises_within-wider (suc x) bound lowest bound (filter p xs) (omega (arith, on.above)) (omega arith) kept
    ]

-- a range rises within limits around it
rises_within-range : (lowest bound low count : ℕ) → lowest ≤ low → low + count ≤ bound
    → rises_within lowest bound (range_with_len low count) ≡ true
rises_within-range lowest bound low zero le le' = refl
rises_within-range lowest bound low (suc count) le le' =
    rises_from_on lowest bound low (range_with_len (low + 1) count) le (omega arith)
    (rises_within-range (suc low) bound (low + 1) count (omega arith) (omega arith))

-- the numbers below `bound` that pass a test rise below `bound`
pub numbers_where-rising : (bound : ℕ) (p : ℕ → Bool) → IsRisingBelow bound (numbers_where bound p)
numbers_where-rising bound p =
    rises_within-filter 0 bound p (range_with_len 0 bound)
    (rises_within-range 0 bound 0 bound (omega arith) (omega arith))

-- a rising list is the numbers below `bound` that are in it
pub rising_is_numbers_where : (bound : ℕ) (items : List ℕ) → IsRisingBelow bound items
    → items ≡ numbers_where bound (has items)
rising_is_numbers_where bound items rises =
    same_rising 0 bound items (numbers_where bound (has items)) rises (numbers_where-rising bound (has items)) (λ n.
    elim (cases_lt n bound) [
      | inl below ↦ sym (has-numbers_where bound (has items) n below)
      | inr past ↦ has-past_bound 0 bound items n rises past ∙ sym (has-numbers_where_past bound (has items) n past)
    ])

-- a rising list whose members below `bound` are those that pass `p` is `numbers_where bound p`
pub rising_is_where : (bound : ℕ) (items : List ℕ) (p : ℕ → Bool) → IsRisingBelow bound items
    → ((n : ℕ) → n < bound → has items n ≡ p n) → items ≡ numbers_where bound p
rising_is_where bound items p rises same = rising_is_numbers_where bound items rises
    ∙ numbers_where-agree bound (has items) p same

-- a rising list up to `middle` followed by a rising list from `middle` on rises
pub rises_within-append : (lowest middle bound : ℕ) (xs ys : List ℕ) → lowest ≤ middle → middle ≤ bound
    → rises_within lowest middle xs ≡ true → rises_within middle bound ys ≡ true
    → rises_within lowest bound (xs ++ ys) ≡ true
rises_within-append lowest middle bound [] ys le le' rises-x rises-y =
    rises_within-wider middle bound lowest bound ys le (omega arith) rises-y
rises_within-append lowest middle bound (x ∷ xs) ys le le' rises-x rises-y =
    let on = rises_on lowest middle x xs rises-x in
    rises_from_on lowest bound x (xs ++ ys) on.above (omega (arith, on.below))
    (rises_within-append (suc x) middle bound xs ys (omega (arith, on.below)) le' on.rest rises-y)

-- a list that rises below a `bound` under 2^32 is a rising list of 32-bit numbers (`IsRising`)
pub rising_fits : (bound : ℕ) (items : List ℕ) → IsRisingBelow bound items → bound < 2 ^ 32 → IsRising items
rising_fits bound items rises small = rises_within-wider 0 bound 0 (2 ^ 32) items (omega arith) (omega arith) rises

-- the range of the numbers below `bound` rises below `bound`
pub range_rising : (bound : ℕ) → IsRisingBelow bound (range_with_len 0 bound)
range_rising bound = rises_within-range 0 bound 0 bound (omega arith) (omega arith)

-- ---- the items of a rising list by their places
-- each item of a rising list is at least `lowest`
pub get_or-above : (lowest bound : ℕ) (items : List ℕ) (k : ℕ) → rises_within lowest bound items ≡ true
    → k < length items → lowest ≤ get_or items k 0
get_or-above lowest bound [] k rises in' = absurd (omega arith)
get_or-above lowest bound (item ∷ items) zero rises in' = (rises_on lowest bound item items rises).above
get_or-above lowest bound (item ∷ items) (suc k) rises in' =
    let on = rises_on lowest bound item items rises in
    omega (arith, on.above, get_or-above (suc item) bound items k on.rest (omega arith))

-- each item of a rising list is below `bound`
pub get_or-below : (lowest bound : ℕ) (items : List ℕ) (k : ℕ) → rises_within lowest bound items ≡ true
    → k < length items → get_or items k 0 < bound
get_or-below lowest bound [] k rises in' = absurd (omega arith)
get_or-below lowest bound (item ∷ items) zero rises in' = (rises_on lowest bound item items rises).below
get_or-below lowest bound (item ∷ items) (suc k) rises in' =
    get_or-below (suc item) bound items k (rises_on lowest bound item items rises).rest (omega arith)

-- an earlier item of a rising list is less than a later one
pub get_or-rising : (lowest bound : ℕ) (items : List ℕ) (j k : ℕ) → rises_within lowest bound items ≡ true → j < k
    → k < length items → get_or items j 0 < get_or items k 0
get_or-rising lowest bound [] j k rises lt in' = absurd (omega arith)
get_or-rising lowest bound (item ∷ items) j zero rises lt in' = absurd (omega arith)
get_or-rising lowest bound (item ∷ items) zero (suc k) rises lt in' =
    get_or-above (suc item) bound items k (rises_on lowest bound item items rises).rest (omega arith)
get_or-rising lowest bound (item ∷ items) (suc j) (suc k) rises lt in' =
    get_or-rising (suc item) bound items j k (rises_on lowest bound item items rises).rest (omega arith) (omega arith)

-- a rising list has at most `bound - lowest` items
pub length-rising : (lowest bound : ℕ) (items : List ℕ) → rises_within lowest bound items ≡ true
    → length items ≤ bound - lowest
length-rising lowest bound [] rises = omega arith
length-rising lowest bound (item ∷ items) rises =
    let on = rises_on lowest bound item items rises in
    omega (arith, on.above, on.below, length-rising (suc item) bound items on.rest)

-- a list that rises below `bound` has at most `bound` items
pub count_fits : (bound : ℕ) (items : List ℕ) → IsRisingBelow bound items → length items ≤ bound
count_fits bound items rises = omega (arith, length-rising 0 bound items rises)

-- all items of a rising list are below `count`
pub all_below : (count : ℕ) (items : List ℕ) → IsRisingBelow count items → All (λ item. item < count) items
all_below count items rises k d within =
    subst (λ (n : ℕ). n < count) (sym (get_or_default items k d 0 within)) (get_or-below 0 count items k rises within)
