-- The results of the operations on rising lists rise.
use Rattle.std.proofs.Common.{ℕ, ◌≡◌, Bool, true, false, not, ◌&&◌, List, refl, sym, ◌∙◌}
use Rattle.idset.specs.Sets.{common_items, other_items}
use Rattle.idset.proofs.Normal.{common_items-numbers_where}
use Rattle.number_lists.specs.Members.{has}
use Rattle.number_lists.specs.Rising.{IsRisingBelow}
use Rattle.number_lists.proofs.RisingLemmas.{numbers_where-rising, range_rising, rises_within-filter, rising_fits}
use Rattle.number_lists.proofs.RisingLemmas.{rising_is_numbers_where}
use Rattle.number_lists.proofs.WhereLemmas.{numbers_where-agree}

-- the items of a rising list that are also in another list rise
pub common_items-rising : (bound : ℕ) (xs ys : List ℕ) → IsRisingBelow bound xs
    → IsRisingBelow bound (common_items xs ys)
common_items-rising bound xs ys rises = rises_within-filter 0 bound (has ys) xs rises

-- the items of a rising list that are not in another list rise
pub other_items-rising : (bound : ℕ) (xs ys : List ℕ) → IsRisingBelow bound xs → IsRisingBelow bound (other_items xs ys)
other_items-rising bound xs ys rises = rises_within-filter 0 bound (λ n. not (has ys n)) xs rises

-- the common items of two rising lists are the same in either order
pub common_items-swap : (bound : ℕ) (xs ys : List ℕ) → IsRisingBelow bound xs → IsRisingBelow bound ys
    → common_items xs ys ≡ common_items ys xs
common_items-swap bound xs ys rises-x rises-y =
    let of-x = rising_is_numbers_where bound xs rises-x in
    let of-y = rising_is_numbers_where bound ys rises-y in
    (λ i. common_items (of-x i) (of-y i)) ∙ common_items-numbers_where bound (has xs) (has ys)
    ∙ numbers_where-agree bound (λ n. has xs n && has ys n) (λ n. has ys n && has xs n)
    (λ n _. and_swap (has xs n) (has ys n))
    ∙ sym (common_items-numbers_where bound (has ys) (has xs)) ∙ sym (λ i. common_items (of-y i) (of-x i))
  where
    and_swap : (a b : Bool) → (a && b) ≡ (b && a)
    and_swap true true = refl
    and_swap true false = refl
    and_swap false true = refl
    and_swap false false = refl

-- the lemmas on which results of set operations rise
pub ruleset rules_of_rising = (rising_fits, common_items-rising, other_items-rising, numbers_where-rising, range_rising)
