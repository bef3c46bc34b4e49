-- Lists in strictly rising order: each number is at one place alone.
use Rattle.std.proofs.Common.{ℕ, inl, inr, ◌==◌, ◌≡◌, ◌<◌, ◌≤◌, ◌-◌, ◌∙◌, List, length, get_or, false, Ok, Err, sym}
use Rattle.std.proofs.Common.{arith, Result, is_ok, nat_cmp, eq-eqb}
use Rattle.std.specs.List.Sorted.{IsBinarySearchResult, IsStrictlyIncreasing}
use Rattle.std.proofs.lemmas.List.Kept.{AllPairs-from_increasing}
use Rattle.std.proofs.lemmas.List.Folds.{list_any_at}
use Rattle.std.proofs.lemmas.List.Sorted.{searched}
use Rattle.std.proofs.lemmas.Map.Keys.{non_decreasing_from_sorted, sorted_from_strictly_increasing}
use Rattle.std.proofs.lemmas.Bool.{cases_lt}
use Rattle.std.proofs.lemmas.List.{get_or_default}
use Rattle.number_lists.specs.Members.{has}
use Rattle.number_lists.proofs.MemberLemmas.{had_not}

-- an item of a strictly rising list is less than a later one
pub earlier_below : (xs : List ℕ) → IsStrictlyIncreasing xs → (j k : ℕ) → j < k → k < length xs
    → get_or xs j 0 < get_or xs k 0
earlier_below xs rising j k before within = AllPairs-from_increasing xs rising j k 0 before within

-- an item of a strictly rising list is at most itself and any later one
pub not_falling : (xs : List ℕ) → IsStrictlyIncreasing xs → (j k : ℕ) → j ≤ k → k < length xs
    → get_or xs j 0 ≤ get_or xs k 0
not_falling xs rising j k before within =
    non_decreasing_from_sorted xs (sorted_from_strictly_increasing xs rising) j k 0 before within

-- if a number is greater than all items before place `i` and less than all items from `i` on, it is not in the list
has-none : (xs : List ℕ) (id i : ℕ) → ((k : ℕ) → k < i → k < length xs → get_or xs k 0 < id)
    → ((k : ℕ) → i ≤ k → k < length xs → id < get_or xs k 0) → has xs id ≡ false
has-none xs id i above below = had_not xs id (λ there.
    let is : get_or xs there.0 0 ≡ id = get_or_default xs there.0 0 id there.1 ∙ there.2 in
    elim (cases_lt there.0 i) [
      | inl before ↦ omega (arith, is, above there.0 before there.1)
      | inr following ↦
          omega (arith, is, below there.0 following there.1)
    ])

-- a binary search in a strictly rising list finds `id` exactly if `id` is in the list
pub has-searched : (xs : List ℕ) → IsStrictlyIncreasing xs → (id : ℕ) (r : Result ℕ ℕ)
    → IsBinarySearchResult (λ y. nat_cmp y id) xs r → is_ok r ≡ has xs id
has-searched xs rising id (Ok i) found =
    grind (
      arith,
      searched xs id (Ok i) found (not_falling xs rising),
      list_any_at (λ other. other == id) xs i 0,
      eq-eqb,
    )
has-searched xs rising id (Err i) found = let at = searched xs id (Err i) found (not_falling xs rising) in
    sym (has-none xs id i (λ k before within. at.1 k before) at.2)

-- if `id` is greater than the item before place `i` of a strictly rising list, and less than the item at `i`, `id`
-- is not in the list
pub has-between : (xs : List ℕ) → IsStrictlyIncreasing xs → (id i : ℕ) → i ≤ length xs
    → (0 < i → get_or xs (i - 1) 0 < id) → (i < length xs → id < get_or xs i 0) → has xs id ≡ false
has-between xs rising id i within above below = has-none xs id i
    (λ k before inside. omega (arith, above (omega arith), not_falling xs rising k (i - 1) (omega arith) (omega arith)))
    (λ k following inside. omega (arith, below (omega arith), not_falling xs rising i k following inside))
