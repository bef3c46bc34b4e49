-- Numbers brought in rising order, each once.
use Rattle.std.proofs.Common.{ℕ, suc, ◌+◌, ◌≡◌, ◌≤◌, ◌<◌, ◌∷◌, [], ◌∙◌, inl, inr}
use Rattle.std.proofs.Common.{true, List, refl, sym, arith}
use Rattle.std.specs.Prelude.{All}
use Rattle.std.proofs.lemmas.Bool.{cases_order, eq-eqb, le-ltb, lt-ltb, ne_eqb}
use Rattle.std.proofs.lemmas.List.Elements.{All-cons, All-head, All-nil, All-tail, All-weaker}
use Rattle.number_lists.specs.Rising.{IsRisingBelow, listed_numbers, rises_within}
use Rattle.number_lists.specs.Members.{has}
use Rattle.number_lists.proofs.RisingLemmas.{rises_from_on, rises_on, rising_is_where}
use Rattle.number_lists.specs.RisingOrder.{put, rising}
use Rattle.number_lists.proofs.RisingOrderLemmas.{has-rising}

-- a number put into a rising list leaves one that rises within the same limits
rises_within-put : (lowest bound id : ℕ) (xs : List ℕ) → lowest ≤ id → id < bound → rises_within lowest bound xs ≡ true
    → rises_within lowest bound (put id xs) ≡ true
rises_within-put lowest bound id [] above below rises = rises_from_on lowest bound id [] above below refl
rises_within-put lowest bound id (x ∷ xs) above below rises =
    let on = rises_on lowest bound x xs rises in
    elim (cases_order id x) [
      | inl same ↦ rw (le-ltb id x (omega arith), eq-eqb id x same) rises
      | inr (inl less) ↦ rw (lt-ltb id x less) (rises_from_on lowest bound id (x ∷ xs) above below
          (rises_from_on (suc id) bound x xs less on.below on.rest))
      | inr (inr more) ↦ rw (le-ltb id x (omega arith), ne_eqb id x (λ same. omega arith))
          (rises_from_on lowest bound x (put id xs) on.above on.below
          (rises_within-put (suc x) bound id xs more below on.rest))
    ]

-- `rising xs` rises and stays below `bound` if all of `xs` are below `bound`
pub rising-rises : (bound : ℕ) (xs : List ℕ) → All (λ id. id < bound) xs → IsRisingBelow bound (rising xs)
rising-rises bound [] below = refl
rising-rises bound (x ∷ xs) below =
    rises_within-put 0 bound x (rising xs) (omega arith) (All-head (λ id. id < bound) x xs below)
    (rising-rises bound xs (All-tail (λ id. id < bound) x xs below))

-- if all of `xs` are below `bound`, `rising xs` is the list of the numbers below `bound` that are in `xs`
pub rising_is_listed : (bound : ℕ) (xs : List ℕ) → All (λ id. id < bound) xs → rising xs ≡ listed_numbers bound xs
rising_is_listed bound xs below = rising_is_where bound (rising xs) (has xs) (rising-rises bound xs below)
    (λ n _. has-rising xs n)

-- there is a bound above all numbers of `xs`
pub some_bound : (xs : List ℕ) → (bound : ℕ) × All (λ id. id < bound) xs
some_bound [] = (0, All-nil (λ id. id < 0))
some_bound (x ∷ xs) =
    let rest = some_bound xs in (
      suc x + rest.0,
      All-cons (λ id. id < suc x + rest.0) x xs (omega arith)
          (All-weaker (λ id. id < rest.0) (λ id. id < suc x + rest.0) (λ id below. omega (arith, below)) xs rest.1),
    )

-- if for each bound above all of `xs` the list `ys` has the numbers below it that are in `xs`, then `ys` is `rising xs`
pub listed_is_rising : (xs ys : List ℕ) → ((bound : ℕ) → All (λ id. id < bound) xs → ys ≡ listed_numbers bound xs)
    → ys ≡ rising xs
listed_is_rising xs ys listed = let bound = some_bound xs in listed bound.0 bound.1
    ∙ sym (rising_is_listed bound.0 xs bound.1)
