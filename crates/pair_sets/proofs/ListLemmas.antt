-- Sums over lists.
use Rattle.std.proofs.Common.{ℕ, ◌+◌, ◌≡◌, ◌<◌, ◌++◌, ◌∷◌, [], ◌∙◌, Bool, true, false, cond, List, length, get_or, take}
use Rattle.std.proofs.Common.{append-nil, ap, arith}
use Rattle.std.specs.Prelude.{filter, min, sum_by}
use Rattle.std.proofs.lemmas.List.Elements.{filter_more}
use Rattle.std.proofs.lemmas.List.Sums.{sum_by_more, sum_by_push}

-- if `sum` is the sum over the first `i` items, limited to `most`, then adding item `i` and limiting again gives that
-- of the first `i + 1`
pub cut_more : (f : ℕ → ℕ) (xs : List ℕ) (i most sum : ℕ) → i < length xs → sum ≡ min (sum_by f (take i xs)) most
    → min (sum + f (get_or xs i 0)) most ≡ min (sum_by f (take (i + 1) xs)) most
cut_more f xs i most sum within so_far = omega (arith, so_far, sum_by_more f xs i 0 within)

-- a sum, cut at `most`, of those of the first i items that pass `one`
module _ (f : ℕ → ℕ) (one : ℕ → Bool) (xs : List ℕ) (i most sum : ℕ) (within : i < length xs) where
  -- the items among the first i + 1 that pass are those among the first i, and item i if it passes
  one_more : (answer : Bool) → one (get_or xs i 0) ≡ answer
      → filter one (take (i + 1) xs) ≡ filter one (take i xs) ++ cond answer (get_or xs i 0 ∷ []) []
  one_more answer told =
      filter_more one xs i 0 within
      ∙ (λ j. filter one (take i xs) ++ cond (told j) (get_or xs i 0 ∷ []) [])

  -- if item i passes, it is added to the sum
  pub kept_more : one (get_or xs i 0) ≡ true → sum ≡ min (sum_by f (filter one (take i xs))) most
      → min (sum + f (get_or xs i 0)) most ≡ min (sum_by f (filter one (take (i + 1) xs))) most
  kept_more told so_far =
      let more : sum_by f (filter one (take (i + 1) xs)) ≡ sum_by f (filter one (take i xs) ++ get_or xs i 0 ∷ []) =
      ap (sum_by f) (one_more true told) in
      omega (arith, so_far, more, sum_by_push f (filter one (take i xs)) (get_or xs i 0))

  -- if item i does not pass, the sum stays
  pub kept_left : one (get_or xs i 0) ≡ false → sum ≡ min (sum_by f (filter one (take i xs))) most
      → sum ≡ min (sum_by f (filter one (take (i + 1) xs))) most
  kept_left told so_far =
      let same : sum_by f (filter one (take (i + 1) xs)) ≡ sum_by f (filter one (take i xs)) =
      ap (sum_by f) (one_more false told ∙ append-nil (filter one (take i xs))) in
      omega (arith, so_far, same)
