-- Lists, all or some of whose items pass.
use Rattle.std.proofs.Common.{ℕ, ◌≡◌, ◌<◌, ◌∙◌, ◌∷◌, [], Bool, true, false, ◌&&◌, ◌||◌, List, length, get_or}
use Rattle.std.proofs.Common.{take, zero, suc, refl, ap, arith}
use Rattle.std.specs.List.{list_all, list_any}

-- all of the first `k + 1` items pass exactly if all of the first `k` pass and item `k` passes
pub all_take : {X : Type 0} (test : X → Bool) (xs : List X) (k : ℕ) (d : X) → k < length xs
    → list_all test (take (suc k) xs) ≡ (list_all test (take k xs) && test (get_or xs k d))
all_take test [] k d within = absurd (omega (arith, within))
all_take test (x ∷ xs) zero d within = elim (test x) as (λ b. (b && true) ≡ (true && b)) [ true ↦ refl | false ↦ refl ]
all_take test (x ∷ xs) (suc k) d within =
    ap (λ (b : Bool). test x && b) (all_take test xs k d (omega (arith, within)))
    ∙ assoc (test x) (list_all test (take k xs)) (test (get_or xs k d))
  where
    assoc : (a b c : Bool) → (a && (b && c)) ≡ ((a && b) && c)
    assoc true b c = refl
    assoc false b c = refl

-- one of the first `k + 1` items passes exactly if one of the first `k` passes or item `k` passes
pub any_take : {X : Type 0} (test : X → Bool) (xs : List X) (k : ℕ) (d : X) → k < length xs
    → list_any test (take (suc k) xs) ≡ (list_any test (take k xs) || test (get_or xs k d))
any_take test [] k d within = absurd (omega (arith, within))
any_take test (x ∷ xs) zero d within =
    elim (test x) as (λ b. (b || false) ≡ (false || b)) [ true ↦ refl | false ↦ refl ]
any_take test (x ∷ xs) (suc k) d within =
    ap (λ (b : Bool). test x || b) (any_take test xs k d (omega (arith, within)))
    ∙ assoc (test x) (list_any test (take k xs)) (test (get_or xs k d))
  where
    assoc : (a b c : Bool) → (a || (b || c)) ≡ ((a || b) || c)
    assoc true b c = refl
    assoc false b c = refl
