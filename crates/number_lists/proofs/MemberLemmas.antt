-- Numbers in a list: whether, and how often.
use Rattle.std.proofs.Common.{ℕ, zero, suc, ◌+◌, ◌==◌, ◌≡◌, ◌≢◌, ◌<◌, ◌↔◌, ◌++◌, ◌∷◌, [], ◌||◌, ⊎_elim, true, false}
use Rattle.std.proofs.Common.{cond, List, length, get_or, take, nat_eq, refl, arith, Contains, eq-eqb, eqb-true}
use Rattle.std.specs.Cmp.{nat_eq_equiv}
use Rattle.std.specs.List.{list_any}
use Rattle.std.proofs.lemmas.Bool.{cases_eq, cases_Bool, or_cases, or_left, or_right}
use Rattle.std.proofs.lemmas.Bool.Decides.{nat_tests}
use Rattle.std.proofs.lemmas.Grind.{common_steps}
use Rattle.std.proofs.lemmas.List.Elements.{Contains-append_right}
use Rattle.std.proofs.lemmas.List.Folds.{list_any-append}
use Rattle.std.proofs.lemmas.List.Sums.{sum_by-append, count_by_more_yes}
use Rattle.number_lists.specs.Members.{has, times}

-- if `has` holds, the list contains the number
pub contains_had : (xs : List ℕ) (x : ℕ) → has xs x ≡ true → Contains xs x
contains_had [] x told = absurd (cc)
contains_had (y ∷ xs) x told = ⊎_elim
    (λ (same : (y == x) ≡ true). (0, omega arith, eqb-true y x same))
    (λ (rest : has xs x ≡ true). Contains-append_right (y ∷ []) xs x (contains_had xs x rest))
    (or_cases (y == x) (has xs x) told)

-- if the list contains a number, `has` holds
pub had_contained : (xs : List ℕ) (x : ℕ) → Contains xs x → has xs x ≡ true
had_contained [] x there = absurd (omega (arith, there.1))
had_contained (y ∷ xs) x (zero, within, is) = or_left (y == x) (has xs x) (eq-eqb y x is)
had_contained (y ∷ xs) x (suc k, within, is) = or_right (y == x) (has xs x) (had_contained xs x (k, omega arith, is))

-- if the list does not contain a number, `has` fails
pub had_not : (xs : List ℕ) (x : ℕ) → (Contains xs x → ⊥) → has xs x ≡ false
had_not xs x none = ⊎_elim (λ (had : has xs x ≡ true). absurd (none (contains_had xs x had)))
    (λ (told : has xs x ≡ false). told) (cases_Bool (has xs x))

-- if `has` fails, the list does not contain the number
pub not_contained : (xs : List ℕ) (x : ℕ) → has xs x ≡ false → Contains xs x → ⊥
not_contained xs x told there = absurd (cc (told, had_contained xs x there))

-- `has xs n` is std's `list_any (nat_eq n) xs`, which compares with the two numbers swapped
pub any-has : (xs : List ℕ) (n : ℕ) → list_any (nat_eq n) xs ≡ has xs n
any-has [] n = refl
any-has (x ∷ xs) n = λ i. nat_eq_equiv.symm n x i || any-has xs n i

-- a number is in two joined lists exactly if it is in one of them
pub has-append : (xs ys : List ℕ) (x : ℕ) → has (xs ++ ys) x ≡ (has xs x || has ys x)
has-append xs ys x = list_any-append (λ y. y == x) xs ys

-- ---- how often
-- a number is as often in two joined lists as in the first and in the second together
pub times-append : (number : ℕ) (xs ys : List ℕ) → times number (xs ++ ys) ≡ times number xs + times number ys
times-append number xs ys = sum_by-append (λ x. cond (x == number) 1 0) xs ys

-- the item at `i` is once more among the first `i + 1` items than among the first `i`
pub times-own : (xs : List ℕ) (i : ℕ) → i < length xs
    → times (get_or xs i 0) (take (i + 1) xs) ≡ times (get_or xs i 0) (take i xs) + 1
times-own xs i within = count_by_more_yes (λ x. x == get_or xs i 0) xs i 0 within
    (eq-eqb (get_or xs i 0) (get_or xs i 0) refl)

-- if `P` holds of `x`, and a number other than `x` is in the list exactly if `P` holds of it, then a number is in
-- the list with `x` at its end exactly if `P` holds of it
pub members-push : (P : ℕ → Type 0) (xs : List ℕ) (x : ℕ) → P x → ((y : ℕ) → y ≢ x → Contains xs y ↔ P y) → (y : ℕ)
    → Contains (xs ++ x ∷ []) y ↔ P y
members-push P xs x own other y = grind (arith, common_steps, nat_tests, ⊎_elim, cases_eq)
