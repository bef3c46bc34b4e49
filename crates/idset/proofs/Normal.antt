-- The operations on sets of the form `numbers_where bound test`: the numbers below a bound that pass a test.
use Rattle.std.proofs.Common.{ℕ, ◌≡◌, Bool, true, false, not, ◌&&◌, ◌||◌, List, refl, sym, ap, ◌∙◌}
use Rattle.idset.specs.Sets.{common_items, other_items, all_items, missing_numbers}
use Rattle.number_lists.specs.Members.{has}
use Rattle.number_lists.specs.Rising.{numbers_where}
use Rattle.number_lists.proofs.WhereLemmas.{filter-numbers_where, has-numbers_where, numbers_where-agree}

-- the common items of `numbers_where bound p` and `numbers_where bound q` are the numbers below `bound` that pass
-- both tests
pub common_items-numbers_where : (bound : ℕ) (p q : ℕ → Bool)
    → common_items (numbers_where bound p) (numbers_where bound q) ≡ numbers_where bound (λ n. p n && q n)
common_items-numbers_where bound p q =
    filter-numbers_where bound p (has (numbers_where bound q))
    ∙ numbers_where-agree bound (λ n. p n && has (numbers_where bound q) n) (λ n. p n && q n)
    (λ n below. ap (λ b. p n && b) (has-numbers_where bound q n below))

-- the items of `numbers_where bound p` that are not in `numbers_where bound q` are the numbers below `bound` that
-- pass `p` and not `q`
pub other_items-numbers_where : (bound : ℕ) (p q : ℕ → Bool)
    → other_items (numbers_where bound p) (numbers_where bound q) ≡ numbers_where bound (λ n. p n && not (q n))
other_items-numbers_where bound p q =
    filter-numbers_where bound p (λ n. not (has (numbers_where bound q) n))
    ∙ numbers_where-agree bound (λ n. p n && not (has (numbers_where bound q) n)) (λ n. p n && not (q n))
    (λ n below. ap (λ b. p n && not b) (has-numbers_where bound q n below))

-- the union of `numbers_where bound p` and `numbers_where bound q` is the numbers below `bound` that pass one of
-- the tests
pub all_items-numbers_where : (bound : ℕ) (p q : ℕ → Bool)
    → all_items bound (numbers_where bound p) (numbers_where bound q) ≡ numbers_where bound (λ n. p n || q n)
all_items-numbers_where bound p q =
    numbers_where-agree bound (λ n. has (numbers_where bound p) n || has (numbers_where bound q) n)
    (λ n. p n || q n) (λ n below i. has-numbers_where bound p n below i || has-numbers_where bound q n below i)

-- the numbers below `bound` that are not in `numbers_where bound p` are those that do not pass `p`
pub missing_numbers-numbers_where : (bound : ℕ) (p : ℕ → Bool)
    → missing_numbers bound (numbers_where bound p) ≡ numbers_where bound (λ n. not (p n))
missing_numbers-numbers_where bound p =
    numbers_where-agree bound (λ n. not (has (numbers_where bound p) n)) (λ n. not (p n))
    (λ n below i. not (has-numbers_where bound p n below i))

-- the union of two lists is the same in either order
pub all_items-swap : (bound other_bound : ℕ) (xs ys : List ℕ) → bound ≡ other_bound
    → all_items other_bound ys xs ≡ all_items bound xs ys
all_items-swap bound other_bound xs ys same =
    (λ i. all_items (sym same i) ys xs)
    ∙ numbers_where-agree bound (λ n. has ys n || has xs n) (λ n. has xs n || has ys n)
    (λ n _. or_swap (has ys n) (has xs n))
  where
    or_swap : (a b : Bool) → (a || b) ≡ (b || a)
    or_swap true true = refl
    or_swap true false = refl
    or_swap false true = refl
    or_swap false false = refl
