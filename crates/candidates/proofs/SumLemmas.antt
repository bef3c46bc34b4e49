-- Sums over lists of numbers, and over some of them.
use Rattle.std.proofs.Common.{ℕ, zero, suc, ◌+◌, ◌∷◌, [], ◌≡◌, ◌<◌, ◌≤◌, ◌∙◌, inl, inr, Bool, true, false, cond, not}
use Rattle.std.proofs.Common.{List, length, refl, ap, arith}
use Rattle.std.specs.Prelude.{filter, ◌==◌, ◌||◌}
use Rattle.std.specs.List.{range_with_len, sum_by}
use Rattle.std.proofs.lemmas.Bool.{cases_eq, ne_eqb}
use Rattle.std.proofs.lemmas.List.Filters.{sum_by-filter_both}
use Rattle.std.proofs.lemmas.List.Sums.{sum_by-cons}
use Rattle.idset.specs.Sets.{all_items}
use Rattle.number_lists.specs.Members.{has}
use Rattle.number_lists.specs.Rising.{IsRisingBelow, listed_numbers, numbers_where}
use Rattle.number_lists.proofs.WhereLemmas.{numbers_where-none}
use Rattle.number_lists.proofs.RisingLemmas.{rising_is_numbers_where}

-- a sum of zeros is 0
pub no_sum : (numbers : List ℕ) → sum_by (λ n. 0) numbers ≡ 0
no_sum [] = refl
no_sum (n ∷ numbers) = omega (arith, sum_by-cons (λ n. 0) n numbers, no_sum numbers)

-- the sum of `f n + g n` is the sum of `f n` plus the sum of `g n`
pub two_sums : (f g : ℕ → ℕ) (numbers : List ℕ) → sum_by (λ n. f n + g n) numbers ≡ sum_by f numbers + sum_by g numbers
two_sums f g [] = refl
two_sums f g (n ∷ numbers) =
    omega (
      arith,
      sum_by-cons (λ n. f n + g n) n numbers,
      sum_by-cons f n numbers,
      sum_by-cons g n numbers,
      two_sums f g
          numbers,
    )

-- the sum of 1 for each number is the length of the list
pub sum_of_ones : (numbers : List ℕ) → sum_by (λ n. 1) numbers ≡ length numbers
sum_of_ones [] = refl
sum_of_ones (n ∷ numbers) = omega (arith, sum_by-cons (λ n. 1) n numbers, sum_of_ones numbers)

-- the sum over the numbers that pass `p` is at most the sum over all
pub sum_of_some : (f : ℕ → ℕ) (p : ℕ → Bool) (numbers : List ℕ) → sum_by f (filter p numbers) ≤ sum_by f numbers
sum_of_some f p numbers = omega (arith, sum_by-filter_both p (λ n. not (p n)) (λ n. refl) f numbers)

-- the limit of a sum by two others stays if one number is added to its list and to one or both of the others
one_more : (f : ℕ → ℕ) (n : ℕ) (both one other : List ℕ) (in_one in_other : Bool)
    → sum_by f both ≤ sum_by f one + sum_by f other
    → sum_by f (cond (in_one || in_other) (n ∷ both) both) ≤ sum_by f (cond in_one (n ∷ one) one)
    + sum_by f (cond in_other (n ∷ other) other)
one_more f n both one other true true rest =
    omega (arith, sum_by-cons f n both, sum_by-cons f n one, sum_by-cons f n other, rest)
one_more f n both one other true false rest = omega (arith, sum_by-cons f n both, sum_by-cons f n one, rest)
one_more f n both one other false true rest = omega (arith, sum_by-cons f n both, sum_by-cons f n other, rest)
one_more f n both one other false false rest = rest

-- the sum over the numbers that pass `p` or `q` is at most the sum over those that pass `p` plus the sum over those
-- that pass `q`
pub sum_of_either : (f : ℕ → ℕ) (p q : ℕ → Bool) (numbers : List ℕ)
    → sum_by f (filter (λ n. p n || q n) numbers) ≤ sum_by f (filter p numbers) + sum_by f (filter q numbers)
sum_of_either f p q [] = omega arith
sum_of_either f p q (n ∷ numbers) =
    one_more f n (filter (λ n. p n || q n) numbers) (filter p numbers) (filter q numbers) (p n) (q n)
    (sum_of_either f p q numbers)

-- the sum over the union of two sets is at most the sum over one plus the sum over the other
pub sum_of_both : (f : ℕ → ℕ) (bound : ℕ) (items others : List ℕ) → IsRisingBelow bound items
    → IsRisingBelow bound others
    → sum_by f (all_items bound items others) ≤ sum_by f items + sum_by f others
sum_of_both f bound items others rising others_rising =
    omega (
      arith,
      sum_of_either f (has items) (has others) (range_with_len 0 bound),
      ap (sum_by f) (rising_is_numbers_where bound items rising),
      ap (sum_by f) (rising_is_numbers_where bound others others_rising),
    )

-- ---- a number stands at one place of a range at the most
-- a number below `low` is not in a range that begins at `low`
none_before : (n low count : ℕ) → n < low → length (filter (λ m. n == m) (range_with_len low count)) ≡ 0
none_before n low zero less = refl
none_before n low (suc count) less =
    ap (λ (b : Bool). length (cond b (low ∷ filter (λ m. n == m) (range_with_len (low + 1) count))
    (filter (λ m. n == m) (range_with_len (low + 1) count))))
    (ne_eqb n low (λ same. omega (arith, same, less)))
    ∙ none_before n (low + 1) count (omega (arith, less))

-- a range has a number at most once
one_at_most : (n low count : ℕ) → length (filter (λ m. n == m) (range_with_len low count)) ≤ 1
one_at_most n low zero = omega arith
one_at_most n low (suc count) = elim (cases_eq n low) [
  | inl same ↦ omega (arith, one_more (n == low) low rest, none_before n (low + 1) count (omega (arith, same)))
  | inr other ↦
      omega (
        arith,
        one_at_most n (low + 1) count,
        ap (λ (b : Bool). length (cond b (low ∷ rest) rest)) (ne_eqb n low other),
      )
]
  where
    rest : List ℕ
    rest = filter (λ m. n == m) (range_with_len (low + 1) count)

    one_more : (b : Bool) (x : ℕ) (xs : List ℕ) → length (cond b (x ∷ xs) xs) ≤ 1 + length xs
    one_more true x xs = omega arith
    one_more false x xs = omega arith

-- the set of the numbers of a list that are below `bound` is at most as long as the list
pub listed_few : (bound : ℕ) (numbers : List ℕ) → length (listed_numbers bound numbers) ≤ length numbers
listed_few bound [] = omega (arith, ap (λ (xs : List ℕ). length xs) (numbers_where-none bound))
listed_few bound (n ∷ numbers) =
    omega (
      arith,
      sum_of_either (λ m. 1) (λ m. n == m) (has numbers) (range_with_len 0 bound),
      sum_of_ones (numbers_where bound (has (n ∷ numbers))),
      sum_of_ones (numbers_where bound (λ m. n == m)),
      sum_of_ones (numbers_where bound (has numbers)),
      one_at_most n 0 bound,
      listed_few bound numbers,
    )
