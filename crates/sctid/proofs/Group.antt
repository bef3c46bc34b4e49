-- The group of the check digit, its permutation, and the tables that the code keeps of them. A law for all elements
-- is computed, element by element.
use Rattle.std.proofs.Common.{◌≡◌, ℕ, ◌+◌, ◌*◌, ◌/◌, ◌%◌, ◌<◌, Bool, zero, suc, true, ◌==◌, nat_lt, [], slice_index}
use Rattle.std.proofs.Common.{slice_index_or, refl, sym, ap, ◌∙◌, arith}
use Rattle.std.proofs.lemmas.Bool.{agree_below, agree_below_at, eqb-true, ltb-true}
use Rattle.sctid.specs.declared.check.TheConstants.{PRODUCTS, PERMUTATIONS, PAIR_PRODUCTS}
use Rattle.sctid.specs.Identifier.{times, permutation, permuted}

-- whether every number below `n` passes a test
abbrev passes_below : ℕ → (ℕ → Bool) → Bool
passes_below n test = agree_below test (λ _. true) n

-- if every number below `n` passes a test, and `k` is below `n`, `k` passes it
passes_below_at : (n : ℕ) (test : ℕ → Bool) (k : ℕ) → passes_below n test ≡ true → k < n → test k ≡ true
passes_below_at n test k all within = agree_below_at test (λ _. true) n k all within

-- the product of two elements, which are numbers below 10, is an element
pub times-lt : (a b : ℕ) → a < 10 → b < 10 → times a b < 10
times-lt a b a_in b_in =
    let row = passes_below_at 10 (λ x. passes_below 10 (λ y. nat_lt (times x y) 10)) a refl a_in in
    ltb-true _ 10 (passes_below_at 10 (λ y. nat_lt (times a y) 10) b row b_in)

-- the product of elements is associative
pub times_assoc : (a b c : ℕ) → a < 10 → b < 10 → c < 10 → times (times a b) c ≡ times a (times b c)
times_assoc a b c a_in b_in c_in =
    let plane = passes_below_at 10
    (λ x. passes_below 10 (λ y. passes_below 10 (λ z. times (times x y) z == times x (times y z)))) a refl a_in in
    let row = passes_below_at 10 (λ y. passes_below 10 (λ z. times (times a y) z == times a (times y z))) b plane
    b_in in
    eqb-true _ _ (passes_below_at 10 (λ z. times (times a b) z == times a (times b z)) c row c_in)

-- 0 is the unit on the left
pub zero-times : (a : ℕ) → a < 10 → times 0 a ≡ a
zero-times a a_in = eqb-true _ _ (passes_below_at 10 (λ x. times 0 x == x) a refl a_in)

-- 0 is the unit on the right
pub times-zero : (a : ℕ) → a < 10 → times a 0 ≡ a
times-zero a a_in = eqb-true _ _ (passes_below_at 10 (λ x. times x 0 == x) a refl a_in)

-- the permutation takes a digit to a digit
permutation-lt : (digit : ℕ) → digit < 10 → slice_index permutation digit < 10
permutation-lt digit is_digit =
    ltb-true _ 10 (passes_below_at 10 (λ x. nat_lt (slice_index permutation x) 10) digit refl is_digit)

-- a permuted digit is below 10, and so an element
pub permuted-lt : (place digit : ℕ) → digit < 10 → permuted place digit < 10
permuted-lt zero digit is_digit = is_digit
permuted-lt (suc place) digit is_digit =
    permuted-lt place (slice_index permutation digit) (permutation-lt digit is_digit)

-- entry `b` of row `a` of `PRODUCTS` is the product of `a` and `b`
pub table-times : (a b : ℕ) → a < 10 → b < 10 → slice_index (slice_index_or PRODUCTS a []) b ≡ times a b
table-times a b a_in b_in =
    let row = passes_below_at 10 (λ x. passes_below 10 (λ y. slice_index (slice_index_or PRODUCTS x []) y == times x y))
    a refl a_in in
    eqb-true _ _ (passes_below_at 10 (λ y. slice_index (slice_index_or PRODUCTS a []) y == times a y) b row b_in)

-- row `row + 1` of `PERMUTATIONS`, or row 0 after the last, is row `row` with one permutation more
next_row : (row digit : ℕ) → row < 8 → digit < 10
    → slice_index (slice_index_or PERMUTATIONS ((row + 1) % 8) []) digit
    ≡ slice_index (slice_index_or PERMUTATIONS row []) (slice_index permutation digit)
next_row row digit row_in is_digit =
    let all = passes_below_at 8 (λ x. passes_below 10 (λ y. slice_index
    (slice_index_or PERMUTATIONS ((x + 1) % 8) []) y
    == slice_index (slice_index_or PERMUTATIONS x []) (slice_index permutation y))) row refl row_in in
    eqb-true _ _ (passes_below_at 10 (λ y. slice_index (slice_index_or PERMUTATIONS ((row + 1) % 8) []) y
    == slice_index (slice_index_or PERMUTATIONS row []) (slice_index permutation y)) digit all is_digit)

-- entry `digit` of row `place % 8` of `PERMUTATIONS` is `digit`, permuted as at `place`
pub table-permuted : (place digit : ℕ) → digit < 10 → slice_index (slice_index_or PERMUTATIONS (place % 8) []) digit
    ≡ permuted place digit
table-permuted zero digit is_digit =
    eqb-true _ _ (passes_below_at 10 (λ x. slice_index (slice_index_or PERMUTATIONS 0 []) x == x) digit refl is_digit)
table-permuted (suc place) digit is_digit =
    let row_is : suc place % 8 ≡ (place % 8 + 1) % 8 = omega arith in
    ap (λ row. slice_index (slice_index_or PERMUTATIONS row []) digit) row_is
    ∙ next_row (place % 8) digit (omega arith) is_digit
    ∙ table-permuted place (slice_index permutation digit) (permutation-lt digit is_digit)

-- a digit eight places further to the left is permuted to the same digit
pub permuted-eight : (place digit : ℕ) → digit < 10 → permuted (place + 8) digit ≡ permuted place digit
permuted-eight place digit is_digit =
    let row_is : (place + 8) % 8 ≡ place % 8 = omega arith in
    sym (table-permuted (place + 8) digit is_digit)
    ∙ ap (λ row. slice_index (slice_index_or PERMUTATIONS row []) digit) row_is ∙ table-permuted place digit is_digit

-- entry `pair` of row `index` of `PAIR_PRODUCTS` is the product of the two digits of `pair`, permuted: the right
-- one as at place `2 * index`, and the left one as at the next place
pub table-pair : (index pair : ℕ) → index < 4 → pair < 100
    → slice_index (slice_index_or PAIR_PRODUCTS index []) pair
    ≡ times (permuted (2 * index) (pair % 10)) (permuted (2 * index + 1) (pair / 10))
table-pair index pair index_in pair_in =
    let row = passes_below_at 4 (λ x. passes_below 100 (λ y. slice_index (slice_index_or PAIR_PRODUCTS x []) y
    == times (permuted (2 * x) (y % 10)) (permuted (2 * x + 1) (y / 10)))) index refl index_in in
    eqb-true _ _ (passes_below_at 100 (λ y. slice_index (slice_index_or PAIR_PRODUCTS index []) y
    == times (permuted (2 * index) (y % 10)) (permuted (2 * index + 1) (y / 10))) pair row pair_in)
