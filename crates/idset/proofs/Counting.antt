-- Counting ones: a word, a vector of words and a list of words have as many ones as they stand for numbers.
use Rattle.std.proofs.Common.{ℕ, zero, suc, ◌+◌, ◌-◌, ◌*◌, ◌/◌, ◌%◌, ◌<◌, ◌≤◌, ◌≡◌, ◌^◌, Bool, true, false, cond, eqb}
use Rattle.std.proofs.Common.{List, [], ◌∷◌, length, take, get_or, refl, sym, ap, ◌∙◌, arith, map, sum_by, count_ones}
use Rattle.std.proofs.Common.{Fits, w64, length-append, add-zero, zero-add, add_assoc}
use Rattle.std.specs.Int.{bit_at}
use Rattle.std.specs.Int.Count.{ones_step, ones-le}
use Rattle.std.specs.Simd.Lanes.{Each1, chunk, fold_l}
use Rattle.std.proofs.lemmas.List.Sums.{sum_by-cons, sum_by-append}
use Rattle.std.proofs.lemmas.Nat.Bits.{bit_at_lowest, bit_at-suc}
use Rattle.std.proofs.Math.Nat.{pow-suc}
use Rattle.std.proofs.Math.Seq.{take-add}
use Rattle.number_lists.specs.Rising.{numbers_where}
use Rattle.idset.specs.Words.{AreWordsBelow, is_set, numbers_in}
use Rattle.number_lists.proofs.WhereLemmas.{numbers_from, numbers_from-add, numbers_where-skip}

-- ---- a vector
-- if `f` adds numbers within 64 bits, and `g (h x)` is the number of ones of each word `x`, then folding `f` over
-- the mapped words from `a` on gives `a` plus the number of ones of all words
pub vector_sum : (f : ℕ → ℕ → ℕ) (g h : ℕ → ℕ) → ((s x : ℕ) → s + x < 2 ^ 64 → f s x ≡ s + x)
    → ((x : ℕ) → x < 2 ^ 64 → g (h x) ≡ count_ones x) → (a : ℕ) (xs : List ℕ) → Each1 (Fits w64) xs
    → a + 64 * length xs < 2 ^ 64 → fold_l f a (map g (map h xs)) ≡ a + sum_by count_ones xs
vector_sum f g h adds counts a [] fits small = sym (add-zero a)
vector_sum f g h adds counts a (x ∷ xs) fits small =
    let narrow : x < 2 ^ 64 = fits.0.fits in
    let few : count_ones x ≤ 64 = ones-le 64 x narrow in
    let step : f a (g (h x)) ≡ a + count_ones x = (λ i. f a (counts x narrow i))
    ∙ adds a (count_ones x) (omega arith) in
    (λ i. fold_l f (step i) (map g (map h xs)))
    ∙ vector_sum f g h adds counts (a + count_ones x) xs fits.1 (omega arith)
    ∙ add_assoc a (count_ones x) (sum_by count_ones xs)
    ∙ ap (λ n. a + n) (sym (sum_by-cons count_ones x xs))

-- ---- a word
-- a word below 2^0 has no ones
no_ones : (w : ℕ) → w < 2 ^ 0 → 0 ≡ count_ones w
no_ones w small = omega (arith, ones-le 0 w small)

-- the list that holds one item if a bit is 1 is as long as the bit
one_bit : (n : ℕ) → n < 2 → length {A = ℕ} (cond (eqb n 1) (0 ∷ []) []) ≡ n
one_bit zero small = refl
one_bit (suc zero) small = refl
one_bit (suc (suc n)) small = absurd (omega arith)

-- a word below 2^k has as many ones as numbers of the `k` from `low` on pass the test of its bits
bits_counted : (k w low : ℕ) (p : ℕ → Bool) → w < 2 ^ k → ((i : ℕ) → i < k → p (low + i) ≡ eqb (bit_at w i) 1)
    → length (numbers_from low k p) ≡ count_ones w
bits_counted zero w low p small same = no_ones w small
bits_counted (suc k) w low p small same =
    let half : w / 2 < 2 ^ k = omega (arith, pow-suc 2 k) in
    let here : p low ≡ eqb (w % 2) 1 = (λ i. p (sym (add-zero low) i)) ∙ same 0 (omega arith)
    ∙ (λ i. eqb (bit_at_lowest w i) 1) in
    let rest : length (numbers_from (low + 1) k p) ≡ count_ones (w / 2) =
    bits_counted k (w / 2) (low + 1) p half (λ i lt. (λ j. p (place low i j)) ∙ same (suc i) (omega arith)
    ∙ (λ j. eqb (bit_at-suc w i j) 1)) in
    front (p low) low (numbers_from (low + 1) k p)
    ∙ (λ i. length {A = ℕ} (cond (here i) (0 ∷ []) []) + rest i)
    ∙ (λ i. one_bit (w % 2) (omega arith) i + count_ones (w / 2))
    ∙ sym (ones_step w)
  where
    place : (low i : ℕ) → low + 1 + i ≡ low + suc i
    place low i = omega arith

    front : (b : Bool) (x : ℕ) (xs : List ℕ)
        → length (cond b (x ∷ xs) xs) ≡ length {A = ℕ} (cond b (0 ∷ []) []) + length xs
    front true x xs = omega arith
    front false x xs = omega arith

-- `numbers_in first word` has as many items as `word` has ones
pub length-numbers_in : (first word : ℕ) → word < 2 ^ 64 → length (numbers_in first word) ≡ count_ones word
unfolding numbers_in
length-numbers_in first word narrow =
    bits_counted 64 word first (λ number. eqb (bit_at word (number - first)) 1) narrow
    (λ k _ i. eqb (bit_at word (back k i)) 1)
  where
    back : (k : ℕ) → first + k - first ≡ k
    back k = omega arith

-- ---- a list of words
-- words have as many ones as numbers from `low` on pass the test of their bits
words_counted : (words : List ℕ) (low : ℕ) (p : ℕ → Bool) → ((k : ℕ) → get_or words k 0 < 2 ^ 64)
    → ((n : ℕ) → p (low + n) ≡ is_set words n)
    → length (numbers_from low (64 * length words) p) ≡ sum_by count_ones words
words_counted [] low p narrow same = refl
words_counted (word ∷ words) low p narrow same =
    let long : 64 * length (word ∷ words) ≡ 64 + 64 * length words = omega arith in
    (λ i. length (numbers_from low (long i) p))
    ∙ (λ i. length (numbers_from-add low 64 (64 * length words) p i))
    ∙ length-append (numbers_from low 64 p) (numbers_from (low + 64) (64 * length words) p)
    ∙ (λ i. bits_counted 64 word low p (narrow 0) (λ k lt. same k ∙ first word words k lt) i
    + words_counted words (low + 64) p (λ k. narrow (suc k)) (λ n. (λ j. p (add_assoc low 64 n j)) ∙ same (64 + n)
    ∙ later word words n) i)
    ∙ sym (sum_by-cons count_ones word words)
  where
    first : (word : ℕ) (words : List ℕ) (k : ℕ) → k < 64 → is_set (word ∷ words) k ≡ eqb (bit_at word k) 1
    first word words k lt =
        let zeroth : k / 64 ≡ 0 = omega arith in
        let same : k % 64 ≡ k = omega arith in
        (λ i. eqb (bit_at (get_or (word ∷ words) (zeroth i) 0) (same i)) 1)

    later : (word : ℕ) (words : List ℕ) (n : ℕ) → is_set (word ∷ words) (64 + n) ≡ is_set words n
    later word words n =
        let next : (64 + n) / 64 ≡ suc (n / 64) = omega arith in
        let same : (64 + n) % 64 ≡ n % 64 = omega arith in
        (λ i. eqb (bit_at (get_or (word ∷ words) (next i) 0) (same i)) 1)

-- the bitmap of a set has as many ones as the set has numbers
pub length-words : (bound : ℕ) (words : List ℕ) → AreWordsBelow bound words → ((k : ℕ) → get_or words k 0 < 2 ^ 64)
    → sum_by count_ones words ≡ length (numbers_where bound (is_set words))
length-words bound words below narrow =
    sym (words_counted words 0 (is_set words) narrow (λ n. (λ i. is_set words (zero-add n i))))
    ∙ ap length (numbers_where-skip bound (64 * length words) (is_set words) (omega (arith, below.enough))
    (λ n past _. below.clear n past))

-- ---- the whole vectors of a list and the words after them
-- the ones of the first `block` vectors plus those of the next vector are those of the first `block + 1` vectors
pub count_vector_step : (words : List ℕ) (block count more : ℕ) → count ≡ sum_by count_ones (take (block * 16) words)
    → more ≡ sum_by count_ones (chunk (block * 16) 16 words)
    → count + more ≡ sum_by count_ones (take ((block + 1) * 16) words)
count_vector_step words block count more so_far made =
    let end : block * 16 + 16 ≡ (block + 1) * 16 = omega arith in
    (λ i. so_far i + made i) ∙ sym (sum_by-append count_ones (take (block * 16) words) (chunk (block * 16) 16 words))
    ∙ sym (ap (sum_by count_ones) (take-add (block * 16) 16 words)) ∙ (λ i. sum_by count_ones (take (end i) words))

-- words have at most 64 ones each
pub count_le : (words : List ℕ) → ((k : ℕ) → get_or words k 0 < 2 ^ 64) → sum_by count_ones words ≤ 64 * length words
count_le [] narrow = omega arith
count_le (word ∷ words) narrow =
    omega (arith, sum_by-cons count_ones word words, ones-le 64 word (narrow 0), count_le words (λ k. narrow (suc k)))
