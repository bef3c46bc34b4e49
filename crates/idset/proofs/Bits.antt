-- Bitmaps: the numbers whose bits are set after an operation on two bitmaps.
use Rattle.std.proofs.Common.{ℕ, zero, suc, ◌+◌, ◌*◌, ◌/◌, ◌%◌, ◌<◌, ◌≤◌, ◌≡◌, min, max, Bool, false, not, ◌&&◌, ◌||◌}
use Rattle.std.proofs.Common.{eqb, List, length, get_or, refl, sym, ◌∙◌, arith, inl, inr, bit_and, bit_or, bit_xor}
use Rattle.std.specs.Int.{bit_at}
use Rattle.std.specs.Simd.Lanes.{zip2}
use Rattle.std.proofs.lemmas.Bool.{cases_lt}
use Rattle.std.proofs.lemmas.List.{get_or_past}
use Rattle.std.proofs.lemmas.Nat.Bits.{bit_at_and, bit_at_or, bit_at_xor, bit_at-lt, bit_at-zero}
use Rattle.std.proofs.lemmas.Simd.{get_or-zip2, length-zip2}
use Rattle.idset.specs.Sets.{all_items, common_items, other_items}
use Rattle.number_lists.specs.Rising.{numbers_where}
use Rattle.idset.specs.Words.{AreWordsBelow, bit_minus, is_set}
use Rattle.idset.proofs.Normal.{all_items-numbers_where, common_items-numbers_where, other_items-numbers_where}
use Rattle.number_lists.proofs.WhereLemmas.{numbers_where-agree}

-- ---- each operation on words, bit by bit
-- the lesser of two bits is 1 exactly if both are
min_one : (x y : ℕ) → x < 2 → y < 2 → eqb (min x y) 1 ≡ (eqb x 1 && eqb y 1)
min_one zero zero small small' = refl
min_one zero (suc zero) small small' = refl
min_one (suc zero) zero small small' = refl
min_one (suc zero) (suc zero) small small' = refl
min_one x (suc (suc y)) small small' = absurd (omega arith)
min_one (suc (suc x)) y small small' = absurd (omega arith)

-- the greater of two bits is 1 exactly if one of them is
max_one : (x y : ℕ) → x < 2 → y < 2 → eqb (max x y) 1 ≡ (eqb x 1 || eqb y 1)
max_one zero zero small small' = refl
max_one zero (suc zero) small small' = refl
max_one (suc zero) zero small small' = refl
max_one (suc zero) (suc zero) small small' = refl
max_one x (suc (suc y)) small small' = absurd (omega arith)
max_one (suc (suc x)) y small small' = absurd (omega arith)

-- the lesser of a bit and its sum with another, modulo 2, is 1 exactly if the bit is 1 and the other is 0
without_one : (x y : ℕ) → x < 2 → y < 2 → eqb (min x ((x + y) % 2)) 1 ≡ (eqb x 1 && not (eqb y 1))
without_one zero zero small small' = refl
without_one zero (suc zero) small small' = refl
without_one (suc zero) zero small small' = refl
without_one (suc zero) (suc zero) small small' = refl
without_one x (suc (suc y)) small small' = absurd (omega arith)
without_one (suc (suc x)) y small small' = absurd (omega arith)

-- bit `i` of `bit_and a b` is set exactly if it is set in both words
and_bit : (a b i : ℕ) → eqb (bit_at (bit_and a b) i) 1 ≡ (eqb (bit_at a i) 1 && eqb (bit_at b i) 1)
and_bit a b i = (λ j. eqb (bit_at_and a b i j) 1) ∙ min_one (bit_at a i) (bit_at b i) (bit_at-lt a i) (bit_at-lt b i)

-- bit `i` of `bit_or a b` is set exactly if it is set in one of the words
or_bit : (a b i : ℕ) → eqb (bit_at (bit_or a b) i) 1 ≡ (eqb (bit_at a i) 1 || eqb (bit_at b i) 1)
or_bit a b i = (λ j. eqb (bit_at_or a b i j) 1) ∙ max_one (bit_at a i) (bit_at b i) (bit_at-lt a i) (bit_at-lt b i)

-- bit `i` of `bit_minus a b` is set exactly if it is set in `a` and not in `b`
minus_bit : (a b i : ℕ) → eqb (bit_at (bit_minus a b) i) 1 ≡ (eqb (bit_at a i) 1 && not (eqb (bit_at b i) 1))
minus_bit a b i =
    (λ j. eqb (bit_at_and a (bit_xor a b) i j) 1) ∙ (λ j. eqb (min (bit_at a i) (bit_at_xor a b i j)) 1)
    ∙ without_one (bit_at a i) (bit_at b i) (bit_at-lt a i) (bit_at-lt b i)

-- ---- each operation on lists of words, number by number
-- if `f` acts on each bit as `g`, `zip2 f` acts on each number of two equally long lists of words as `g`
is_set-zip2 : (f : ℕ → ℕ → ℕ) (g : Bool → Bool → Bool)
    → ((a b i : ℕ) → eqb (bit_at (f a b) i) 1 ≡ g (eqb (bit_at a i) 1) (eqb (bit_at b i) 1)) → g false false ≡ false
    → (xs ys : List ℕ) → length xs ≡ length ys → (n : ℕ) → is_set (zip2 f xs ys) n ≡ g (is_set xs n) (is_set ys n)
is_set-zip2 f g each none xs ys long n =
    elim (cases_lt (n / 64) (length xs)) [
      | inl in' ↦ (λ i. eqb (bit_at (get_or-zip2 f xs ys (n / 64) 0 0 0 in' (omega arith) i) (n % 64)) 1)
          ∙ each (get_or xs (n / 64) 0) (get_or ys (n / 64) 0) (n % 64)
      | inr past ↦
          past_end (zip2 f xs ys) n (omega (arith, length-zip2 f xs ys long)) ∙ sym none
          ∙ sym (λ i. g (past_end xs n past i) (past_end ys n (omega arith) i))
    ]
  where
    past_end : (words : List ℕ) (n : ℕ) → length words ≤ n / 64 → is_set words n ≡ false
    past_end words n past = (λ i. eqb (bit_at (get_or_past words (n / 64) 0 past i) (n % 64)) 1)
        ∙ (λ i. eqb (bit_at-zero (n % 64) i) 1)

-- the bit of a number after the last word is not set
pub is_set-past : (words : List ℕ) (n : ℕ) → 64 * length words ≤ n → is_set words n ≡ false
is_set-past words n past = (λ i. eqb (bit_at (get_or_past words (n / 64) 0 (omega arith) i) (n % 64)) 1)
    ∙ (λ i. eqb (bit_at-zero (n % 64) i) 1)

-- the bit of a number is set in `zip2 bit_and` of two bitmaps exactly if it is set in both
pub is_set-and : (xs ys : List ℕ) → length xs ≡ length ys → (n : ℕ)
    → is_set (zip2 bit_and xs ys) n ≡ (is_set xs n && is_set ys n)
is_set-and xs ys long n = is_set-zip2 bit_and (λ a b. a && b) and_bit refl xs ys long n

-- the bit of a number is set in `zip2 bit_or` of two bitmaps exactly if it is set in one of them
pub is_set-or : (xs ys : List ℕ) → length xs ≡ length ys → (n : ℕ)
    → is_set (zip2 bit_or xs ys) n ≡ (is_set xs n || is_set ys n)
is_set-or xs ys long n = is_set-zip2 bit_or (λ a b. a || b) or_bit refl xs ys long n

-- the bit of a number is set in `zip2 bit_minus` of two bitmaps exactly if it is set in `xs` and not in `ys`
pub is_set-minus : (xs ys : List ℕ) → length xs ≡ length ys → (n : ℕ)
    → is_set (zip2 bit_minus xs ys) n ≡ (is_set xs n && not (is_set ys n))
is_set-minus xs ys long n = is_set-zip2 bit_minus (λ a b. a && not b) minus_bit refl xs ys long n

-- ---- the operations on words are the operations on sets
-- two lists of words of one bound are equally long
same_length : (bound : ℕ) (xs ys : List ℕ) → AreWordsBelow bound xs → AreWordsBelow bound ys → length xs ≡ length ys
same_length bound xs ys below below' = below.enough ∙ sym below'.enough

-- `zip2 bit_and` of two bitmaps of numbers below `bound` is a bitmap of numbers below `bound`
pub and_words_below : (bound : ℕ) (xs ys : List ℕ) → AreWordsBelow bound xs → AreWordsBelow bound ys
    → AreWordsBelow bound (zip2 bit_and xs ys)
and_words_below bound xs ys below below' = record {
  enough = length-zip2 bit_and xs ys (same_length bound xs ys below below') ∙ below.enough;
  clear = λ n past. is_set-and xs ys (same_length bound xs ys below below') n
      ∙ (λ i. below.clear n past i && is_set ys n);
}

-- `zip2 bit_or` of two bitmaps of numbers below `bound` is a bitmap of numbers below `bound`
pub or_words_below : (bound : ℕ) (xs ys : List ℕ) → AreWordsBelow bound xs → AreWordsBelow bound ys
    → AreWordsBelow bound (zip2 bit_or xs ys)
or_words_below bound xs ys below below' = record {
  enough = length-zip2 bit_or xs ys (same_length bound xs ys below below') ∙ below.enough;
  clear = λ n past. is_set-or xs ys (same_length bound xs ys below below') n
      ∙ (λ i. below.clear n past i || below'.clear n past i);
}

-- `zip2 bit_minus` of two bitmaps of numbers below `bound` is a bitmap of numbers below `bound`
pub minus_words_below : (bound : ℕ) (xs ys : List ℕ) → AreWordsBelow bound xs → AreWordsBelow bound ys
    → AreWordsBelow bound (zip2 bit_minus xs ys)
minus_words_below bound xs ys below below' = record {
  enough = length-zip2 bit_minus xs ys (same_length bound xs ys below below') ∙ below.enough;
  clear = λ n past. is_set-minus xs ys (same_length bound xs ys below below') n
      ∙ (λ i. below.clear n past i && not (is_set ys n));
}

-- the numbers whose bits are set in `zip2 bit_and` of the bitmaps of two sets are the common items of both sets
pub and_words_items : (bound : ℕ) (xs ys : List ℕ) → AreWordsBelow bound xs → AreWordsBelow bound ys
    → numbers_where bound (is_set (zip2 bit_and xs ys))
    ≡ common_items (numbers_where bound (is_set xs)) (numbers_where bound (is_set ys))
and_words_items bound xs ys below below' =
    numbers_where-agree bound (is_set (zip2 bit_and xs ys)) (λ n. is_set xs n && is_set ys n)
    (λ n _. is_set-and xs ys (same_length bound xs ys below below') n)
    ∙ sym (common_items-numbers_where bound (is_set xs) (is_set ys))

-- the numbers whose bits are set in `zip2 bit_or` of the bitmaps of two sets are the union of both sets
pub or_words_items : (bound : ℕ) (xs ys : List ℕ) → AreWordsBelow bound xs → AreWordsBelow bound ys
    → numbers_where bound (is_set (zip2 bit_or xs ys))
    ≡ all_items bound (numbers_where bound (is_set xs)) (numbers_where bound (is_set ys))
or_words_items bound xs ys below below' =
    numbers_where-agree bound (is_set (zip2 bit_or xs ys)) (λ n. is_set xs n || is_set ys n)
    (λ n _. is_set-or xs ys (same_length bound xs ys below below') n)
    ∙ sym (all_items-numbers_where bound (is_set xs) (is_set ys))

-- the numbers whose bits are set in `zip2 bit_minus` of the bitmaps of two sets are the items of the first set that
-- are not in the second
pub minus_words_items : (bound : ℕ) (xs ys : List ℕ) → AreWordsBelow bound xs → AreWordsBelow bound ys
    → numbers_where bound (is_set (zip2 bit_minus xs ys))
    ≡ other_items (numbers_where bound (is_set xs)) (numbers_where bound (is_set ys))
minus_words_items bound xs ys below below' =
    numbers_where-agree bound (is_set (zip2 bit_minus xs ys)) (λ n. is_set xs n && not (is_set ys n))
    (λ n _. is_set-minus xs ys (same_length bound xs ys below below') n)
    ∙ sym (other_items-numbers_where bound (is_set xs) (is_set ys))
