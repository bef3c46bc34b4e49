-- The set as a bitmap: each operation on bitmaps gives the list that `Sets` defines.
use Rattle.std.proofs.Common.{ℕ, ◌<◌, ◌≡◌, Bool, true, false, not, ◌&&◌, ◌||◌, ltb, List, length, refl, sym, ap, ◌∙◌}
use Rattle.std.proofs.Common.{subst, inl, inr, bit_and, bit_or}
use Rattle.std.specs.Bool.{beq}
use Rattle.std.specs.List.{All, filter, range_with_len}
use Rattle.std.proofs.lemmas.List.Elements.{filter_agree}
use Rattle.std.specs.Simd.Lanes.{zip2}
use Rattle.std.proofs.lemmas.Bool.{lt-ltb, cases_lt}
use Rattle.std.proofs.lemmas.List.{get_or_default}
use Rattle.idset.specs.Sets.{all_items, common_items, other_items}
use Rattle.number_lists.specs.Members.{has}
use Rattle.number_lists.specs.Rising.{IsRisingBelow, numbers_where}
use Rattle.idset.specs.Words.{AreWordsBelow, bit_minus, is_set, MarkedBelow}
use Rattle.idset.proofs.Bits.{and_words_below, and_words_items, minus_words_below, minus_words_items, or_words_below}
use Rattle.idset.proofs.Bits.{or_words_items}
use Rattle.number_lists.proofs.WhereLemmas.{filter-numbers_where, has-numbers_where, has-numbers_where_past}
use Rattle.number_lists.proofs.WhereLemmas.{numbers_where-agree, numbers_where-all}
use Rattle.number_lists.proofs.RisingLemmas.{get_or-below, has-past_bound, numbers_where-rising}
use Rattle.number_lists.proofs.RisingLemmas.{rising_is_numbers_where}

-- if `words` is a bitmap of numbers below `other_bound`, it is one for every equal bound
pub below_too : (bound other_bound : ℕ) (words : List ℕ) → bound ≡ other_bound → AreWordsBelow other_bound words
    → AreWordsBelow bound words
below_too bound other_bound words same below = subst (λ (b : ℕ). AreWordsBelow b words) (sym same) below

-- two bitmaps with equal bounds have equally many words
pub same_words : (bound other_bound : ℕ) (xs ys : List ℕ) → bound ≡ other_bound → AreWordsBelow bound xs
    → AreWordsBelow other_bound ys → length ys ≡ length xs
same_words bound other_bound xs ys same below below' = (below_too bound other_bound ys same below').enough
    ∙ sym below.enough

-- `words` is a bitmap of numbers below `bound`, and `content` is the rising list of the numbers whose bits are set
pub record Holds (bound : ℕ) (words content : List ℕ) : Type 0 where
  -- `words` has as many words as `bound` takes, and no bit from `bound` on is set
  pub held : AreWordsBelow bound words
  -- the numbers whose bits are set rise below `bound`
  pub rising : IsRisingBelow bound (numbers_where bound (is_set words))
  -- the numbers whose bits are set are `content`
  pub items : numbers_where bound (is_set words) ≡ content

-- `zip2 bit_and` of the bitmaps of two sets is the bitmap of their common items
pub holds_and : (bound other_bound : ℕ) (xs ys made : List ℕ) → bound ≡ other_bound → AreWordsBelow bound xs
    → AreWordsBelow other_bound ys → made ≡ zip2 bit_and xs ys
    → Holds bound made (common_items (numbers_where bound (is_set xs)) (numbers_where other_bound (is_set ys)))
holds_and bound other_bound xs ys made same below below' is =
    let too = below_too bound other_bound ys same below' in
    record {
      held = subst (λ (words : List ℕ). AreWordsBelow bound words) (sym is) (and_words_below bound xs ys below too);
      rising = numbers_where-rising bound (is_set made);
      items = (λ i. numbers_where bound (is_set (is i))) ∙ and_words_items bound xs ys below too
          ∙ (λ i. common_items (numbers_where bound (is_set xs)) (numbers_where (same i) (is_set ys)));
    }

-- `zip2 bit_or` of the bitmaps of two sets is the bitmap of their union
pub holds_or : (bound other_bound : ℕ) (xs ys made : List ℕ) → bound ≡ other_bound → AreWordsBelow bound xs
    → AreWordsBelow other_bound ys → made ≡ zip2 bit_or xs ys
    → Holds bound made (all_items bound (numbers_where bound (is_set xs)) (numbers_where other_bound (is_set ys)))
holds_or bound other_bound xs ys made same below below' is =
    let too = below_too bound other_bound ys same below' in
    record {
      held = subst (λ (words : List ℕ). AreWordsBelow bound words) (sym is) (or_words_below bound xs ys below too);
      rising = numbers_where-rising bound (is_set made);
      items = (λ i. numbers_where bound (is_set (is i))) ∙ or_words_items bound xs ys below too
          ∙ (λ i. all_items bound (numbers_where bound (is_set xs)) (numbers_where (same i) (is_set ys)));
    }

-- `zip2 bit_minus` of the bitmaps of two sets is the bitmap of the items of the first that are not in the second
pub holds_minus : (bound other_bound : ℕ) (xs ys made : List ℕ) → bound ≡ other_bound → AreWordsBelow bound xs
    → AreWordsBelow other_bound ys → made ≡ zip2 bit_minus xs ys
    → Holds bound made (other_items (numbers_where bound (is_set xs)) (numbers_where other_bound (is_set ys)))
holds_minus bound other_bound xs ys made same below below' is =
    let too = below_too bound other_bound ys same below' in
    record {
      held = subst (λ (words : List ℕ). AreWordsBelow bound words) (sym is) (minus_words_below bound xs ys below too);
      rising = numbers_where-rising bound (is_set made);
      items = (λ i. numbers_where bound (is_set (is i))) ∙ minus_words_items bound xs ys below too
          ∙ (λ i. other_items (numbers_where bound (is_set xs)) (numbers_where (same i) (is_set ys)));
    }

-- each item of a rising list is below its bound
pub items_below : (bound : ℕ) (items : List ℕ) → IsRisingBelow bound items → All (λ item. item < bound) items
items_below bound items rises k d in' =
    subst (λ (item : ℕ). item < bound) (get_or_default items k 0 d in') (get_or-below 0 bound items k rises in')

-- if the bits of `words` are set for exactly the items of a rising list, the numbers whose bits are set are this
-- list
pub marked_items : (bound : ℕ) (words items : List ℕ) → IsRisingBelow bound items
    → MarkedBelow bound words (has items) → numbers_where bound (is_set words) ≡ items
marked_items bound words items rises marked =
    numbers_where-agree bound (is_set words) (has items) (λ n _. marked.marked n)
    ∙ sym (rising_is_numbers_where bound items rises)

-- if the bits of `words` are set for exactly the numbers that pass `test`, the numbers below `bound` whose bits are
-- set are those that pass `test`
pub marked_numbers : (bound : ℕ) (words : List ℕ) (test : ℕ → Bool) → MarkedBelow bound words test
    → numbers_where bound (is_set words) ≡ numbers_where bound test
marked_numbers bound words test marked = numbers_where-agree bound (is_set words) test (λ n _. marked.marked n)

-- if the bits of `words` are set for exactly the numbers below `bound`, the numbers whose bits are set are the
-- range from 0 to `bound`
pub marked_every : (bound : ℕ) (words : List ℕ) → MarkedBelow bound words (λ n. ltb n bound)
    → numbers_where bound (is_set words) ≡ range_with_len 0 bound
marked_every bound words marked =
    numbers_where-agree bound (is_set words) (λ _. true) (λ n below. marked.marked n ∙ lt-ltb n bound below)
    ∙ numbers_where-all bound

-- if the bits of `items`, a rising list of numbers below `bound`, are set in the bitmap of a set, it is the bitmap
-- of the union
pub holds_more : (bound : ℕ) (words made items : List ℕ) → AreWordsBelow bound words → IsRisingBelow bound items
    → length made ≡ length words → ((n : ℕ) → is_set made n ≡ (is_set words n || has items n))
    → Holds bound made (all_items bound (numbers_where bound (is_set words)) items)
holds_more bound words made items below rises long marked = record {
  held = record {
    enough = long ∙ below.enough;
    clear = λ n past. marked n
        ∙ (λ i. below.clear n past i || has-past_bound 0 bound items n rises past i);
  };
  rising = numbers_where-rising bound (is_set made);
  items = numbers_where-agree bound (is_set made)
      (λ n. has (numbers_where bound (is_set words)) n || has items n)
      (λ n lt. marked n ∙ (λ i. sym (has-numbers_where bound (is_set words) n lt) i || has items n));
}

-- the bit of a number is set exactly if the number is in the list of the numbers below `bound` whose bits are set
pub has_marked : (bound : ℕ) (words : List ℕ) (n : ℕ) → AreWordsBelow bound words
    → is_set words n ≡ has (numbers_where bound (is_set words)) n
has_marked bound words n below =
    elim (cases_lt n bound) [
      | inl lt ↦ sym (has-numbers_where bound (is_set words) n lt)
      | inr past ↦ below.clear n past ∙ sym (has-numbers_where_past bound (is_set words) n past)
    ]

-- if the bits of `items`, a rising list of numbers below `bound`, are cleared in the bitmap of a set, it is the
-- bitmap of the items of the set that are not in `items`
pub holds_less : (bound : ℕ) (words made items : List ℕ) → AreWordsBelow bound words → IsRisingBelow bound items
    → length made ≡ length words → ((n : ℕ) → is_set made n ≡ (is_set words n && not (has items n)))
    → Holds bound made (other_items (numbers_where bound (is_set words)) items)
holds_less bound words made items below rises long marked = record {
  held = record {
    enough = long ∙ below.enough;
    clear = λ n past. marked n
        ∙ (λ i. below.clear n past i && not (has items n));
  };
  rising = numbers_where-rising bound (is_set made);
  items = numbers_where-agree bound (is_set made) (λ n. is_set words n && not (has items n)) (λ n _. marked n)
      ∙ sym (filter-numbers_where bound (is_set words) (λ n. not (has items n)));
}

-- comparing a test with true does not change it
beq_true : (a : Bool) → beq a true ≡ a
beq_true true = refl
beq_true false = refl

-- comparing a test with false is its negation
beq_false : (a : Bool) → beq a false ≡ not a
beq_false true = refl
beq_false false = refl

-- the items of a list whose bits are set in a bitmap are the common items of the list and the bitmap's set
pub kept_common : (bound : ℕ) (words items own kept : List ℕ) → AreWordsBelow bound words → items ≡ own
    → kept ≡ filter (λ n. beq (is_set words n) true) items
    → kept ≡ common_items own (numbers_where bound (is_set words))
kept_common bound words items own kept below same is =
    is ∙ filter_agree (λ n. beq (is_set words n) true) (has (numbers_where bound (is_set words)))
    (λ n. beq_true (is_set words n) ∙ has_marked bound words n below) items
    ∙ ap (filter (has (numbers_where bound (is_set words)))) same

-- the items of a list whose bits are not set in a bitmap are the items of the list that are not in the bitmap's set
pub kept_other : (bound : ℕ) (words items own kept : List ℕ) → AreWordsBelow bound words → items ≡ own
    → kept ≡ filter (λ n. beq (is_set words n) false) items
    → kept ≡ other_items own (numbers_where bound (is_set words))
kept_other bound words items own kept below same is =
    is ∙ filter_agree (λ n. beq (is_set words n) false) (λ n. not (has (numbers_where bound (is_set words)) n))
    (λ n. beq_false (is_set words n) ∙ ap not (has_marked bound words n below)) items
    ∙ ap (filter (λ n. not (has (numbers_where bound (is_set words)) n))) same
