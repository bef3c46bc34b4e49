-- Which values pass a test, by their numbers.
use Rattle.std.proofs.Common.{ℕ, ℤ, pos, negsuc, zero, suc, ◌≡◌, ◌<◌, ◌≤◌, ◌+◌, ◌-◌, ◌==◌, ◌∙◌, ◌∷◌, ◌++◌, [], inl, inr}
use Rattle.std.proofs.Common.{leb, ltb, arith, None}
use Rattle.std.proofs.Common.{Bool, true, false, not, ◌&&◌, ◌||◌, cond, List, length, get_or, map, refl, sym, ap}
use Rattle.std.specs.Prelude.{All, int_le, int_lt, slice_index}
use Rattle.std.specs.declared.cmp.Ordering.{Ordering}
use Rattle.std.specs.declared.cmp.Ordering.TheVariants.{Less, Equal, Greater}
use Rattle.std.specs.Ordering.{int_cmp, is_eq, is_ge, is_gt, is_le, is_lt, is_ne}
use Rattle.std.specs.List.Sorted.{IsStrictlyIncreasing}
use Rattle.std.proofs.lemmas.Bool.{cases_lt, le-leb, le-ltb, lt-leb, lt-ltb, ne_eqb}
use Rattle.std.proofs.lemmas.List.{get_or-append_right, length-map}
use Rattle.std.proofs.lemmas.List.Elements.{All-append, All-map, All-tail}
use Rattle.std.proofs.Math.Bool.{and-false}
use Rattle.number_lists.specs.Members.{has}
use Rattle.constraint_tree.specs.declared.operator.Compare.{Compare}
use Rattle.constraint_tree.specs.declared.operator.Compare.TheVariants as comparison
use Rattle.constraint_tree.specs.Passing.{compares, is_number_that, is_outside, is_within}
use Rattle.release_model.specs.Release.{Value, concept_value, number_value, text_value}
use Rattle.held_release.specs.Numbering.{concept_number}
use Rattle.postings.specs.Indexed.{Indexed, value_at, values_among, values_of}
use Rattle.held_release.proofs.ValueLemmas.{concept_at, decimal_at, value_after}
use Rattle.pair_sets.specs.inside.Hits.{value_of}
use Rattle.candidates.specs.Numbers.{is_one_of}
use Rattle.pair_sets.specs.Tested.{meets}
use Rattle.number_lists.proofs.ListLemmas.{any_agree}
use Rattle.candidates.proofs.Normal.{concept_number-None, same_by_number}

-- ---- a concept by its number
-- the concept with the number `n` is one of `items` exactly if `items` contains `n`
pub one_by_number : (concepts : List ℕ) → IsStrictlyIncreasing concepts → (items : List ℕ)
    → All (λ item. item < length concepts) items
    → (n : ℕ) → n < length concepts → is_one_of concepts items (get_or concepts n 0) ≡ has items n
one_by_number concepts rising items below n within =
    any_agree items (λ m. slice_index concepts m == get_or concepts n 0) (λ m. m == n) 0
    (λ k there. same_by_number concepts rising (get_or items k 0) n (below k 0 there) within)

-- an identifier without a number is none of `items`
pub none_by_number : (concepts : List ℕ) (items : List ℕ) → All (λ item. item < length concepts) items → (id : ℕ)
    → concept_number concepts id ≡ None
    → is_one_of concepts items id ≡ false
none_by_number concepts [] below id at = refl
none_by_number concepts (item ∷ items) below id at =
    (λ i. ne_eqb (get_or concepts item 0) id (λ same. concept_number-None concepts id at item (below 0 0 (omega arith))
    same) i || is_one_of concepts items id)
    ∙ none_by_number concepts items (All-tail (λ x. x < length concepts) item items below) id at

-- if `items` are below `bound`, they do not contain a number `n` at or above it
pub none_past : (bound : ℕ) (items : List ℕ) → All (λ item. item < bound) items → (n : ℕ) → bound ≤ n
    → has items n ≡ false
none_past bound [] below n past = refl
none_past bound (item ∷ items) below n past =
    let first : item < bound = below 0 0 (omega arith) in
    (λ i. ne_eqb item n (λ same. absurd (omega (arith, first, past, same))) i || has items n)
    ∙ none_past bound items (All-tail (λ x. x < bound) item items below) n past

-- ---- values that are no concepts
-- if no item of a list passes, nor the default, the item at a place does not pass
none_at : {X : Type 0} (test : X → Bool) (xs : List X) → All (λ x. test x ≡ false) xs → (d : X) → test d ≡ false
    → (k : ℕ) → test (get_or xs k d) ≡ false
none_at test [] none d last k = last
none_at test (x ∷ xs) none d last zero = none 0 x (omega arith)
none_at test (x ∷ xs) none d last (suc k) = none_at test xs (All-tail (λ y. test y ≡ false) x xs none) d last k

module _ (test : Value → Bool) (no_text : (text : List ℕ) → test (text_value text) ≡ false) where
  -- if no text passes, the values of texts do not pass
  texts_fail : (texts : List (List ℕ)) → All (λ value. test value ≡ false) (map text_value texts)
  texts_fail texts = All-map (λ value. test value ≡ false) text_value texts (λ k d within. no_text (get_or texts k d))

  -- if no decimal and no text passes, no value with a number at or above the number of concepts passes
  pub after_fails : (concepts : List ℕ) (decimals : List ℤ) (texts : List (List ℕ))
      → ((decimal : ℤ) → test (number_value decimal) ≡ false)
      → (n : ℕ) → length concepts ≤ n → test (value_at (values_among concepts decimals texts) n) ≡ false
  after_fails [] decimals texts no_decimal n past =
      none_at test (map number_value decimals ++ map text_value texts)
      (All-append (λ value. test value ≡ false) (map number_value decimals) (map text_value texts)
      (All-map (λ value. test value ≡ false) number_value decimals (λ k d within. no_decimal (get_or decimals k d)))
      (texts_fail texts))
      (text_value []) (no_text []) n
  after_fails (concept ∷ concepts) decimals texts no_decimal zero past = absurd (omega (arith, past))
  after_fails (concept ∷ concepts) decimals texts no_decimal (suc n) past =
      after_fails concepts decimals texts no_decimal n (omega (arith, past))

-- ---- the tests
module _ (indexed : Indexed) (rising : IsStrictlyIncreasing indexed.concepts) where
  -- the value with a number
  abbrev pub value : ℕ → Value
  value n = value_at (values_of indexed) n

  -- the value with the number of a concept is the concept
  concept_here : (n : ℕ) → n < length indexed.concepts → value n ≡ concept_value (get_or indexed.concepts n 0)
  concept_here n within = concept_at indexed.concepts indexed.decimals indexed.texts n (text_value []) within

  -- `items` contains `n` exactly if the value with the number `n` is one of these concepts
  pub within_told : (items : List ℕ) → All (λ item. item < length indexed.concepts) items
      → (n : ℕ) → has items n ≡ is_within (is_one_of indexed.concepts items) (value n)
  within_told items below n = elim (cases_lt n (length indexed.concepts)) [
    | inl within ↦ sym (ap (is_within (is_one_of indexed.concepts items)) (concept_here n within)
        ∙ one_by_number indexed.concepts rising items below n within)
    | inr past ↦ none_past (length indexed.concepts) items below n past
        ∙ sym (after_fails (is_within (is_one_of indexed.concepts items)) (λ text. refl)
        indexed.concepts indexed.decimals indexed.texts (λ decimal. refl) n past)
  ]

  -- `n` is a concept that is not in `items` exactly if the value with the number `n` is a concept outside the set
  pub outside_told : (items : List ℕ) → All (λ item. item < length indexed.concepts) items
      → (n : ℕ) → (ltb n (length indexed.concepts) && not (has items n))
      ≡ is_outside (is_one_of indexed.concepts items) (value n)
  outside_told items below n = elim (cases_lt n (length indexed.concepts)) [
    | inl within ↦ (λ i. lt-ltb n (length indexed.concepts) within i && not (has items n))
        ∙ sym (ap (is_outside (is_one_of indexed.concepts items)) (concept_here n within)
        ∙ ap not (one_by_number indexed.concepts rising items below n within))
    | inr past ↦ (λ i. le-ltb n (length indexed.concepts) past i && not (has items n))
        ∙ sym (after_fails (is_outside (is_one_of indexed.concepts items)) (λ text. refl)
        indexed.concepts indexed.decimals indexed.texts (λ decimal. refl) n past)
  ]

-- ---- how numbers compare
-- a natural number is at most another exactly if the other is not below it
not_less : (a b : ℕ) → leb a b ≡ not (ltb b a)
not_less a b = elim (cases_lt b a) [
  | inl less ↦ lt-leb a b less ∙ ap not (sym (lt-ltb b a less))
  | inr past ↦ le-leb a b past ∙ ap not (sym (le-ltb b a past))
]

-- a natural number is not both below and above another
not_both : (a b : ℕ) → (ltb a b && ltb b a) ≡ false
not_both a b = elim (cases_lt a b) [
  | inl less ↦ (λ i. ltb a b && le-ltb b a (omega (arith, less)) i) ∙ and-false (ltb a b)
  | inr past ↦ (λ i. le-ltb a b past i && ltb b a)
]

-- `x` is at most `y` exactly if `y` is not less than `x`
pub int_not_more : (x y : ℤ) → int_le x y ≡ not (int_lt y x)
int_not_more (pos a) (pos b) = not_less a b
int_not_more (pos a) (negsuc b) = refl
int_not_more (negsuc a) (pos b) = refl
int_not_more (negsuc a) (negsuc b) = not_less b a

-- an integer is not both below and above another
int_not_both : (x y : ℤ) → (int_lt x y && int_lt y x) ≡ false
int_not_both (pos a) (pos b) = not_both a b
int_not_both (pos a) (negsuc b) = refl
int_not_both (negsuc a) (pos b) = refl
int_not_both (negsuc a) (negsuc b) = not_both b a

-- the order of two numbers, given whether the first is below and whether it is above
abbrev order_by : Bool → Bool → Ordering
order_by less more = cond less Less (cond more Greater Equal)

-- a comparison of `x` with `y` holds exactly if it holds for their order
pub meets_told : (compare : Compare) (x y : ℤ) → meets compare (int_cmp x y) ≡ compares compare x y
meets_told comparison.Equal x y = refl
meets_told comparison.NotEqual x y = differs (int_cmp x y)
  where
    differs : (order : Ordering) → is_ne order ≡ not (is_eq order)
    differs Less = refl
    differs Equal = refl
    differs Greater = refl
meets_told comparison.Less x y = less (int_lt x y) (int_lt y x)
  where
    less : (a b : Bool) → is_lt (order_by a b) ≡ a
    less true b = refl
    less false true = refl
    less false false = refl
meets_told comparison.LessOrEqual x y = at_most (int_lt x y) (int_lt y x) (int_not_both x y) ∙ sym (int_not_more x y)
  where
    at_most : (a b : Bool) → (a && b) ≡ false → is_le (order_by a b) ≡ not b
    at_most true true apart = apart
    at_most true false apart = refl
    at_most false true apart = refl
    at_most false false apart = refl
meets_told comparison.Greater x y = more (int_lt x y) (int_lt y x) (int_not_both x y)
  where
    more : (a b : Bool) → (a && b) ≡ false → is_gt (order_by a b) ≡ b
    more true true apart = sym apart
    more true false apart = refl
    more false true apart = refl
    more false false apart = refl
meets_told comparison.GreaterOrEqual x y = at_least (int_lt x y) (int_lt y x) ∙ sym (int_not_more y x)
  where
    at_least : (a b : Bool) → is_ge (order_by a b) ≡ not a
    at_least true b = refl
    at_least false true = refl
    at_least false false = refl

-- ---- which values are numbers that compare as is asked
module _ (compare : Compare) (number : ℤ) (indexed : Indexed) where
  -- whether a value is a number that compares with `number` as is asked
  abbrev asked : Value → Bool
  asked value = is_number_that compare number value

  -- a concept fulfils no comparison with a number
  pub concept_fails : (n : ℕ) → n < length indexed.concepts → false ≡ asked (value_of indexed n)
  concept_fails n within =
      sym (ap asked (concept_at indexed.concepts indexed.decimals indexed.texts n (text_value []) within))

  -- the value with the number `k` plus the number of concepts passes exactly if decimal `k` fulfils the comparison
  pub decimal_told : (k : ℕ) → k < length indexed.decimals → (decimal : ℤ) → decimal ≡ get_or indexed.decimals k (pos 0)
      → meets compare (int_cmp decimal number) ≡ asked (value_of indexed (length indexed.concepts + k))
  decimal_told k within decimal is =
      meets_told compare decimal number
      ∙ ap (λ (own : ℤ). compares compare own number) is
      ∙ sym (ap asked (decimal_at indexed.concepts indexed.decimals indexed.texts k (text_value []) (pos 0) within))

  -- a value that comes after the decimals fulfils no comparison with a number
  pub past_decimals : (k : ℕ) → length indexed.decimals ≤ k
      → false ≡ asked (value_of indexed (length indexed.concepts + k))
  past_decimals k past =
      sym (ap asked (value_after indexed.concepts indexed.decimals indexed.texts k (text_value [])
      ∙ get_or-append_right (map number_value indexed.decimals) (map text_value indexed.texts) (length indexed.decimals)
      k (text_value [])
      (length-map indexed.decimals number_value) past)
      ∙ none_at asked (map text_value indexed.texts) (texts_fail asked (λ text. refl) indexed.texts) (text_value [])
      refl
      (k - length indexed.decimals))
