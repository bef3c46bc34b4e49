-- The counts that lie in a cardinality: in `1..*`, in `0..0`, and in a range.
use Rattle.std.proofs.Common.{ℕ, ◌≡◌, ◌+◌, ◌&&◌, ◌||◌, not, Bool, true, false, cond, Option, Some, None, is_none}
use Rattle.std.proofs.Common.{List, [], ◌∷◌, nat_le, nat_lt, nat_eq, refl, sym, ap, ◌∙◌, arith, inl, inr}
use Rattle.std.specs.List.{list_any, count_by}
use Rattle.std.proofs.lemmas.Bool.{and_parts, cases_Bool}
use Rattle.std.proofs.lemmas.Bool.Decides.{nat_tests}
use Rattle.std.proofs.lemmas.List.Sums.{sum_by-cons}
use Rattle.constraint_tree.specs.declared.operator.Cardinality.{Cardinality}
use Rattle.constraint_tree.specs.Passing.{lies_in, is_up_to}
use Rattle.set_algebra.specs.Equal.{same_most}
use Rattle.rewrites.specs.Counts.{asks_some, asks_none}

-- the number of items that pass is at least 1 exactly if some item of the list passes
pub counts_some : {X : Type 0} (test : X → Bool) (items : List X) → nat_le 1 (count_by test items) ≡ list_any test items
counts_some test [] = refl
counts_some test (first ∷ rest) = elim (cases_Bool (test first)) [
  | inl passes ↦ grind (arith, nat_tests, sum_by-cons (λ x. cond (test x) 1 0) first rest, passes)
  | inr fails ↦ grind (arith, nat_tests, sum_by-cons (λ x. cond (test x) 1 0) first rest, fails, counts_some test rest)
]

-- `1..*` and `0..0` do not tell two counts apart if both are 0 or neither is
told_by_some : (least : ℕ) (most : Option ℕ) (n m : ℕ)
    → ((nat_eq least 1 && is_none most) || (nat_eq least 0 && same_most most (Some 0))) ≡ true → nat_le 1 n ≡ nat_le 1 m
    → (nat_le least n && is_up_to most n) ≡ (nat_le least m && is_up_to most m)
told_by_some least None n m asks same = grind (arith, nat_tests)
told_by_some least (Some most) n m asks same = grind (arith, nat_tests)

-- if a cardinality is `[1..*]` or `[0..0]`, and `n` and `m` are both 0 or both not, then `n` lies in it exactly if
-- `m` does
pub lies_in_equivalent : (count : Cardinality) (n m : ℕ) → (asks_some count || asks_none count) ≡ true
    → nat_le 1 n ≡ nat_le 1 m → lies_in count n ≡ lies_in count m
lies_in_equivalent count n m asks same = told_by_some count.min count.max n m asks same

-- a count lies in `1..*` exactly if it is not 0
some_told : (least : ℕ) (most : Option ℕ) (n : ℕ) → (nat_eq least 1 && is_none most) ≡ true
    → (nat_le least n && is_up_to most n) ≡ nat_le 1 n
some_told least None n asks = grind (arith, nat_tests)
some_told least (Some most) n asks = grind (arith, nat_tests)

-- a count lies in `0..0` exactly if it is 0
none_told : (least : ℕ) (most : Option ℕ) (n : ℕ) → (nat_eq least 0 && same_most most (Some 0)) ≡ true
    → (nat_le least n && is_up_to most n) ≡ not (nat_le 1 n)
none_told least None n asks = grind (arith, nat_tests)
none_told least (Some most) n asks = grind (arith, nat_tests)

-- if a cardinality is `[1..*]`, `n` lies in it exactly if `n` is not 0
pub lies_in_some : (count : Cardinality) (n : ℕ) → asks_some count ≡ true → lies_in count n ≡ nat_le 1 n
lies_in_some count n asks = some_told count.min count.max n asks

-- if a cardinality is `[0..0]`, `n` lies in it exactly if `n` is 0
pub lies_in_none : (count : Cardinality) (n : ℕ) → asks_none count ≡ true → lies_in count n ≡ not (nat_le 1 n)
lies_in_none count n asks = none_told count.min count.max n asks

-- if a cardinality is `[1..*]`, the number of items that pass lies in it exactly if some item passes
pub some_lie_in : {X : Type 0} (count : Cardinality) (test : X → Bool) (items : List X) → asks_some count ≡ true
    → lies_in count (count_by test items) ≡ list_any test items
some_lie_in count test items asks = lies_in_some count (count_by test items) asks ∙ counts_some test items

-- if a cardinality is `[0..0]`, the number of items that pass lies in it exactly if no item passes
pub none_lie_in : {X : Type 0} (count : Cardinality) (test : X → Bool) (items : List X) → asks_none count ≡ true
    → lies_in count (count_by test items) ≡ not (list_any test items)
none_lie_in count test items asks = lies_in_none count (count_by test items) asks ∙ ap not (counts_some test items)

-- RangeSplit: `n` lies in `[least..most]` exactly if it lies in `[least..*]` and in `[0..most]`
pub range_split : (f : Bool) (least most n : ℕ)
    → (f && (nat_le least n && nat_le n most))
    ≡ (f && ((f && (nat_le least n && true)) && ((f && (nat_le 0 n && nat_le n most)) && true)))
range_split true least most n = grind (arith, nat_tests)
range_split false least most n = refl

-- RangeTurn: `n` lies in `[0..most]` exactly if it does not lie in `[most+1..*]`
pub range_turn : (f : Bool) (most n : ℕ)
    → (f && (nat_le 0 n && nat_le n most)) ≡ (f && not (f && (nat_le (most + 1) n && true)))
range_turn true most n = grind (arith, nat_tests)
range_turn false most n = refl

-- RangeAll: each number `n` lies in `[0..*]`
pub range_always : (f : Bool) (n : ℕ) → (f && (nat_le 0 n && true)) ≡ f
range_always true n = grind (arith, nat_tests)
range_always false n = refl

-- RangeAll: if `most` is below `least`, no number `n` lies in `[least..most]`
pub range_never : (f : Bool) (least most n : ℕ) → nat_lt most least ≡ true
    → (f && (nat_le least n && nat_le n most)) ≡ false
range_never true least most n above = grind (arith, nat_tests)
range_never false least most n above = refl

-- a count of at least `least` is not 0 if `least` is at least 1
enough : (least n : ℕ) (more : Bool) → nat_le 1 least ≡ true → (nat_le least n && more) ≡ true → nat_le 1 n ≡ true
enough least n more asks holds =
    let parts =
    and_parts (nat_le least n) more holds in let first : nat_le least n ≡ true = parts.0 in grind (arith, nat_tests)

-- if the minimum of a cardinality is at least 1 and the number of items that pass lies in it, some item passes
pub some_of_enough : {X : Type 0} (count : Cardinality) (test : X → Bool) (items : List X) → nat_le 1 count.min ≡ true
    → lies_in count (count_by test items) ≡ true → list_any test items ≡ true
some_of_enough count test items asks holds =
    sym (counts_some test items)
    ∙ enough count.min (count_by test items) (is_up_to count.max (count_by test items)) asks holds
