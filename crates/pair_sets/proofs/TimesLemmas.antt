-- How often numbers stand in lists.
use Rattle.std.proofs.Common.{ℕ, zero, suc, ◌≡◌, ◌<◌, ◌≤◌, ◌+◌, ◌-◌, ◌∙◌, ◌∷◌, ◌++◌, [], inl, inr, arith}
use Rattle.std.proofs.Common.{Bool, true, false, not, ◌&&◌, ◌||◌, ◌==◌, cond, List, length, Option, Some, refl, sym, ap}
use Rattle.std.specs.Prelude.{All, filter, nat_le}
use Rattle.std.proofs.lemmas.Bool.{cases_eq, cases_lt, eq-eqb, le-leb, leb-false, leb-true, lt-leb, ne_eqb}
use Rattle.std.proofs.lemmas.List.Sums.{length-filter}
use Rattle.std.proofs.Math.Bool.{and-true, or-false}
use Rattle.number_lists.proofs.ListLemmas.{both_ways}
use Rattle.number_lists.specs.Members.{has, times}
use Rattle.number_lists.proofs.MemberLemmas.{times-append}
use Rattle.constraint_tree.specs.declared.operator.Cardinality.{Cardinality}
use Rattle.constraint_tree.specs.Passing.{is_up_to, lies_in}

-- ---- by recursion on the list
-- `x ∷ xs` has `x` once more than `xs`, and any other number as often
pub times-cons : (number x : ℕ) (xs : List ℕ)
    → times number (x ∷ xs) ≡ cond (x == number) (1 + times number xs) (times number xs)
times-cons number x xs =
    sym (length-filter (λ y. y == number) (x ∷ xs))
    ∙ elim (x == number) as (λ b. length (cond b (x ∷ filter (λ y. y == number) xs) (filter (λ y. y == number) xs))
    ≡ cond b (1 + times number xs) (times number xs)) [
      | true ↦ omega (arith, length-filter (λ y. y == number) xs)
      | false ↦ length-filter (λ y. y == number) xs
    ]

-- a list contains a number exactly if it has it at least once
pub has_times : (xs : List ℕ) (number : ℕ) → has xs number ≡ nat_le 1 (times number xs)
has_times [] number = refl
has_times (x ∷ xs) number =
    elim (x == number) as (λ b. (b || has xs number) ≡ nat_le 1 (cond b (1 + times number xs) (times number xs))) [
      | true ↦ sym (le-leb 1 (1 + times number xs) (omega arith))
      | false ↦ has_times xs number
    ] ∙ ap (nat_le 1) (sym (times-cons number x xs))

-- ---- a number more
-- a list of one item has it once, and no other number
times_more : (number x : ℕ) → times number (x ∷ []) ≡ cond (x == number) 1 0
times_more number x = times-cons number x []

-- a number that a list has stands in it at least once
there_once : (xs : List ℕ) (number : ℕ) → has xs number ≡ true → 1 ≤ times number xs
there_once xs number there = leb-true 1 (times number xs) (sym (has_times xs number) ∙ there)

-- a number that a list does not have stands in it no time
not_there : (xs : List ℕ) (number : ℕ) → has xs number ≡ false → times number xs ≡ 0
not_there xs number absent = omega (arith, leb-false 1 (times number xs) (sym (has_times xs number) ∙ absent))

-- if `left` has `number` once less often than `xs`, this stays so if a number that `xs` already contains is added to
-- both
pub again_step : (xs left : List ℕ) (x number : ℕ) → has xs x ≡ true → times number left ≡ times number xs - 1
    → times number (left ++ x ∷ []) ≡ times number (xs ++ x ∷ []) - 1
again_step xs left x number there so_far =
    times-append number left (x ∷ []) ∙ by_case ∙ sym (ap (λ n. n - 1) (times-append number xs (x ∷ [])))
  where
    by_case : times number left + times number (x ∷ []) ≡ (times number xs + times number (x ∷ [])) - 1
    by_case = elim (cases_eq x number) [
      | inl same ↦
          let once : 1 ≤ times number xs = there_once xs number (ap (has xs) (sym same) ∙ there) in
          omega (arith, once, so_far)
      | inr other ↦ let none : times number (x ∷ []) ≡ 0
          = times_more number x ∙ ap (λ b. cond b 1 0) (ne_eqb x number other) in omega (arith, none, so_far)
    ]

-- if `left` has `number` once less often than `xs`, this stays so if a number that `xs` does not contain is added to
-- `xs` only
pub first_step : (xs left : List ℕ) (x number : ℕ) → has xs x ≡ false → times number left ≡ times number xs - 1
    → times number left ≡ times number (xs ++ x ∷ []) - 1
first_step xs left x number absent so_far = so_far ∙ by_case ∙ sym (ap (λ n. n - 1) (times-append number xs (x ∷ [])))
  where
    by_case : times number xs - 1 ≡ (times number xs + times number (x ∷ [])) - 1
    by_case = elim (cases_eq x number) [
      | inl same ↦
          let none : times number xs ≡ 0 = not_there xs number (ap (has xs) (sym same) ∙ absent) in
          let one : times number (x ∷ []) ≡ 1 = times_more number x ∙ ap (λ b. cond b 1 0) (eq-eqb x number same) in
          omega (arith, none, one)
      | inr other ↦ let none : times number (x ∷ []) ≡ 0
          = times_more number x ∙ ap (λ b. cond b 1 0) (ne_eqb x number other) in omega (arith, none)
    ]

-- `xs ++ x ∷ []` contains a number exactly if `xs` does or it is `x`
pub item_more : (xs : List ℕ) (x number : ℕ) → has (xs ++ x ∷ []) number ≡ (has xs number || (x == number))
item_more [] x number = or-false (x == number)
item_more (y ∷ xs) x number =
    ap (λ (b : Bool). (y == number) || b) (item_more xs x number)
    ∙ apart (y == number) (has xs number) (x == number)
  where
    apart : (a b c : Bool) → (a || (b || c)) ≡ ((a || b) || c)
    apart true b c = refl
    apart false b c = refl

-- adding a number that a list already contains does not change what the list contains
pub marked_again : (xs : List ℕ) (x number : ℕ) → has xs x ≡ true → has xs number ≡ has (xs ++ x ∷ []) number
marked_again xs x number there = sym (item_more xs x number ∙ by_case)
  where
    by_case : (has xs number || (x == number)) ≡ has xs number
    by_case = elim (cases_eq x number) [
      | inl same ↦
          (λ i. ap (has xs) (sym same) i || (x == number)) ∙ (λ i. there i || (x == number)) ∙ sym there
          ∙ ap (has xs) same
      | inr other ↦ (λ i. has xs number || ne_eqb x number other i) ∙ or-false (has xs number)
    ]

-- the list of the single number `x` is below `bound` if `x` is
pub one_below : (bound x : ℕ) → x < bound → All (λ n. n < bound) (x ∷ [])
one_below bound x below zero d within = below
one_below bound x below (suc k) d within = absurd (omega (arith, within))

-- more than `least - 1` occurrences are at least `least` occurrences
pub beyond : (least seen : ℕ) → 1 ≤ least → nat_le 1 (seen - (least - 1)) ≡ nat_le least seen
beyond least seen some = both_ways (nat_le 1 (seen - (least - 1))) (nat_le least seen)
    (λ told. le-leb least seen (omega (arith, leb-true 1 (seen - (least - 1)) told)))
    (λ told. le-leb 1 (seen - (least - 1)) (omega (arith, leb-true least seen told)))

-- if taking `done` of `seen` leaves 0, taking `less` of them leaves 0 as well, if `less` is at least `done`
pub none_left : (left done less seen : ℕ) → left ≡ seen - done → left ≡ 0 → done ≤ less → left ≡ seen - less
none_left left done less seen is none most = omega arith

-- two numbers that are each at most the other are equal
pub done_all : (done less : ℕ) → less ≤ done → done ≤ less → done ≡ less
done_all done less enough most = omega arith

-- not to be at least `most` + 1 is to be at most `most`
not_more : (most seen : ℕ) → not (nat_le (most + 1) seen) ≡ nat_le seen most
not_more most seen = elim (cases_lt most seen) [
  | inl more ↦ ap not (le-leb (most + 1) seen (omega (arith, more))) ∙ sym (lt-leb seen most more)
  | inr most_there ↦ ap not (lt-leb (most + 1) seen (omega (arith, most_there))) ∙ sym (le-leb seen most most_there)
]

-- a count that is at least the minimum and not above the maximum lies in the cardinality, and conversely
pub up_to : (count : Cardinality) (most seen : ℕ) → count.max ≡ Some most
    → (nat_le count.min seen && not (nat_le (most + 1) seen)) ≡ lies_in count seen
up_to count most seen is =
    ap (λ (b : Bool). nat_le count.min seen && b) (not_more most seen ∙ ap (λ (m : Option ℕ). is_up_to m seen) (sym is))

-- a count that the maximum allows lies in the cardinality exactly if it is at least the minimum
pub allowed : (count : Cardinality) (seen : ℕ) → is_up_to count.max seen ≡ true
    → nat_le count.min seen ≡ lies_in count seen
allowed count seen up = sym (and-true (nat_le count.min seen)) ∙ ap (λ (b : Bool). nat_le count.min seen && b) (sym up)
