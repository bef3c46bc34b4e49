-- Lists in which a reserved entry is written later, and numbers that are capped at 64 bits.
use Rattle.std.proofs.Common.{ℕ, zero, suc, ◌+◌, ◌-◌, ◌*◌, ◌∷◌, ◌++◌, [], ◌≡◌, ◌≤◌, ◌<◌, ◌^◌, ◌∙◌, List, length}
use Rattle.std.proofs.Common.{length-append, drop, min, sym, ap, arith, append_assoc, inl, inr}
use Rattle.std.specs.List.{slice_set}
use Rattle.std.proofs.Math.Nat.{mul-suc, mul_comm}
use Rattle.std.proofs.Math.Seq.{drop-nil, set-append_seam}
use Rattle.std.proofs.lemmas.Bool.{cases_lt}
use Rattle.std.proofs.lemmas.List.{drop-drop}
use Rattle.plan_bounds.specs.Bounds.{capped}

-- if a free entry stands after `xs` and before `ys`, writing `x` to it gives `xs`, `x` and `ys`
pub put_seam : {X : Type 0} (xs ys : List X) (free x : X) → slice_set ((xs ++ free ∷ []) ++ ys) (length xs) x
    ≡ xs ++ (x ∷ ys)
put_seam xs ys free x =
    ap (λ (all : List _). slice_set all (length xs) x) (append_assoc xs (free ∷ []) ys) ∙ set-append_seam xs free ys x

-- if a node appends a 0 to `given`, its children append `following`, and the node writes its number over the 0, then
-- the list is `given`, the number and `following`
pub closed_list : (given : List ℕ) {opened grown listed following all : List ℕ} {at own number : ℕ}
    → listed ≡ slice_set grown at own
    → grown ≡ opened ++ following → opened ≡ given ++ 0 ∷ [] → at ≡ length given → own ≡ number
    → all ≡ number ∷ following → listed ≡ given ++ all
closed_list given {following = following} {number = number} listed_is grown_is opened_is at_is own_is all_is =
    listed_is
    ∙ (λ i. slice_set ((grown_is ∙ ap (λ (xs : List ℕ). xs ++ following) opened_is) i) (at_is i) (own_is i))
    ∙ put_seam given following 0 number
    ∙ ap (λ (xs : List ℕ). given ++ xs) (sym all_is)

-- the index `at` of the free entry after `given` is below the length of the list after the children appended to it
pub at_within : {X : Type 0} (given following : List X) (free : X) {opened grown : List X} {at : ℕ} → at ≡ length given
    → opened ≡ given ++ free ∷ [] → grown ≡ opened ++ following → at < length grown
at_within given following free {opened = opened} at_is opened_is grown_is =
    omega (
      arith,
      at_is,
      ap length opened_is,
      length-append given (free ∷ []),
      ap length grown_is,
      length-append opened
          following,
    )

-- if one child appends `first`, and the next one `last`, together they append `first` and `last`
pub two_after : (opened first last : List ℕ) {between grown : List ℕ} → grown ≡ between ++ last
    → between ≡ opened ++ first
    → grown ≡ opened ++ (first ++ last)
two_after opened first last grown_is between_is =
    grown_is ∙ ap (λ (xs : List ℕ). xs ++ last) between_is ∙ append_assoc opened first last

-- capping a number before it is multiplied by `count` does not change the capped product
pub capped_product : (number count : ℕ) → capped (capped number * count) ≡ capped (count * number)
capped_product number count = elim (cases_lt number (2 ^ 64)) [
  | inl small ↦
      let same : capped number ≡ number = omega arith in
      ap (λ (n : ℕ). capped (n * count)) same ∙ ap capped (mul_comm number count)
  | inr large ↦
      let still : capped number ≡ 2 ^ 64 - 1 = omega arith in
      ap (λ (n : ℕ). capped (n * count)) still ∙ past number count large
]
  where
    past : (number count : ℕ) → 2 ^ 64 ≤ number → capped ((2 ^ 64 - 1) * count) ≡ capped (count * number)
    past number zero large = omega arith
    past number (suc count) large =
        let left : (2 ^ 64 - 1) * suc count ≡ (2 ^ 64 - 1) * count + (2 ^ 64 - 1) = mul-suc (2 ^ 64 - 1) count in
        let right : suc count * number ≡ number * count + number = mul_comm (suc count) number ∙ mul-suc number count in
        omega (arith, left, right)

-- capping a number does not change the lesser of it and `whole`, if `whole` is below 2^64
pub capped_least : (number : ℕ) {found all whole sum : ℕ} → found ≡ min all sum → sum ≡ capped number → all ≡ whole
    → all < 2 ^ 64
    → found ≡ min whole number
capped_least number found_is sum_is all_is fits = omega (arith, found_is, sum_is)

-- capping two numbers before they are added does not change the capped sum
pub capped_two : (a b : ℕ) {sum one two : ℕ} → sum ≡ capped (one + two) → one ≡ capped a → two ≡ capped b
    → sum ≡ capped (a + b)
capped_two a b sum_is one_is two_is = omega (arith, sum_is, one_is, two_is)

-- capping three numbers before they are added does not change the capped sum
pub capped_three : (a b c : ℕ) {sum one two three : ℕ} → sum ≡ capped (one + (two + three)) → one ≡ capped a
    → two ≡ capped b → three ≡ capped c
    → sum ≡ capped (a + (b + c))
capped_three a b c sum_is one_is two_is three_is = omega (arith, sum_is, one_is, two_is, three_is)
