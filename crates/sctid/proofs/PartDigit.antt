-- The second digit of the partition, in the text of an identifier and in its number.
use Rattle.std.proofs.Common.{◌≡◌, ℕ, ◌+◌, ◌-◌, ◌/◌, ◌%◌, ◌^◌, ◌<◌, ◌≤◌, None, List, [], ◌∷◌, ◌++◌, length, get_or}
use Rattle.std.proofs.Common.{decimal, length-append, append_assoc, ap, ◌∙◌, inl, inr, arith}
use Rattle.std.proofs.lemmas.Bool.{cases_lt}
use Rattle.std.proofs.lemmas.Bool.Decides.{nat_tests}
use Rattle.std.proofs.lemmas.Fmt.{decimal_step, length-decimal-le}
use Rattle.std.proofs.lemmas.List.{get_or_at}
use Rattle.sctid.specs.Identifier.{fault_of, digit_at}

-- a valid text has at least 6 digits
valid_text_long : (text : List ℕ) → fault_of text ≡ None → 6 ≤ length text
valid_text_long text valid = grind (arith, nat_tests)

-- a number of at least 6 digits is at least 100
long_number : (n : ℕ) → n < 10 ^ 18 → 6 ≤ length (decimal n) → 100 ≤ n
long_number n small long =
    elim (cases_lt n 100) [
      | inl below ↦ absurd (omega (arith, length-decimal-le 2 n (omega arith) below (omega arith)))
      | inr above ↦ above
    ]

-- the item before the last one of a list that ends in `a` and `b` is `a`
before_last : (front : List ℕ) (a b : ℕ)
    → get_or ((front ++ (a ∷ [])) ++ (b ∷ [])) (length ((front ++ (a ∷ [])) ++ (b ∷ [])) - 1 - 1) 0 ≡ a
before_last front a b =
    let lengths = length-append front ((a ∷ []) ++ (b ∷ [])) in
    rw append_assoc (get_or_at front a (b ∷ []) 0 _ (omega arith))

-- if the decimal text of `n` is a valid identifier, the second digit of its partition is the second last digit of
-- `n`
pub part_digit : (n : ℕ) → n < 10 ^ 18 → fault_of (decimal n) ≡ None → digit_at (decimal n) 1 ≡ n / 10 % 10
part_digit n small valid =
    let large = long_number n small (valid_text_long (decimal n) valid) in
    let last_two : decimal n ≡ (decimal (n / 10 / 10) ++ ((48 + n / 10 % 10) ∷ [])) ++ ((48 + n % 10) ∷ []) =
    decimal_step n (omega arith) (omega arith)
    ∙ ap (λ ds. ds ++ ((48 + n % 10) ∷ [])) (decimal_step (n / 10) (omega arith) (omega arith)) in
    let digit = before_last (decimal (n / 10 / 10)) (48 + n / 10 % 10) (48 + n % 10) in
    ap (λ ds. digit_at ds 1) last_two ∙ omega arith
