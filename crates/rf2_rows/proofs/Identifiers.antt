-- The number of an identifier, from its decimal text.
use Rattle.std.proofs.Common.{◌≡◌, ℕ, zero, suc, ◌+◌, ◌/◌, ◌%◌, ◌^◌, ◌<◌, ◌≤◌, false, eqb, decimal, List, [], ◌∷◌, None}
use Rattle.std.proofs.Common.{length, sym, inl, inr, pow-suc, arith, eqb-true}
use Rattle.std.specs.Fmt.{digits, digits_onto, digit_glyph}
use Rattle.std.specs.Str.Parse.{digits_value}
use Rattle.std.proofs.Math.Nat.{one-le-pow}
use Rattle.std.proofs.lemmas.Bool.{cases_Bool}
use Rattle.std.proofs.lemmas.Bool.Decides.{nat_tests}
use Rattle.std.proofs.lemmas.Fmt.{decimal_is_IsNumeral_wide}
use Rattle.sctid.specs.Identifier.{fault_of}

-- if the decimal text of `n` has fewer than `k` digits, `n` is below 10^`k`
digits_short : (k n : ℕ) (text : List ℕ) → length (digits_onto k 10 false n text) < k + length text → n < 10 ^ k
digits_short zero n text short = absurd (omega arith)
digits_short (suc k) n text short = elim (cases_Bool (eqb (n / 10) 0)) [
  | inl ends ↦ omega (arith, eqb-true (n / 10) 0 ends, pow-suc 10 k, one-le-pow k 10 (omega arith))
  | inr goes ↦
      let fewer = rw goes at short in
      omega (arith, pow-suc 10 k, digits_short k (n / 10) (digit_glyph false (n % 10) ∷ text) (omega arith))
]

-- a number whose decimal text has fewer than 64 bytes is below 10^64
decimal_short : (n : ℕ) → length (decimal n) < 64 → n < 10 ^ 64
unfolding digits
decimal_short n short = digits_short 64 n [] short

-- a text without a fault has at most 18 digits
valid_short : (text : List ℕ) → fault_of text ≡ None → length text ≤ 18
valid_short text valid = grind (arith, nat_tests)

-- if the decimal text of `n` is a valid identifier, `n` is the value of its digits
pub number_read : (n : ℕ) → fault_of (decimal n) ≡ None → n ≡ digits_value 10 (decimal n)
number_read n valid = sym ((decimal_is_IsNumeral_wide n
    (decimal_short n (omega (arith, valid_short (decimal n) valid)))).1)
