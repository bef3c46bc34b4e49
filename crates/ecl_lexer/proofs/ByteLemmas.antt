-- Letters, digits and blanks are different bytes.
use Rattle.std.proofs.Common.{ℕ, ◌≡◌, ◌<◌, ◌≤◌, ◌==◌, ◌&&◌, ◌||◌, ◌⊎◌, inl, inr, true, false, arith}
use Rattle.std.specs.Prelude.{nat_le}
use Rattle.std.specs.Char.{is_ascii_alphabetic, is_ascii_digit}
use Rattle.std.proofs.lemmas.Bool.{cases_Bool, and_parts, eqb-true, leb-true, false_from_ne_true}
use Rattle.ecl_lexer.specs.Bytes.{is_space}

digit_range : (byte : ℕ) → is_ascii_digit byte ≡ true → (48 ≤ byte) × (byte ≤ 57)
digit_range byte is =
    let parts = and_parts (nat_le 48 byte) (nat_le byte 57) is in
    (leb-true 48 byte parts.0, leb-true byte 57 parts.1)

letter_range : (byte : ℕ) → is_ascii_alphabetic byte ≡ true → 65 ≤ byte
letter_range byte is = elim (cases_Bool (nat_le 65 byte && nat_le byte 90)) [
  | inl capital ↦ leb-true 65 byte (and_parts (nat_le 65 byte) (nat_le byte 90) capital).0
  | inr other ↦
      let small : (nat_le 97 byte && nat_le byte 122) ≡ true = rw other at is in
      let low = leb-true 97 byte (and_parts (nat_le 97 byte) (nat_le byte 122) small).0 in
      omega arith
]

-- a letter is not a digit
pub letter-not_digit : (byte : ℕ) → is_ascii_alphabetic byte ≡ true → is_ascii_digit byte ≡ false
letter-not_digit byte is = false_from_ne_true (is_ascii_digit byte) (λ digit.
    let low = letter_range byte is in
    let high = digit_range byte digit in
    omega (arith, high.1))

-- a digit differs from each byte below 48, the code of `0`
pub digit-not : (byte other : ℕ) → is_ascii_digit byte ≡ true → other < 48 → (byte == other) ≡ false
digit-not byte other is low = false_from_ne_true (byte == other) (λ same.
    let high = digit_range byte is in
    omega (arith, high.0, eqb-true byte other same))

-- a byte that `is_space` accepts is a space, a tab, CR or LF
pub space_cases : (byte : ℕ) → is_space byte ≡ true → (byte ≡ 32) ⊎ ((byte ≡ 9) ⊎ ((byte ≡ 13) ⊎ (byte ≡ 10)))
space_cases byte is = elim (cases_Bool (byte == 32)) [
  | inl space ↦ inl (eqb-true byte 32 space)
  | inr other ↦
      let is_other : (byte == 9 || byte == 13 || byte == 10) ≡ true = rw other at is in
      inr (elim (cases_Bool (byte == 9)) [
        | inl tab ↦ inl (eqb-true byte 9 tab)
        | inr other ↦
            let is_end : (byte == 13 || byte == 10) ≡ true = rw other at is_other in
            inr (elim (cases_Bool (byte == 13)) [
              | inl return ↦ inl (eqb-true byte 13 return)
              | inr other ↦ let feed : (byte == 10) ≡ true = rw other at is_end in inr (eqb-true byte 10 feed)
            ])
      ])
]
