-- The lowest set bit of a number: where it is, and the number without it.
use Rattle.std.proofs.Common.{◌≡◌, ℕ, zero, suc, ◌+◌, ◌-◌, ◌*◌, ◌/◌, ◌%◌, ◌^◌, ◌<◌, sym, ap, ◌∙◌, arith}
use Rattle.std.proofs.Math.Nat.{add-zero, mul_assoc, mul_comm, one-le-pow, one-mul, pow-suc}
use Rattle.std.proofs.lemmas.Nat.{and_block, pow-add}
use Rattle.std.specs.Int.Bits.{and_self, and_shifted, bit_and}
use Rattle.std.specs.Int.Count.{count_trailing_zeros, under}

-- a number whose lowest set bit is bit `c` is `lowest_is c rest`: above this bit it has the bits of `rest`
abbrev pub lowest_is : ℕ → ℕ → ℕ
lowest_is c rest = (rest * 2 + 1) * 2 ^ c

-- moved up by one bit, a number has its lowest set bit one bit higher
pub lowest_doubled : (c rest : ℕ) → lowest_is (suc c) rest ≡ 2 * lowest_is c rest
lowest_doubled c rest =
    ap (λ n. (rest * 2 + 1) * n) (pow-suc 2 c) ∙ sym (mul_assoc (rest * 2 + 1) (2 ^ c) 2)
    ∙ mul_comm (lowest_is c rest) 2

-- moved up by `k` bits, a number has its lowest set bit `k` bits higher
pub lowest_moved : (c rest k : ℕ) → lowest_is c rest * 2 ^ k ≡ lowest_is (c + k) rest
lowest_moved c rest k =
    mul_assoc (rest * 2 + 1) (2 ^ c) (2 ^ k) ∙ ap (λ n. (rest * 2 + 1) * n) (sym (pow-add 2 c k))

-- a multiple of `n` by an odd number
spread : (half n : ℕ) → (half * 2 + 1) * n ≡ half * (n * 2) + n
spread zero n = omega arith
spread (suc half) n = let rest = spread half n in omega arith

-- without its lowest set bit, a number has the bits above it
pub lowest_dropped : (c rest : ℕ) → bit_and (lowest_is c rest) (lowest_is c rest - 1) ≡ rest * 2 ^ (c + 1)
lowest_dropped c rest =
    let some : 0 < 2 ^ c = one-le-pow c 2 (omega arith) in
    let next : 2 ^ (c + 1) ≡ 2 ^ c * 2 = omega (arith, pow-add 2 c 1) in
    let parts : lowest_is c rest ≡ rest * 2 ^ (c + 1) + 2 ^ c =
    spread rest (2 ^ c) ∙ ap (λ n. rest * n + 2 ^ c) (sym next) in
    let below : lowest_is c rest - 1 ≡ rest * 2 ^ (c + 1) + (2 ^ c - 1) = omega arith in
    let apart : bit_and (2 ^ c) (2 ^ c - 1) ≡ 0 =
    ap (λ n. bit_and n (2 ^ c - 1)) (sym (one-mul (2 ^ c))) ∙ and_shifted 1 c (2 ^ c - 1) (omega arith) in
    (λ i. bit_and (parts i) (below i))
    ∙ and_block (c + 1) rest rest (2 ^ c) (2 ^ c - 1) (omega arith) (omega arith)
    ∙ (λ i. and_self rest i * 2 ^ (c + 1) + apart i) ∙ add-zero (rest * 2 ^ (c + 1))

-- a number whose lowest set bit is bit `c` has `c` trailing zeros
pub trailing_lowest : (width c rest : ℕ) → c < width → count_trailing_zeros width (lowest_is c rest) ≡ c
unfolding count_trailing_zeros
trailing_lowest zero c rest below = absurd (omega arith)
trailing_lowest (suc width) zero rest below =
    let odd : lowest_is 0 rest % 2 ≡ 1 = omega arith in
    ap (λ bit. under bit (count_trailing_zeros width (lowest_is 0 rest / 2))) odd
trailing_lowest (suc width) (suc c) rest below =
    let twice = lowest_doubled c rest in
    let even : lowest_is (suc c) rest % 2 ≡ 0 = omega (arith, twice) in
    let half : lowest_is (suc c) rest / 2 ≡ lowest_is c rest = omega (arith, twice) in
    (λ i. under (even i) (count_trailing_zeros width (half i)))
    ∙ ap suc (trailing_lowest width c rest (omega arith))
