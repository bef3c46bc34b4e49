-- How many `/` a text has, and how `/` cuts it.
use Rattle.std.proofs.Common.{◌≡◌, ◌≢◌, ℕ, ◌+◌, ◌%◌, ◌<◌, ◌^◌, ◌++◌, List, [], ◌∷◌}
use Rattle.std.proofs.Common.{ap, arith, cond, eqb, refl, subst, sym}
use Rattle.std.proofs.lemmas.Bool.{ne_eqb}
use Rattle.std.proofs.lemmas.Fmt.{decimal_by_steps, decimal_injective}
use Rattle.std.proofs.lemmas.List.Elements.{All-head, All-tail}
use Rattle.std.specs.Fmt.{decimal}
use Rattle.std.specs.List.{All}

-- 1 for the byte `/`, and 0 for any other byte
abbrev pub slash_of : ℕ → ℕ
slash_of byte = cond (eqb byte 47) 1 0

-- how many `/` a text has
abbrev pub slashes : List ℕ → ℕ
slashes [] = 0
slashes (byte ∷ text) = slash_of byte + slashes text

-- the last byte of `text`, or `before` if it is empty
abbrev pub last_after : ℕ → List ℕ → ℕ
last_after before [] = before
last_after before (byte ∷ text) = last_after byte text

no_slash_of : (byte : ℕ) → byte ≢ 47 → slash_of byte ≡ 0
no_slash_of byte other = rw (ne_eqb byte 47 other) refl

a_slash_of : (byte : ℕ) → byte ≡ 47 → slash_of byte ≡ 1
a_slash_of byte is = ap slash_of is

-- a text without the byte `/` has 0 of them
pub no_slashes : (text : List ℕ) → All (λ byte. byte ≢ 47) text → slashes text ≡ 0
no_slashes [] others = refl
no_slashes (byte ∷ text) others =
    let first : slash_of byte ≡ 0 = no_slash_of byte (All-head (λ byte. byte ≢ 47) byte text others) in
    let rest : slashes text ≡ 0 = no_slashes text (All-tail (λ byte. byte ≢ 47) byte text others) in omega arith

-- two texts joined have as many `/` as both together
pub slashes_append : (one other : List ℕ) → slashes (one ++ other) ≡ slashes one + slashes other
slashes_append [] other = omega arith
slashes_append (byte ∷ one) other = let rest = slashes_append one other in omega arith

-- the last byte of `text ++ byte ∷ []` is `byte`
pub last_append : (before : ℕ) (text : List ℕ) (byte : ℕ) → last_after before (text ++ byte ∷ []) ≡ byte
last_append before [] byte = refl
last_append before (first ∷ text) byte = last_append first text byte

-- a text that ends with `/` has at least one
has_slash : (byte : ℕ) (text : List ℕ) → last_after byte text ≡ 47 → 0 < slashes (byte ∷ text)
has_slash byte [] ends = let one : slash_of byte ≡ 1 = a_slash_of byte ends in omega arith
has_slash byte (next ∷ text) ends = let rest = has_slash next text ends in omega arith

-- a text that ends with `/` is not the front of a text without `/`
not_front : (byte : ℕ) (text following name : List ℕ) → last_after byte text ≡ 47 → slashes name ≡ 0
    → name ≡ (byte ∷ text) ++ following → ⊥
not_front byte text following name ends none is =
    let some = has_slash byte text ends in
    let sum = slashes_append (byte ∷ text) following in
    let same = ap slashes is in absurd (omega arith)

-- if `one` and `other` are empty or end with `/`, `first` and `second` have no `/`, and `one ++ first` equals `other ++
-- second`, then `one` equals `other`
pub same_below : (before : ℕ) (one other first second : List ℕ)
    → last_after before one ≡ 47 → last_after before other ≡ 47
    → slashes first ≡ 0 → slashes second ≡ 0
    → one ++ first ≡ other ++ second → one ≡ other
same_below before [] [] first second ends_one ends_other none_one none_other same = refl
same_below before [] (byte ∷ other) first second ends_one ends_other none_one none_other same =
    absurd (not_front byte other second first ends_other none_one same)
same_below before (byte ∷ one) [] first second ends_one ends_other none_one none_other same =
    absurd (not_front byte one first second ends_one none_other (sym same))
same_below before (byte ∷ one) (also ∷ other) first second ends_one ends_other none_one none_other same =
    let head : byte ≡ also = cc in
    let tail : one ++ first ≡ other ++ second = cc in
    let ends : last_after byte other ≡ 47 =
    subst (λ (start : ℕ). last_after start other ≡ 47) (sym head) ends_other in
    let rest = same_below byte one other first second ends_one ends none_one none_other tail in cc

-- if `one` and `other` have no `/`, and `one`, `/` and `first` make the same text as `other`, `/` and `second`, then
-- `one` equals `other`
pub same_before : (one other first second : List ℕ) → slashes one ≡ 0 → slashes other ≡ 0
    → one ++ 47 ∷ first ≡ other ++ 47 ∷ second → one ≡ other
same_before [] [] first second none_one none_other same = refl
same_before [] (byte ∷ other) first second none_one none_other same =
    let head : byte ≡ 47 = cc in
    let one : slash_of byte ≡ 1 = a_slash_of byte head in absurd (omega arith)
same_before (byte ∷ one) [] first second none_one none_other same =
    let head : byte ≡ 47 = cc in
    let one : slash_of byte ≡ 1 = a_slash_of byte head in absurd (omega arith)
same_before (byte ∷ one) (also ∷ other) first second none_one none_other same =
    let head : byte ≡ also = cc in
    let tail : one ++ 47 ∷ first ≡ other ++ 47 ∷ second = cc in
    let rest = same_before one other first second (omega arith) (omega arith) tail in cc

digit_no_slash : (digit : ℕ) → digit < 10 → slashes ((48 + digit) ∷ []) ≡ 0
digit_no_slash digit small = let none = no_slash_of (48 + digit) (λ same. omega arith) in omega arith

-- the digits of a number below 2^64 have no `/`
pub number_no_slash : (number : ℕ) → number < 2 ^ 64 → slashes (decimal number) ≡ 0
number_no_slash number small =
    decimal_by_steps (λ number text. slashes text ≡ 0) digit_no_slash
    (λ number text large none.
    let last = digit_no_slash (number % 10) (omega arith) in
    let sum = slashes_append text ((48 + number % 10) ∷ []) in omega arith)
    number small

-- if the digits of `one`, `/` and `first` make the same text as those of `other`, `/` and `second`, and both numbers
-- are below 2^64, then `one` equals `other`
pub same_number : (one other : ℕ) (first second : List ℕ) → one < 2 ^ 64 → other < 2 ^ 64
    → decimal one ++ 47 ∷ first ≡ decimal other ++ 47 ∷ second → one ≡ other
same_number one other first second small_one small_other same =
    decimal_injective one other small_one small_other
    (same_before (decimal one) (decimal other) first second (number_no_slash one small_one)
    (number_no_slash other small_other) same)
