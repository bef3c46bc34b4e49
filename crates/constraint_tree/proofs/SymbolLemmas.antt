-- When a symbol stands in front of a text: if no longer symbol begins with it and the first byte of the text.
use Rattle.std.proofs.Common.{ℕ, ◌≡◌, ◌==◌, ◌&&◌, ◌<◌, ◌≤◌, inl, inr, Bool, true, false, List, [], ◌∷◌, ◌++◌, None}
use Rattle.std.proofs.Common.{Some, length, refl, ap, ◌∙◌, sym, subst, arith}
use Rattle.std.specs.Prelude.{not, IsSome}
use Rattle.std.specs.List.{list_all}
use Rattle.std.specs.Str.{bytes_eq}
use Rattle.std.proofs.lemmas.Bool.{and_from, and_parts, cases_Bool, eqb-true, false_from_ne_true, not-true}
use Rattle.std.proofs.lemmas.Bool.Decides.{nat_tests}
use Rattle.ecl_lexer.specs.Lexemes.{kind_in, symbol, symbol_kind, symbols}
use Rattle.ecl_lexer.specs.Refusals.{IsRead, unsupported}
use Rattle.ecl_lexer.proofs.SymbolLemmas.{bytes_eq-true, IsLongest}
use Rattle.ecl_lexer.specs.declared.token.TokenKind.{TokenKind}

-- if `byte` passes `test` and `other` does not, the two bytes differ
pub other_byte : (test : ℕ → Bool) (byte other : ℕ) → test byte ≡ true → test other ≡ false → (byte == other) ≡ false
other_byte test byte other is not =
    false_from_ne_true (byte == other) (λ same. let equal : test byte ≡ test other =
    ap test (eqb-true byte other same) in absurd (cc))

-- if `byte` differs from `other`, then `other` differs from `byte`
pub swapped : (byte other : ℕ) → (byte == other) ≡ false → (other == byte) ≡ false
swapped byte other apart = grind (arith, nat_tests, apart)

-- whether a text begins with `bytes` and then `byte`
abbrev pub goes_on : List ℕ → ℕ → List ℕ → Bool
goes_on [] byte [] = false
goes_on [] byte (next ∷ more) = byte == next
goes_on (first ∷ bytes) byte [] = false
goes_on (first ∷ bytes) byte (next ∷ more) = (first == next) && goes_on bytes byte more

-- whether no symbol of the language begins with `bytes` and then `byte`
abbrev pub ends_before : List ℕ → ℕ → Bool
ends_before bytes byte = list_all (λ entry. not (goes_on bytes byte entry.0)) symbols

-- a byte is equal to itself
same_byte : (byte : ℕ) → (byte == byte) ≡ true
same_byte byte = grind (arith, nat_tests)

-- `other` begins with `bytes` and then the first byte of `rest`
record GoesOn (bytes rest other : List ℕ) : Type 0 where
  byte : ℕ
  following : List ℕ
  is : rest ≡ byte ∷ following
  on : goes_on bytes byte other ≡ true

-- if `bytes ++ rest` is `other ++ more` and `bytes` is shorter than `other`, then `other` begins with `bytes` and the
-- first byte of `rest`
goes_on_from : (bytes rest other more : List ℕ) → bytes ++ rest ≡ other ++ more → length bytes < length other
    → GoesOn bytes rest other
goes_on_from [] rest [] more is longer = absurd (omega arith)
goes_on_from [] rest (next ∷ other) more is longer =
    record { byte = next; following = other ++ more; is = is; on = same_byte next }
goes_on_from (first ∷ bytes) rest [] more is longer = absurd (omega arith)
goes_on_from (first ∷ bytes) rest (next ∷ other) more is longer =
    let same : first ≡ next = cc in
    let following : bytes ++ rest ≡ other ++ more = cc in
    let found = goes_on_from bytes rest other more following (omega arith) in
    let equal : (first == next) ≡ true = ap (λ (n : ℕ). first == n) (sym same) ∙ same_byte first in
    record {
      byte = found.byte;
      following = found.following;
      is = found.is;
      on = and_from (first == next) (goes_on bytes found.byte other) equal found.on;
    }

-- every text that has a kind in a table passes a test that all entries pass
kind_in-passes : (test : List ℕ → Bool) (entries : List (List ℕ × TokenKind)) (bytes : List ℕ)
    → list_all (λ entry. test entry.0) entries ≡ true → IsSome (kind_in entries bytes) → test bytes ≡ true
kind_in-passes test [] bytes each some = absurd (cc)
kind_in-passes test (entry ∷ entries) bytes each some =
    let parts = and_parts (test entry.0) (list_all (λ other. test other.0) entries) each in
    elim (cases_Bool (bytes_eq entry.0 bytes)) [
      | inl same ↦ subst (λ (found : List ℕ). test found ≡ true) (bytes_eq-true entry.0 bytes same) parts.0
      | inr other ↦ kind_in-passes test entries bytes parts.1 (rw other at some)
    ]

-- a number that is not less than another is at least as great
at_most : (size other : ℕ) → (size < other → ⊥) → other ≤ size
at_most size other short = omega (arith, short)

-- if no symbol begins with `bytes` and the first byte of `rest`, then no symbol that begins the text of `bytes` and
-- `rest` is longer than `bytes`
pub longest : (bytes rest : List ℕ)
    → ((byte : ℕ) (following : List ℕ) → rest ≡ byte ∷ following → ends_before bytes byte ≡ true) → IsLongest bytes rest
longest bytes rest ends other more some is = at_most (length bytes) (length other) (λ longer.
    let found = goes_on_from bytes rest other more is longer in
    let passes : not (goes_on bytes found.byte other) ≡ true =
    kind_in-passes (λ (text : List ℕ). not (goes_on bytes found.byte text)) symbols other
    (ends found.byte found.following found.is) some in
    let off = not-true (goes_on bytes found.byte other) passes in
    let on = found.on in
    absurd (cc))

-- if `bytes` is a symbol, no symbol begins with it and the first byte of `rest`, and no unsupported form begins
-- there, then the lexer may read the symbol before `rest`
pub symbol_read : (bytes : List ℕ) (kind : TokenKind) (rest : List ℕ) → symbol_kind bytes ≡ Some kind
    → ((byte : ℕ) (following : List ℕ) → rest ≡ byte ∷ following → ends_before bytes byte ≡ true)
    → unsupported (bytes ++ rest) ≡ None → IsRead (symbol bytes kind) rest
symbol_read bytes kind rest known ends supported =
    record { stands = (known, longest bytes rest ends); supported = supported; within = refl }
