-- The refusals of a text: a text has at most one, and a text with tokens has none.
use Rattle.std.proofs.Common.{ℕ, ◌≡◌, ◌<◌, ◌≤◌, ◌∙◌, ◌⊎◌, inl, inr, List, [], length, refl, sym, ap, arith}
use Rattle.std.specs.Prelude.{Err}
use Rattle.std.specs.Str.{IsUtf8}
use Rattle.ecl_lexer.specs.declared.fault.QueryFault.{QueryFault}
use Rattle.ecl_lexer.specs.declared.fault.QueryFault.TheVariants.{Long, Utf8, Token, Unsupported, Limit, Depth, Syntax}
use Rattle.ecl_lexer.specs.declared.fault.QueryFault.TheVariants.{Memory}
use Rattle.ecl_lexer.specs.Refusals.{Cause, form, nothing, limit, fault_at}
use Rattle.ecl_lexer.specs.Reading.{reading}
use Rattle.ecl_lexer.specs.Tokens.{AreTokensOf, IsFaultOf, IsReadable, IsRefusedAt, Spelled, most_bytes}
use Rattle.ecl_lexer.proofs.CutLemmas.{same_cut, Ends-nil, Ends-refused}
use Rattle.ecl_lexer.proofs.ReadLemmas.{reading-refused, refused_some}

-- if a readable text is refused at an offset for a cause, the fault of this cause at this offset is a fault of the
-- text
pub IsFaultOf-at : (text : List ℕ) (offset : ℕ) (cause : Cause) → IsReadable text → IsRefusedAt text offset cause
    → IsFaultOf text (fault_at offset cause)
IsFaultOf-at text offset (form feature) readable refused = (readable, refused)
IsFaultOf-at text offset nothing readable refused = (readable, refused)
IsFaultOf-at text offset limit readable refused = (readable, refused)

-- `text` is readable, and `fault` is `Token`, `Unsupported` or `Limit` at the offset at which `text` is refused
pub record IsRefusal (text : List ℕ) (fault : QueryFault) : Type 0 where
  -- the text has at most `most_bytes` bytes and is UTF-8
  pub readable : IsReadable text
  -- the offset at which nothing is read
  pub offset : ℕ
  -- why nothing is read there
  pub cause : Cause
  -- the text is cut up to the offset, and nothing is read there, for the cause
  pub refused : IsRefusedAt text offset cause
  -- `fault` is the fault of the cause at the offset
  pub is : fault ≡ fault_at offset cause

fault_cases : (text : List ℕ) (fault : QueryFault) → IsFaultOf text fault
    → ((fault ≡ Long) × (most_bytes < length text))
    ⊎ (((fault ≡ Utf8) × (length text ≤ most_bytes) × (IsUtf8 text → ⊥)) ⊎ IsRefusal text fault)
fault_cases text Long is = inl (refl, is)
fault_cases text Utf8 is = inr (inl (refl, is.0, is.1))
fault_cases text (Token offset) is =
    inr (inr (record { readable = is.0; offset = offset; cause = nothing; refused = is.1; is = refl }))
fault_cases text (Unsupported offset feature) is =
    inr (inr (record { readable = is.0; offset = offset; cause = form feature; refused = is.1; is = refl }))
fault_cases text (Limit offset) is =
    inr (inr (record { readable = is.0; offset = offset; cause = limit; refused = is.1; is = refl }))
fault_cases text Depth is = absurd is
fault_cases text Syntax is = absurd is
fault_cases text Memory is = absurd is

same_refusal : (text : List ℕ) (first second : ℕ) (cause other : Cause) → IsRefusedAt text first cause
    → IsRefusedAt text second other
    → fault_at first cause ≡ fault_at second other
same_refusal text first second cause other (ps, r, cut, place, refuses) (qs, s, next_cut, next_place, next_refuses) =
    let same = same_cut text ps qs r s cut next_cut (Ends-refused r cause refuses)
    (Ends-refused s other next_refuses) in
    let offsets : first ≡ second = omega (arith, place, next_place, ap length same.1) in
    let one : reading first r ≡ Err (fault_at first cause) = reading-refused first r cause refuses in
    let two : reading second s ≡ Err (fault_at second other) = reading-refused second s other next_refuses in
    let alike : reading first r ≡ reading second s = ap (λ (n : ℕ). reading n r) offsets ∙ ap (reading second) same.1 in
    cc

-- a text has at most one fault: two faults of `text` are equal
pub same_fault : (text : List ℕ) (one other : QueryFault) → IsFaultOf text one → IsFaultOf text other → one ≡ other
same_fault text one other first second = elim (fault_cases text one first) [
  | inl (is_long, long) ↦ elim (fault_cases text other second) [
    | inl (other_long, _) ↦ cc
    | inr (inl (_, short, _)) ↦ absurd (omega (arith, long, short))
    | inr (inr refusal) ↦ absurd (omega (arith, long, refusal.readable.0))
  ]
  | inr (inl (is_utf8, short, bad)) ↦ elim (fault_cases text other second) [
    | inl (_, long) ↦ absurd (omega (arith, long, short))
    | inr (inl (other_utf8, _, _)) ↦ cc
    | inr (inr refusal) ↦ absurd (bad refusal.readable.1)
  ]
  | inr (inr refusal) ↦ elim (fault_cases text other second) [
    | inl (_, long) ↦ absurd (omega (arith, long, refusal.readable.0))
    | inr (inl (_, _, bad)) ↦ absurd (bad refusal.readable.1)
    | inr (inr other_refusal) ↦
        refusal.is
        ∙ same_refusal text refusal.offset other_refusal.offset refusal.cause other_refusal.cause refusal.refused
        other_refusal.refused
        ∙ sym other_refusal.is
  ]
]

-- a readable text that has tokens has no fault
pub tokens_no_fault : (text : List ℕ) (tokens : List Spelled) (fault : QueryFault) → IsReadable text
    → AreTokensOf text tokens → IsFaultOf text fault → ⊥
tokens_no_fault text tokens fault readable (lexemes, cut, is) faulty = elim (fault_cases text fault faulty) [
  | inl (_, long) ↦ absurd (omega (arith, long, readable.0))
  | inr (inl (_, _, bad)) ↦ bad readable.1
  | inr (inr refusal) ↦
      let (ps, rest, refused_cut, place, refuses) = refusal.refused in
      let same = same_cut text lexemes ps [] rest cut refused_cut Ends-nil (Ends-refused rest refusal.cause refuses) in
      absurd (omega (arith, refused_some rest refusal.cause refuses, ap length same.1))
]

-- a text has at most one list of tokens: two lists of tokens of `text` are equal
pub same_tokens : (text : List ℕ) (one other : List Spelled) → AreTokensOf text one → AreTokensOf text other
    → one ≡ other
same_tokens text one other (ps, cut, is) (qs, next_cut, next_is) =
    let same = (same_cut text ps qs [] [] cut next_cut Ends-nil Ends-nil).0 in cc
