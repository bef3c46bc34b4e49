-- How a text is cut into parts that end with a line feed.
use Rattle.std.proofs.Common.{◌≡◌, ◌≢◌, ℕ, zero, suc, ◌+◌, ◌<◌, ◌≤◌, true, eqb, List, [], ◌∷◌, ◌++◌, length, get_or}
use Rattle.std.proofs.Common.{take, drop, refl, sym, ap, ◌∙◌, inl, inr, append-nil, append_assoc, arith}
use Rattle.std.proofs.lemmas.Bool.{false_from_ne_true, eqb-true, eq-eqb, cases_eq}
use Rattle.std.proofs.lemmas.List.Elements.{All-nil, All-cons, All-head, All-tail}
use Rattle.std.specs.List.{onto_first, concat}
use Rattle.release_files.specs.Lines.{parts, numbered, HasNoFeed, AreLines, no_more, unended, ended, PartsAreLines}

-- no line feed is among the first `count` bytes
abbrev pub NoFeed : List ℕ → ℕ → Type 0
NoFeed bytes count = (k : ℕ) → k < count → eqb (get_or bytes k 0) 10 ≡ true → ⊥

-- a byte that is no line feed goes to the front of the first part
parts_onto : (byte : ℕ) (bytes : List ℕ) → (eqb byte 10 ≡ true → ⊥)
    → parts (byte ∷ bytes) ≡ onto_first byte (parts bytes)
parts_onto byte bytes other = rw (false_from_ne_true (eqb byte 10) other) refl

-- if the first line feed is at index `at`, the first part is the bytes up to it, including it, and the other parts are
-- those of the bytes after it
pub parts_first : (bytes : List ℕ) (at : ℕ) → at < length bytes → NoFeed bytes at → eqb (get_or bytes at 0) 10 ≡ true
    → parts bytes ≡ take (suc at) bytes ∷ parts (drop (suc at) bytes)
parts_first [] at fits none is = absurd (omega arith)
parts_first (byte ∷ bytes) zero fits none is = rw is refl
parts_first (byte ∷ bytes) (suc at) fits none is =
    let rest = parts_first bytes at (omega arith) (λ k below. none (suc k) (omega arith)) is in
    rw (parts_onto byte bytes (none 0 (omega arith)), rest) refl

-- bytes without a line feed are one part, if there is at least one byte
pub parts_last : (bytes : List ℕ) → 0 < length bytes → NoFeed bytes (length bytes) → parts bytes ≡ bytes ∷ []
parts_last [] some none = absurd (omega arith)
parts_last (byte ∷ []) some none = parts_onto byte [] (none 0 (omega arith))
parts_last (byte ∷ next ∷ bytes) some none =
    let rest = parts_last (next ∷ bytes) (omega arith) (λ k below. none (suc k) (omega arith)) in
    rw (parts_onto byte (next ∷ bytes) (none 0 (omega arith)), rest) refl

-- if a text begins with bytes without a line feed and then a line feed, these are its first part
pub parts_ended : (bytes rest : List ℕ) → HasNoFeed bytes → parts (bytes ++ 10 ∷ rest) ≡ (bytes ++ 10 ∷ []) ∷ parts rest
parts_ended [] rest clear = refl
parts_ended (byte ∷ bytes) rest clear =
    let other = All-head (λ x. x ≢ 10) byte bytes clear in
    let others = parts_ended bytes rest (All-tail (λ x. x ≢ 10) byte bytes clear) in
    rw (parts_onto byte (bytes ++ 10 ∷ rest) (λ is. other (eqb-true byte 10 is)), others) refl

-- one or more bytes without a line feed are one part
parts_unended : (byte : ℕ) (bytes : List ℕ) → HasNoFeed (byte ∷ bytes) → parts (byte ∷ bytes) ≡ (byte ∷ bytes) ∷ []
parts_unended byte bytes clear =
    parts_last (byte ∷ bytes) (omega arith) (λ k below is. clear k 0 below (eqb-true _ 10 is))

-- lines are the parts of the text that they make when joined
parts_of_lines : (cut : List (List ℕ)) → AreLines cut → cut ≡ parts (concat cut)
parts_of_lines _ no_more = refl
parts_of_lines _ (unended byte bytes clear) =
    sym (ap parts (append-nil (byte ∷ bytes)) ∙ parts_unended byte bytes clear)
parts_of_lines _ (ended bytes others clear lines) =
    rw (append_assoc, parts_ended bytes (concat others) clear)
    (ap (λ rest. (bytes ++ 10 ∷ []) ∷ rest) (parts_of_lines others lines))

-- lines stay lines if a byte other than a line feed is put in front of the first
lines_onto : (byte : ℕ) (cut : List (List ℕ)) → byte ≢ 10 → AreLines cut → AreLines (onto_first byte cut)
lines_onto byte _ other no_more = unended byte [] (All-cons (λ x. x ≢ 10) byte [] other (All-nil (λ x. x ≢ 10)))
lines_onto byte _ other (unended next bytes clear) =
    unended byte (next ∷ bytes) (All-cons (λ x. x ≢ 10) byte (next ∷ bytes) other clear)
lines_onto byte _ other (ended bytes others clear lines) =
    ended (byte ∷ bytes) others (All-cons (λ x. x ≢ 10) byte bytes other clear) lines

-- lines with a byte put in front make, when joined, the text with that byte in front
concat_onto : (byte : ℕ) (cut : List (List ℕ)) → concat (onto_first byte cut) ≡ byte ∷ concat cut
concat_onto byte [] = refl
concat_onto byte (part ∷ cut) = refl

length-onto : (byte : ℕ) (cut : List (List ℕ)) → length (onto_first byte cut) ≤ suc (length cut)
length-onto byte [] = omega arith
length-onto byte (part ∷ cut) = omega arith

-- the parts of a text are lines, and joined they are the text
pub lines_of_parts : (bytes : List ℕ) → AreLines (parts bytes) × (concat (parts bytes) ≡ bytes)
lines_of_parts [] = (no_more, refl)
lines_of_parts (byte ∷ bytes) =
    let rest = lines_of_parts bytes in
    elim (cases_eq byte 10) [
      | inl is ↦ rw (eq-eqb byte 10 is)
          (rw is (ended [] (parts bytes) (All-nil (λ x. x ≢ 10)) rest.0), ap (λ bytes. byte ∷ bytes) rest.1)
      | inr other ↦ rw (parts_onto byte bytes (λ is. other (eqb-true byte 10 is))) (
        lines_onto byte (parts bytes) other rest.0,
        concat_onto byte (parts bytes)
            ∙ ap (λ bytes. byte ∷ bytes) rest.1,
      )
    ]

-- `parts bytes` is the only way to cut `bytes` into lines
pub parts_are_lines : (bytes : List ℕ) → PartsAreLines bytes
parts_are_lines bytes cut =
    let lines = lines_of_parts bytes in (
      λ is. parts_of_lines cut is.0 ∙ ap parts is.1,
      λ is. rw is lines,
    )

-- a text has no more parts than bytes
pub length-parts : (bytes : List ℕ) → length (parts bytes) ≤ length bytes
length-parts [] = omega arith
length-parts (byte ∷ bytes) = elim (cases_eq byte 10) [
  | inl is ↦ rw (eq-eqb byte 10 is) (omega (arith, length-parts bytes))
  | inr other ↦ rw (parts_onto byte bytes (λ is. other (eqb-true byte 10 is)))
      (omega (arith, length-parts bytes, length-onto byte (parts bytes)))
]

-- a text has as many lines as parts
length-numbered : (number end : ℕ) (cut : List (List ℕ)) → length (numbered number end cut) ≡ length cut
length-numbered number end [] = refl
length-numbered number end (part ∷ cut) = ap suc (length-numbered (number + 1) (end + length part) cut)

-- a text has no more lines than bytes
pub length-lines : (number end : ℕ) (bytes : List ℕ) → length (numbered number end (parts bytes)) ≤ length bytes
length-lines number end bytes = rw (length-numbered number end (parts bytes)) (length-parts bytes)
