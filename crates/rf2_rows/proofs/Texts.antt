-- Lemmas on texts: UTF-8, UUIDs, the name in a path, and words in a text.
use Rattle.std.proofs.lemmas.Bool.Decides.{nat_tests, Decides-eqb}
use Rattle.std.proofs.lemmas.Grind.{common_steps}
use Rattle.std.proofs.Common.{◌≡◌, ℕ, zero, suc, ◌+◌, ◌-◌, ◌<◌, ◌≤◌, get_or, add-sub_cancel, true, false, List, [], ◌∷◌}
use Rattle.std.proofs.Common.{Option, None, Some, length, drop, refl, ◌∙◌, inl, inr, arith, length-drop, nat_eq, ◌==◌}
use Rattle.std.proofs.Common.{◌↔◌, is_some}
use Rattle.std.specs.List.{after_last, starts_with}
use Rattle.std.proofs.lemmas.List.Sums.{suffix_len_is}
use Rattle.std.proofs.lemmas.Slice.{between_to_end}
use Rattle.std.proofs.lemmas.Bool.{false_from_ne_true, not_from_false, not_from_true, or_cases, or_left, or_right}
use Rattle.std.proofs.lemmas.Slice.Eq.{starts_is}
use Rattle.std.proofs.lemmas.List.Prefix.{at_from_reads, at_reads, front_fits}
use Rattle.std.proofs.lemmas.Str.{IsUtf8-from_is_utf8, is_utf8-from_IsUtf8}
use Rattle.bstr.specs.Find.{OccursAt}
use Rattle.rf2_rows.specs.Files.{holds}
use Rattle.uuid.specs.Text.{parsed, parsed_hyphenated}

-- rules for `grind`: the test of UTF-8 holds exactly if the text is UTF-8
pub ruleset utf8_tests = (is_utf8-from_IsUtf8, IsUtf8-from_is_utf8)

-- a text of 36 bytes is a UUID only in the hyphenated form
parsed_at_36 : (text : List ℕ) → length text ≡ 36 → parsed text ≡ parsed_hyphenated text
parsed_at_36 text long = rw long refl

-- if a text of 36 bytes is no UUID in any form, it is none in the hyphenated form
pub not_hyphenated : (text : List ℕ) → length text ≡ 36 → ((id : List ℕ) × (parsed text ≡ Some id) → ⊥)
    → (length text ≡ length text) × (is_some (parsed_hyphenated text) ≡ false)
not_hyphenated text long none = (refl, by (parsed_hyphenated text) refl)
  where
    by : (found : Option (List ℕ)) → parsed_hyphenated text ≡ found → is_some found ≡ false
    by None is = refl
    by (Some id) is = absurd (none (id, parsed_at_36 text long ∙ is))

-- if no `/` follows place `n` of a path, what follows its last `/` begins at `n`
after_from : (path : List ℕ) (n : ℕ) → n ≤ length path
    → ((k : ℕ) → n ≤ k → k < length path → (get_or path k 0 == 47) ≡ true → ⊥)
    → (0 < n → (get_or path (n - 1) 0 == 47) ≡ true) → after_last (λ byte. byte == 47) path ≡ drop n path
after_from path n fits none ends =
    grind (arith, common_steps, nat_tests, false_from_ne_true, not_from_false, not_from_true, suffix_len_is)

-- if the last `/` of a path is at `at`, the file's name is what follows it
pub following_last : (path : List ℕ) (at : ℕ) → at < length path → (get_or path at 0 == 47) ≡ true
    → ((k : ℕ) → at + 1 ≤ k → k < length path → (get_or path k 0 == 47) ≡ true → ⊥)
    → (get_or path at 0 ≡ get_or path at 0) × (after_last (λ byte. byte == 47) path ≡ drop (at + 1) path)
following_last path at within is none =
    (refl, after_from path (at + 1) (omega arith) none (λ some. rw add-sub_cancel is))

-- if a path has no `/`, the file's name is the whole path
pub after_none : (path : List ℕ) → ((k : ℕ) → 0 ≤ k → k < length path → (get_or path k 0 == 47) ≡ true → ⊥)
    → (length path ≡ length path) × (after_last (λ byte. byte == 47) path ≡ path)
after_none path none = (refl, after_from path 0 (omega arith) none (λ some. absurd (omega arith)))

-- rules for `grind` about the name of a file in a path, with and without `/`
pub ruleset names_in_paths = (following_last, after_none, between_to_end)

module _ (word : List ℕ) (some : 0 < length word) where
  -- the text from a place on begins with the word exactly if the word occurs at the place
  begins_OccursAt : (text : List ℕ) (k : ℕ) → starts_with nat_eq (drop k text) word ≡ true → OccursAt text word k
  begins_OccursAt text k begins =
      let rest = drop (length word) (drop k text) in
      let front = (starts_is Decides-eqb (drop k text) word (starts_with nat_eq (drop k text) word) refl).0 begins in
      record {
        fits = omega (arith, length-drop k text, front_fits (drop k text) word rest front);
        reads = at_reads 0 text word k rest front;
      }

  -- if the word occurs at a place, the text from there on begins with it
  OccursAt_begins : (text : List ℕ) (k : ℕ) → OccursAt text word k → starts_with nat_eq (drop k text) word ≡ true
  OccursAt_begins text k occurs =
      (starts_is Decides-eqb (drop k text) word (starts_with nat_eq (drop k text) word) refl).1
      (drop (k + length word) text) (at_from_reads 0 text word k occurs.fits occurs.reads)

  -- a text that holds the word has a place from which on it begins with the word
  holds_begins : (text : List ℕ) → holds word text ≡ true → (k : ℕ) × (starts_with nat_eq (drop k text) word ≡ true)
  holds_begins [] is = cc
  holds_begins (byte ∷ text) is = elim (or_cases (starts_with nat_eq (byte ∷ text) word) (holds word text) is) [
    | inl here ↦ (0, here)
    | inr later ↦ let found = holds_begins text later in (suc found.0, found.1)
  ]

  -- a text that from some place on begins with the word holds the word
  begins_holds : (text : List ℕ) (k : ℕ) → starts_with nat_eq (drop k text) word ≡ true → holds word text ≡ true
  begins_holds [] k begins = absurd (omega (arith, (begins_OccursAt [] k begins).fits))
  begins_holds (byte ∷ text) zero begins = or_left _ _ begins
  begins_holds (byte ∷ text) (suc k) begins = or_right _ _ (begins_holds text k begins)

  -- `holds word text` is true exactly if the word occurs at some place of the text
  pub holds_tells : (text : List ℕ) → (holds word text ≡ holds word text)
      × ((holds word text ≡ true) ↔ ((k : ℕ) × OccursAt text word k))
  holds_tells text = (
    refl,
    (
      λ is. let found = holds_begins text is in (found.0, begins_OccursAt text found.0 found.1),
      λ (k, occurs). begins_holds text k (OccursAt_begins text k occurs),
    ),
  )
