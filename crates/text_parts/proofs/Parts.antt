-- The parts of a text that is cut at its separators: the first part, and those after it.
use Rattle.std.proofs.lemmas.Bool.Decides.{nat_tests}
use Rattle.std.proofs.lemmas.Grind.{common_steps}
use Rattle.std.proofs.Common.{◌≡◌, ℕ, ◌+◌, ◌<◌, ◌≤◌, ◌==◌, true, false, List, [], ◌∷◌, refl, length, get_or, take, drop}
use Rattle.std.proofs.Common.{arith}
use Rattle.std.proofs.lemmas.Bool.{false_from_ne_true}
use Rattle.std.proofs.lemmas.List.Splits.{slice_split-cons_no, slice_split_first, slice_split_none}
use Rattle.std.proofs.lemmas.List.Elements.{All-from_get_or}
use Rattle.std.proofs.lemmas.Slice.{between_to_end}
use Rattle.std.proofs.lemmas.List.Sums.{position_or_len_is}
use Rattle.std.specs.List.{onto_first}
use Rattle.text_parts.specs.Parts.{parts_at}

module _ (separator : ℕ) where
  -- if `byte` is no separator, putting it before a text puts it before the first part of the text
  pub parts_onto : (byte : ℕ) (text : List ℕ) → ((byte == separator) ≡ true → ⊥)
      → parts_at separator (byte ∷ text) ≡ onto_first byte (parts_at separator text)
  parts_onto byte text other = slice_split-cons_no (λ byte. byte == separator) byte text (false_from_ne_true _ other)

  -- if the first separator of a text is at `at`, the parts of the text are its first `at` bytes, followed by the
  -- parts of the text after `at`
  pub parts_cut : (text : List ℕ) (at : ℕ) → at < length text
      → ((k : ℕ) → k < at → (get_or text k 0 == separator) ≡ false) → (get_or text at 0 == separator) ≡ true
      → parts_at separator text ≡ take at text ∷ parts_at separator (drop (at + 1) text)
  parts_cut text at fits clear is = grind (arith, common_steps, nat_tests, position_or_len_is, slice_split_first)

  -- if the first separator of a text is at `at`, the parts of the text are its first `at` bytes, followed by the
  -- parts of the text after `at`; in the form that `grind` finds
  pub cut_at : (text : List ℕ) (at : ℕ) → at < length text
      → ((k : ℕ) → 0 ≤ k → k < at → (get_or text k 0 == separator) ≡ true → ⊥) → (get_or text at 0 == separator) ≡ true
      → ((get_or text at 0 == separator) ≡ (get_or text at 0 == separator))
      × (parts_at separator text ≡ take at text ∷ parts_at separator (drop (at + 1) text))
  cut_at text at within none is =
      (refl, parts_cut text at within (λ k below. false_from_ne_true _ (none k (omega arith) below)) is)

  -- a text without a separator is one part
  pub cut_nowhere : (text : List ℕ) → ((k : ℕ) → 0 ≤ k → k < length text → (get_or text k 0 == separator) ≡ true → ⊥)
      → parts_at separator text ≡ text ∷ []
  cut_nowhere text none =
      slice_split_none (λ byte. byte == separator) text
      (All-from_get_or (λ byte. (byte == separator) ≡ false) text 0
      (λ k below. false_from_ne_true _ (none k (omega arith) below)))

-- the lemmas for `grind` on what `cut` returns
pub ruleset cuts = (cut_at, cut_nowhere, between_to_end)
