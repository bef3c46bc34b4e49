-- The name in the line of a concept.
use Rattle.std.proofs.lemmas.Bool.Decides.{nat_tests}
use Rattle.std.proofs.lemmas.Grind.{common_steps}
use Rattle.std.proofs.Common.{ℕ, ◌≡◌, ◌≤◌, ◌+◌, ◌-◌, ◌++◌, ◌∷◌, [], List, Option, Some, length, get_or, drop, refl}
use Rattle.std.proofs.Common.{arith, length-append, append_assoc, get_or-drop, codes, decimal, slice_range, drop-drop}
use Rattle.std.proofs.Common.{drop_at, get_or-append-add, take-append-drop, take_at}
use Rattle.std.proofs.lemmas.List.{append_cancel_left, append_cancel_right, get_or_at}
use Rattle.held_release.specs.Line.{concept_line, name_text}
use Rattle.number_lists.proofs.CutLemmas.{length-range}

-- a line with a name between two places
module _ (texts digits name : List ℕ) (from to : ℕ) (rise : from ≤ to) (end : to ≤ length texts)
    (line : slice_range texts from to ≡ (digits ++ name_text (Some name)) ++ 10 ∷ []) where
  -- a line with a name has four bytes more than its digits and its name
  length-line : to ≡ from + length digits + length name + 4
  length-line = grind (arith, common_steps, nat_tests, length-range, length-append)

  -- the digits and the bytes before the name are two more than the digits
  long-front : length (digits ++ codes " |") ≡ length digits + 2
  long-front = length-append digits (codes " |")

  -- the text from `from` on is the digits, a space and a bar, the name, a bar and LF, and the text from `to` on
  from_line : drop from texts ≡ (digits ++ codes " |") ++ (name ++ 124 ∷ 10 ∷ drop to texts)
  from_line = grind (
    arith,
    (take-append-drop (to - from) (drop from texts)),
    (drop-drop (to - from) from texts),
    append_assoc,
  )

  -- the byte before the name is a bar
  bar_before : get_or texts (from + (length digits + 1)) 0 ≡ 124
  bar_before = grind (arith, common_steps, nat_tests, append_assoc, from_line, get_or, get_or-append-add, get_or-drop)

  -- the byte after the name is a bar
  bar_after : get_or texts (to - 2) 0 ≡ 124
  bar_after = grind (
    arith,
    length-line,
    from_line,
    (get_or-drop from texts (length digits + 2 + length name) 0),
    append_assoc,
    (get_or_at ((digits ++ codes " |") ++ name) 124 (10 ∷ drop to texts) 0
        (length digits + 2 + length name)),
    (length-append (digits ++ codes " |") name),
    long-front,
  )

  -- the text between the two bars of a line is its name
  name_found : slice_range texts (from + (length digits + 1) + 1) (to - 2) ≡ name
  name_found = grind (
    arith,
    length-line,
    (drop-drop (length digits + 2) from texts),
    from_line,
    (drop_at (digits ++ codes " |") (name ++ 124 ∷ 10 ∷ drop to texts) (length digits + 2) long-front),
    (take_at name (124 ∷ 10 ∷ drop to texts) (length name) refl),
  )

-- a line that is longer than one without a name has a name
has_name : (texts digits : List ℕ) (concept from to : ℕ) → digits ≡ decimal concept → from ≤ to → to ≤ length texts
    → (name : Option (List ℕ)) × (slice_range texts from to ≡ concept_line (λ _. name) concept)
    → (to - from ≡ length digits + 1 → ⊥)
    → (name : List ℕ) × (slice_range texts from to ≡ (digits ++ name_text (Some name)) ++ 10 ∷ [])
has_name texts digits concept from to same rise end x8 long =
    grind (arith, common_steps, nat_tests, length-range, name_text)

-- if the line of `concept`, from the index `from` to `to` of `texts`, is longer than its digits and LF, it has a
-- name; the name is between two bars
pub named_line : (texts digits : List ℕ) (concept from to : ℕ) → digits ≡ decimal concept → from ≤ to
    → to ≤ length texts
    → (name : Option (List ℕ)) × (slice_range texts from to ≡ concept_line (λ _. name) concept)
    → (to - from ≡ length digits + 1 → ⊥)
    → (name : List ℕ) × (slice_range texts from to ≡ (digits ++ name_text (Some name)) ++ 10 ∷ [])
    × (to ≡ from + length digits + length name + 4)
    × (get_or texts (from + (length digits + 1)) 0 ≡ 124) × (get_or texts (to - 2) 0 ≡ 124)
    × (slice_range texts (from + (length digits + 1) + 1) (to - 2) ≡ name)
named_line texts digits concept from to same rise end line long =
    let (name, is) = has_name texts digits concept from to same rise end line long in (
      name,
      is,
      length-line texts digits name from to rise end is,
      bar_before texts digits name from to rise end is,
      bar_after texts digits name from to rise end is,
      name_found texts digits name from to rise end is,
    )

-- if two lines of one concept are equal, so are their names
pub same_name : (concept : ℕ) (one other : Option (List ℕ))
    → concept_line (λ _. one) concept ≡ concept_line (λ _. other) concept → one ≡ other
same_name concept one other same = grind (arith, append_cancel_left, append_cancel_right)
