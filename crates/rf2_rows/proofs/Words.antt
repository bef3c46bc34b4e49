-- Texts that are compared word by word.
use Rattle.std.proofs.Common.{◌≡◌, ℕ, ◌+◌, ◌-◌, ◌<◌, ◌≤◌, w64, List, length, get_or, take, drop, refl, sym, ap, ◌∙◌, arith}
use Rattle.std.proofs.Common.{get_or-drop, get_or-take, inl, inr, length-drop, length-take, subst}
use Rattle.std.proofs.lemmas.List.{get_or_past, length-take-le}
use Rattle.std.specs.Int.{from_le_bytes}
use Rattle.std.proofs.lemmas.Bool.{cases_lt}
use Rattle.std.proofs.lemmas.Grind.{same_number_lists}
use Rattle.std.proofs.lemmas.Nat.{le_bytes_8}

-- two texts of eight bytes are equal if the numbers that their bytes make are equal
same_word : (one other : List ℕ) → length one ≡ 8 → length other ≡ 8
    → ((i : ℕ) → get_or one i 0 < 256) → ((i : ℕ) → get_or other i 0 < 256)
    → from_le_bytes w64 one ≡ from_le_bytes w64 other → one ≡ other
same_word one other one_long other_long one_bytes other_bytes same =
    sym (le_bytes_8 one (from_le_bytes w64 other) one_long one_bytes (sym same))
    ∙ le_bytes_8 other (from_le_bytes w64 other) other_long other_bytes refl

-- bytes below 256 stay so in a part of a text
bytes_at : (text : List ℕ) (place : ℕ) → ((i : ℕ) → get_or text i 0 < 256)
    → (i : ℕ) → get_or (take 8 (drop place text)) i 0 < 256
bytes_at text place bytes i = elim (cases_lt i 8) [
  | inl lt ↦ subst (λ byte. byte < 256) (sym (get_or-take 8 (drop place text) i 0 lt ∙ get_or-drop place text i 0))
      (bytes (place + i))
  | inr ge ↦ subst (λ byte. byte < 256)
      (sym (get_or_past (take 8 (drop place text)) i 0 (omega (arith, length-take 8 (drop place text)))))
      (omega arith)
]

-- two texts have the same eight bytes from `place` on if the numbers that these make are equal
pub same_word_at : (one other : List ℕ) (place : ℕ) → place + 8 ≤ length one → place + 8 ≤ length other
    → ((i : ℕ) → get_or one i 0 < 256) → ((i : ℕ) → get_or other i 0 < 256)
    → from_le_bytes w64 (take 8 (drop place one)) ≡ from_le_bytes w64 (take 8 (drop place other))
    → take 8 (drop place one) ≡ take 8 (drop place other)
same_word_at one other place one_long other_long one_bytes other_bytes same =
    let eight = λ (text : List ℕ) (long : place + 8 ≤ length text).
    length-take-le 8 (drop place text) (omega (arith, length-drop place text)) in
    same_word (take 8 (drop place one)) (take 8 (drop place other)) (eight one one_long) (eight other other_long)
    (bytes_at one place one_bytes) (bytes_at other place other_bytes) same

-- if two texts have the same eight bytes from `place` on, they have the same byte at each of these places
byte_in_word : (one other : List ℕ) (place k : ℕ) → place ≤ k → k < place + 8
    → take 8 (drop place one) ≡ take 8 (drop place other) → get_or one k 0 ≡ get_or other k 0
byte_in_word one other place k from below same =
    let byte_of = λ (text : List ℕ). get_or-take 8 (drop place text) (k - place) 0 (omega arith)
    ∙ get_or-drop place text (k - place) 0 in
    let back : place + (k - place) ≡ k = omega arith in
    ap (λ i. get_or one i 0) (sym back) ∙ sym (byte_of one) ∙ ap (λ word. get_or word (k - place) 0) same
    ∙ byte_of other ∙ ap (λ i. get_or other i 0) back

-- two texts of 18 bytes are equal if they have the same eight bytes from the places 0, 8 and 10 on
pub same_identifier : (one other : List ℕ) → length one ≡ 18 → length other ≡ 18
    → take 8 (drop 0 one) ≡ take 8 (drop 0 other) → take 8 (drop 8 one) ≡ take 8 (drop 8 other)
    → take 8 (drop 10 one) ≡ take 8 (drop 10 other)
    → one ≡ other
same_identifier one other one_long other_long first second last =
    same_number_lists one other (omega arith) (λ k within. elim (cases_lt k 8) [
      | inl lt ↦ byte_in_word one other 0 k (omega arith) (omega arith) first
      | inr ge ↦ elim (cases_lt k 16) [
        | inl lt ↦ byte_in_word one other 8 k (omega arith) (omega arith) second
        | inr ge ↦ byte_in_word one other 10 k (omega arith) (omega arith) last
      ]
    ])
