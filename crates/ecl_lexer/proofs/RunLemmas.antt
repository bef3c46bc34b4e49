-- Runs at the front of a text.
use Rattle.std.proofs.Common.{ℕ, zero, suc, ◌≡◌, ◌+◌, ◌≤◌, ◌++◌, inl, inr, List, [], ◌∷◌, Bool, true, false, length}
use Rattle.std.proofs.Common.{take, drop, refl, arith}
use Rattle.std.specs.List.{list_all, prefix_len}
use Rattle.std.proofs.lemmas.Bool.{cases_Bool, and_from, and_parts}
use Rattle.ecl_lexer.specs.Bytes.{begins}

-- if each byte of `run` passes `test` and the first byte of `rest` does not, `prefix_len` of `run` and `rest` is the
-- length of `run`
pub prefix_len-run : (test : ℕ → Bool) (run rest : List ℕ) → list_all test run ≡ true → begins test rest ≡ false
    → prefix_len test (run ++ rest) ≡ length run
prefix_len-run test [] [] each ended = refl
prefix_len-run test [] (x ∷ rest) each ended = rw ended refl
prefix_len-run test (x ∷ run) rest each ended =
    let parts = and_parts (test x) (list_all test run) each in
    let here : test x ≡ true = parts.0 in
    let more = prefix_len-run test run rest parts.1 ended in
    rw (here, more) (omega arith)

-- each byte that `prefix_len` counts passes the test
pub prefix_len-each : (test : ℕ → Bool) (text : List ℕ) → list_all test (take (prefix_len test text) text) ≡ true
prefix_len-each test [] = refl
prefix_len-each test (x ∷ text) = elim (cases_Bool (test x)) [
  | inl passes ↦
      let more : 1 + prefix_len test text ≡ suc (prefix_len test text) = omega arith in
      rw (passes, more) (and_from (test x) (list_all test (take (prefix_len test text) text)) passes
      (prefix_len-each test text))
  | inr fails ↦ rw fails refl
]

-- the text after the bytes that `prefix_len` counts does not begin with a byte that passes `test`
pub prefix_len-ended : (test : ℕ → Bool) (text : List ℕ) → begins test (drop (prefix_len test text) text) ≡ false
prefix_len-ended test [] = refl
prefix_len-ended test (x ∷ text) = elim (cases_Bool (test x)) [
  | inl passes ↦
      let more : 1 + prefix_len test text ≡ suc (prefix_len test text) = omega arith in
      rw (passes, more) (prefix_len-ended test text)
  | inr fails ↦ rw fails fails
]

-- if at least `n` bytes at the front of `text` pass `test`, `prefix_len` falls by `n` when the first `n` bytes are
-- dropped
pub prefix_len-drop : (test : ℕ → Bool) (n : ℕ) (text : List ℕ) → n ≤ prefix_len test text
    → prefix_len test (drop n text) + n ≡ prefix_len test text
prefix_len-drop test zero text within = omega arith
prefix_len-drop test (suc n) [] within = absurd (omega arith)
prefix_len-drop test (suc n) (x ∷ text) within = elim (cases_Bool (test x)) [
  | inl passes ↦
      let room : suc n ≤ 1 + prefix_len test text = rw passes at within in
      let more = prefix_len-drop test n text (omega arith) in
      rw passes (omega arith)
  | inr fails ↦ let none : suc n ≤ 0 = rw fails at within in absurd (omega arith)
]
