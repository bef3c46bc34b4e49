-- Classes of bytes in a constraint, and runs of such bytes (Expression Constraint Language 2.2, 5.1
-- "Brief syntax": ws, digit, alpha).
use Rattle.std.specs.Prelude.{◌≡◌, ℕ, ◌<◌, ◌||◌, ◌==◌, not, Bool, true, false, List, [], ◌∷◌, length, drop}
use Rattle.std.specs.Char.{is_ascii_alphabetic, is_ascii_digit}
use Rattle.std.specs.List.{list_all, prefix_len}

-- whether a byte is a space, a tab, CR or LF
abbrev pub is_space : ℕ → Bool
is_space byte = byte == 32 || byte == 9 || byte == 13 || byte == 10

-- whether a byte is a letter, a digit or `-`, as the bytes before the `#` of an alternate
-- identifier
abbrev pub is_code_byte : ℕ → Bool
is_code_byte byte = is_ascii_alphabetic byte || is_ascii_digit byte || byte == 45

-- whether a byte may stand inside a term: any byte but `|`
abbrev pub is_term_byte : ℕ → Bool
is_term_byte byte = not (byte == 124)

-- whether a text begins with a byte that passes a test
abbrev pub begins : (ℕ → Bool) → List ℕ → Bool
begins test [] = false
begins test (byte ∷ text) = test byte

-- whether a text begins with the byte `byte`
abbrev pub begins_with : ℕ → List ℕ → Bool
begins_with byte text = begins (λ first. first == byte) text

-- the text that is left after all bytes at its front that pass `test`
abbrev pub after_run : (ℕ → Bool) → List ℕ → List ℕ
after_run test text = drop (prefix_len test text) text

-- `run` is a whole run of bytes that pass `test`, directly before `rest`: it has at least one byte,
-- each of its bytes passes `test`, and the first byte of `rest` does not
pub record IsRun (test : ℕ → Bool) (run rest : List ℕ) : Type 0 where
  -- the run has at least one byte
  pub some : 0 < length run
  -- each byte of the run passes the test
  pub each : list_all test run ≡ true
  -- `rest` does not begin with a byte that passes the test
  pub ended : begins test rest ≡ false
