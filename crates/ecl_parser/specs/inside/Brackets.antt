-- Matching of brackets, token by token: which bracket closes which.
use Rattle.std.specs.Prelude.{◌≡◌, ◌+◌, ◌&&◌, ℕ, Bool, true, false, List, [], ◌∷◌, length, drop, replicate, slice_index}
use Rattle.std.specs.Prelude.{slice_set}
use Rattle.ecl_lexer.specs.declared.token.TokenKind.{TokenKind}
use Rattle.ecl_lexer.specs.declared.token.TokenKind.TheVariants.{RoundOpen, RoundClose, BraceOpen, BraceClose}
use Rattle.constraint_tree.specs.Grammar.{Symbol}
use Rattle.ecl_parser.specs.declared.brackets.OpenBracket.{OpenBracket}
use Rattle.ecl_parser.specs.declared.tokens.Mark.TheVariants as marks
use Rattle.ecl_parser.specs.inside.Reading.{after_close, stands}

-- the state after some tokens were read
pub record Matching : Type 0 where
  -- the open brackets, the innermost first
  pub unclosed : List OpenBracket
  -- at the index of each closed opening bracket the index after its closing bracket, or else 0
  pub ends : List ℕ
  -- whether each closing bracket closed one of its kind
  pub are_matched : Bool

-- the state before the first of `count` tokens: no bracket is open or closed
abbrev pub nothing_matched : ℕ → Matching
nothing_matched count = record { unclosed = []; ends = replicate count 0; are_matched = true }

-- whether two brackets are both round or both braces
abbrev pub agree : Bool → Bool → Bool
agree true other = other
agree false true = false
agree false false = true

-- the state after a bracket opened at the index `place`
abbrev pub bracket_opened : ℕ → Bool → Matching → Matching
bracket_opened place is_round old =
    record old { unclosed = record { place = place; is_round = is_round } ∷ old.unclosed }

-- the state after a bracket at the index `place` closed the first bracket of the list, whatever its
-- kind; if the list is empty, `are_matched` is false
abbrev pub closed_by : List OpenBracket → ℕ → Bool → Matching → Matching
closed_by [] place is_round old = record { unclosed = []; ends = old.ends; are_matched = false }
closed_by (opened ∷ outer) place is_round old = record {
  unclosed = outer;
  ends = slice_set old.ends opened.place (place + 1);
  are_matched = agree opened.is_round is_round && old.are_matched;
}

-- the state after a bracket at the index `place` closed the innermost open bracket, whatever its
-- kind
abbrev pub bracket_closed : ℕ → Bool → Matching → Matching
bracket_closed place is_round old = closed_by old.unclosed place is_round old

-- the state after the token of `kind` at the index `place` was read, which opens a bracket, closes
-- one, or does neither
abbrev pub token_matched : ℕ → TokenKind → Matching → Matching
token_matched place RoundOpen old = bracket_opened place true old
token_matched place BraceOpen old = bracket_opened place false old
token_matched place RoundClose old = bracket_closed place true old
token_matched place BraceClose old = bracket_closed place false old
token_matched place other old = old

-- `ends` has at the index of each `(` the index after the `)` that closes it
pub record AreEnds (tokens : List Symbol) (ends : List ℕ) : Type 0 where
  -- there are as many ends as tokens
  pub long : length ends ≡ length tokens
  -- for each `(`, the tokens from its entry in `ends` on are those after the `)` that closes it
  pub closes : (place : ℕ) → stands marks.RoundOpen (drop place tokens) ≡ true
      → drop (slice_index ends place) tokens ≡ after_close 0 (drop (place + 1) tokens)
