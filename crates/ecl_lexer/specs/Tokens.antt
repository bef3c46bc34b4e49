-- The tokens of a text, and its refusals before the grammar is looked at (Expression Constraint
-- Language 2.2, 5.1 "Brief syntax").
use Rattle.std.specs.Prelude.{◌≡◌, ℕ, ◌+◌, ◌<◌, ◌≤◌, List, [], ◌∷◌, length, take, drop, ◌-◌, Option, None, Some}
use Rattle.std.specs.Str.{IsUtf8}
use Rattle.ecl_lexer.specs.declared.fault.QueryFault.{QueryFault}
use Rattle.ecl_lexer.specs.declared.fault.QueryFault.TheVariants.{Long, Utf8, Token as NoToken, Unsupported, Limit}
use Rattle.ecl_lexer.specs.declared.fault.QueryFault.TheVariants.{Depth, Syntax, Memory}
use Rattle.ecl_lexer.specs.declared.token.Token.{Token}
use Rattle.ecl_lexer.specs.declared.token.TokenKind.{TokenKind}
use Rattle.ecl_lexer.specs.Lexemes.{Lexeme, lexeme_text, bytes_of, kind_of}
use Rattle.ecl_lexer.specs.Refusals.{Cause, form, nothing, limit, IsRead, Refuses}

-- the bytes of the lexemes, one lexeme after another, followed by `rest`
abbrev pub lexemes_text : List Lexeme → List ℕ → List ℕ
lexemes_text [] rest = rest
lexemes_text (lexeme ∷ lexemes) rest = lexeme_text lexeme (lexemes_text lexemes rest)

-- the lexer reads each of the lexemes before the text that follows it, which ends with `rest`
abbrev pub AreRead : List Lexeme → List ℕ → Type 0
AreRead [] rest = Unit {0}
AreRead (lexeme ∷ lexemes) rest = IsRead lexeme (lexemes_text lexemes rest) × AreRead lexemes rest

-- `text` is `lexemes`, without gaps, and then `rest`, and each lexeme is the longest that begins at
-- its offset
pub record IsCut (text : List ℕ) (lexemes : List Lexeme) (rest : List ℕ) : Type 0 where
  -- the text is the bytes of the lexemes, followed by `rest`
  pub whole : text ≡ lexemes_text lexemes rest
  -- the lexer reads each of the lexemes before the text that follows it
  pub each : AreRead lexemes rest

-- a token as the grammar sees it: its kind and the bytes that spell it
pub record Spelled : Type 0 where
  -- the kind of the token
  pub kind : TokenKind
  -- the bytes that spell the token
  pub bytes : List ℕ

-- a token and its offsets in the text
pub record Placed : Type 0 where
  -- the token without its place
  pub token : Spelled
  -- the offset of the first byte of the token
  pub start : ℕ
  -- the offset after the last byte of the token
  pub end : ℕ

-- the token with these bytes in front of `tokens`, or only `tokens` if there is no kind, because
-- the bytes are a blank
abbrev pub with_spelled : Option TokenKind → List ℕ → List Spelled → List Spelled
with_spelled None bytes tokens = tokens
with_spelled (Some kind) bytes tokens = record { kind = kind; bytes = bytes } ∷ tokens

-- the token with these bytes and its offsets in front of `tokens`, or only `tokens` if there is no
-- kind, because the bytes are a blank
abbrev pub with_placed : Option TokenKind → List ℕ → ℕ → List Placed → List Placed
with_placed None bytes start tokens = tokens
with_placed (Some kind) bytes start tokens =
    record {
      token = record { kind = kind; bytes = bytes };
      start = start;
      end = start + length bytes;
    } ∷ tokens

-- the tokens among the lexemes
abbrev pub spelled_tokens : List Lexeme → List Spelled
spelled_tokens [] = []
spelled_tokens (lexeme ∷ lexemes) =
    with_spelled (kind_of lexeme) (bytes_of lexeme) (spelled_tokens lexemes)

-- the tokens among the lexemes, with their offsets. The first lexeme begins at the offset `start`
abbrev pub placed_tokens : ℕ → List Lexeme → List Placed
placed_tokens start [] = []
placed_tokens start (lexeme ∷ lexemes) =
    with_placed (kind_of lexeme) (bytes_of lexeme) start
    (placed_tokens (start + length (bytes_of lexeme)) lexemes)

-- `text` is cut into lexemes with nothing left, and `tokens` are the tokens among them
abbrev pub AreTokensOf : List ℕ → List Spelled → Type 0
AreTokensOf text tokens = (lexemes : List Lexeme) × IsCut text lexemes []
    × (tokens ≡ spelled_tokens lexemes)

-- `text` is cut into lexemes with nothing left, and `tokens` are the tokens among them, with their
-- offsets
abbrev pub ArePlacedIn : List ℕ → List Placed → Type 0
ArePlacedIn text tokens = (lexemes : List Lexeme) × IsCut text lexemes []
    × (tokens ≡ placed_tokens 0 lexemes)

-- a token of the code as the grammar sees it
abbrev pub spelled : Token → Spelled
spelled token = record { kind = token.kind; bytes = token.text.now }

-- a token of the code as the grammar sees it, and its offsets
abbrev pub placed : Token → Placed
placed token = record { token = spelled token; start = token.span.0; end = token.span.1 }

-- `text` is cut into lexemes up to `offset`, and there the lexer reads nothing, for the cause
-- `cause`
abbrev pub IsRefusedAt : List ℕ → ℕ → Cause → Type 0
IsRefusedAt text offset cause =
    (lexemes : List Lexeme) × (rest : List ℕ)
    × IsCut text lexemes rest × (offset + length rest ≡ length text) × Refuses rest cause

-- the most bytes that a text may have
abbrev pub most_bytes : ℕ
most_bytes = 65535

-- `text` has at most `most_bytes` bytes and is UTF-8
abbrev pub IsReadable : List ℕ → Type 0
IsReadable text = (length text ≤ most_bytes) × IsUtf8 text

-- the fault is the lexer's refusal of `text`, before its grammar is looked at
abbrev pub IsFaultOf : List ℕ → QueryFault → Type 0
IsFaultOf text Long = most_bytes < length text
IsFaultOf text Utf8 = (length text ≤ most_bytes) × (¬ (IsUtf8 text))
IsFaultOf text (NoToken offset) = IsReadable text × IsRefusedAt text offset nothing
IsFaultOf text (Unsupported offset feature) =
    IsReadable text × IsRefusedAt text offset (form feature)
IsFaultOf text (Limit offset) = IsReadable text × IsRefusedAt text offset limit
IsFaultOf text Depth = ⊥
IsFaultOf text Syntax = ⊥
IsFaultOf text Memory = ⊥

-- some lexemes at the front of `text` can be read, and at least one of them is a token
abbrev pub BeginsWithToken : List ℕ → Type 0
BeginsWithToken text = (lexemes : List Lexeme) × (rest : List ℕ) × IsCut text lexemes rest
    × (0 < length (spelled_tokens lexemes))

-- the tokens follow one another in `text` from the offset `from` on: each begins at the end of the
-- one before it or later, has at least one byte, and has the bytes of the text between its offsets
abbrev pub FollowOn : List ℕ → ℕ → List Placed → Type 0
FollowOn text from [] = Unit {0}
FollowOn text from (first ∷ tokens) =
    (from ≤ first.start) × (first.start < first.end) × (first.end ≤ length text)
    × (first.token.bytes ≡ take (first.end - first.start) (drop first.start text))
    × FollowOn text first.end tokens
