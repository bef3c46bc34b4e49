-- The lexemes of a text: blanks, and the spellings of tokens (Expression Constraint Language 2.2,
-- 5.1 "Brief syntax").
use Rattle.std.specs.Prelude.{◌≡◌, ◌⊎◌, ℕ, ◌≤◌, ◌==◌, ◌&&◌, ◌||◌, not, Bool, true, false, codes, if◌then◌else◌, List}
use Rattle.std.specs.Prelude.{[], ◌∷◌, ◌++◌, length, map, drop, Option, None, Some, IsSome, IsTrue}
use Rattle.std.specs.Char.{is_ascii_alphabetic, is_ascii_digit, to_ascii_lowercase}
use Rattle.std.specs.List.{list_all}
use Rattle.std.specs.Str.{bytes_eq}
use Rattle.ecl_lexer.specs.declared.token.TokenKind.{TokenKind}
use Rattle.ecl_lexer.specs.declared.token.TokenKind.TheVariants.{DescendantOf, DescendantOrSelfOf, ChildOf}
use Rattle.ecl_lexer.specs.declared.token.TokenKind.TheVariants.{ChildOrSelfOf, AncestorOf, AncestorOrSelfOf, ParentOf}
use Rattle.ecl_lexer.specs.declared.token.TokenKind.TheVariants.{ParentOrSelfOf, Top, Bottom, MemberOf, Wildcard}
use Rattle.ecl_lexer.specs.declared.token.TokenKind.TheVariants.{RoundOpen, RoundClose, BraceOpen, BraceClose}
use Rattle.ecl_lexer.specs.declared.token.TokenKind.TheVariants.{BracketOpen, BracketClose, Colon, Dot, Dots, Equal}
use Rattle.ecl_lexer.specs.declared.token.TokenKind.TheVariants.{NotEqual, LessOrEqual, GreaterOrEqual, And, Or, Minus}
use Rattle.ecl_lexer.specs.declared.token.TokenKind.TheVariants.{Reverse, Digits, Number, Term}
use Rattle.ecl_lexer.specs.Bytes.{is_space, is_term_byte, begins, begins_with, IsRun}

-- the symbols of the language, each with its kind of token
abbrev pub symbols : List (List ℕ × TokenKind)
symbols =
    (codes "<", DescendantOf)
    ∷ (codes "<<", DescendantOrSelfOf)
    ∷ (codes "<!", ChildOf)
    ∷ (codes "<<!", ChildOrSelfOf)
    ∷ (codes ">", AncestorOf)
    ∷ (codes ">>", AncestorOrSelfOf)
    ∷ (codes ">!", ParentOf)
    ∷ (codes ">>!", ParentOrSelfOf)
    ∷ (codes "!!>", Top)
    ∷ (codes "!!<", Bottom)
    ∷ (codes "^", MemberOf)
    ∷ (codes "*", Wildcard)
    ∷ (codes "(", RoundOpen)
    ∷ (codes ")", RoundClose)
    ∷ (codes "{", BraceOpen)
    ∷ (codes "}", BraceClose)
    ∷ (codes "[", BracketOpen)
    ∷ (codes "]", BracketClose)
    ∷ (codes ":", Colon)
    ∷ (codes ".", Dot)
    ∷ (codes "..", Dots)
    ∷ (codes "=", Equal)
    ∷ (codes "!=", NotEqual)
    ∷ (codes "<=", LessOrEqual)
    ∷ (codes ">=", GreaterOrEqual)
    ∷ (codes ",", And)
    ∷ []

-- the words of the language in lower case, each with its kind of token
abbrev pub words : List (List ℕ × TokenKind)
words = (codes "and", And) ∷ (codes "or", Or) ∷ (codes "minus", Minus) ∷ (codes "r", Reverse) ∷ []

-- the kind of the spelling `bytes` in a table of spellings, or `None` if the table has no such
-- spelling
abbrev pub kind_in : List (List ℕ × TokenKind) → List ℕ → Option TokenKind
kind_in [] bytes = None
kind_in (entry ∷ entries) bytes =
    if bytes_eq entry.0 bytes then Some entry.1 else kind_in entries bytes

-- the kind of the symbol that `bytes` spell, or `None` if they spell none
abbrev pub symbol_kind : List ℕ → Option TokenKind
symbol_kind bytes = kind_in symbols bytes

-- the kind of the word that `letters` spell, in either case, or `None` if they spell none
abbrev pub word_kind : List ℕ → Option TokenKind
word_kind letters = kind_in words (map to_ascii_lowercase letters)

-- whether a text contains `*/`
abbrev pub has_close : List ℕ → Bool
has_close [] = false
has_close (byte ∷ text) = (byte == 42 && begins_with 47 text) || has_close text

-- whether `digits` is one digit alone or does not begin with 0
abbrev pub is_plain : List ℕ → Bool
is_plain digits = length digits == 1 || not (begins_with 48 digits)

-- the sign of a number
pub data Sign : Type 0 where
  unsigned : Sign
  plus : Sign
  minus : Sign

-- a lexeme of a text. `space` has its byte: a space, tab, CR or LF. `comment` and `term` have the
-- bytes between their delimiters, `symbol` and `word` their bytes and their kind, `digits` its
-- digits, and `number` its sign, its digits, and the digits after its point, if any
pub data Lexeme : Type 0 where
  space : ℕ → Lexeme
  comment : List ℕ → Lexeme
  symbol : List ℕ → TokenKind → Lexeme
  word : List ℕ → TokenKind → Lexeme
  digits : List ℕ → Lexeme
  number : Sign → List ℕ → List ℕ → Lexeme
  term : List ℕ → Lexeme

-- the bytes of a sign, followed by `rest`
abbrev pub sign_text : Sign → List ℕ → List ℕ
sign_text unsigned rest = rest
sign_text plus rest = 43 ∷ rest
sign_text minus rest = 45 ∷ rest

-- a point and the digits after it, or nothing if there are no digits, followed by `rest`
abbrev pub fraction_text : List ℕ → List ℕ → List ℕ
fraction_text [] rest = rest
fraction_text (digit ∷ more) rest = 46 ∷ digit ∷ more ++ rest

-- the bytes of a lexeme, followed by `rest`
abbrev pub lexeme_text : Lexeme → List ℕ → List ℕ
lexeme_text (space byte) rest = byte ∷ rest
lexeme_text (comment inside) rest = 47 ∷ 42 ∷ inside ++ 42 ∷ 47 ∷ rest
lexeme_text (symbol bytes kind) rest = bytes ++ rest
lexeme_text (word letters kind) rest = letters ++ rest
lexeme_text (digits run) rest = run ++ rest
lexeme_text (number sign whole fraction) rest =
    35 ∷ sign_text sign (whole ++ fraction_text fraction rest)
lexeme_text (term inside) rest = 124 ∷ inside ++ 124 ∷ rest

-- the bytes of a lexeme
abbrev pub bytes_of : Lexeme → List ℕ
bytes_of lexeme = lexeme_text lexeme []

-- the kind of the token that a lexeme is, or `None` for a blank
abbrev pub kind_of : Lexeme → Option TokenKind
kind_of (space byte) = None
kind_of (comment inside) = None
kind_of (symbol bytes kind) = Some kind
kind_of (word letters kind) = Some kind
kind_of (digits run) = Some Digits
kind_of (number sign whole fraction) = Some Number
kind_of (term inside) = Some Term

-- a text begins with a closed comment
abbrev pub BeginsComment : List ℕ → Type 0
BeginsComment text = (inside : List ℕ) × (rest : List ℕ)
    × (text ≡ lexeme_text (comment inside) rest)

-- a text begins with a blank: a space, tab, CR or LF, or a closed comment
abbrev pub BeginsBlank : List ℕ → Type 0
BeginsBlank text = IsTrue (begins is_space text) ⊎ BeginsComment text

-- `rest` may follow a word of the given kind: after `AND`, `OR` and `MINUS` it must begin with a
-- blank, and after `R` it may be any text
abbrev pub FollowsWord : TokenKind → List ℕ → Type 0
FollowsWord Reverse rest = Unit {0}
FollowsWord kind rest = BeginsBlank rest

-- `rest` may follow a number with the given digits after its point. If there are such digits,
-- `rest` begins with no further digit. If there are none, `rest` does not begin with a point and a
-- digit
abbrev pub FollowsWhole : List ℕ → List ℕ → Type 0
FollowsWhole [] rest = (begins_with 46 rest && begins is_ascii_digit (drop 1 rest)) ≡ false
FollowsWhole (digit ∷ more) rest = IsRun is_ascii_digit (digit ∷ more) rest

-- `Stands lexeme rest`: `lexeme` is the lexeme that begins the text of `lexeme` and `rest`, the
-- longest possible. A comment ends at the first `*/` after its `/*`, and a term at the first `|`
-- after its own. No longer symbol begins there. A word takes all letters there, and digits take all
-- digits there.
abbrev pub Stands : Lexeme → List ℕ → Type 0
Stands (space byte) rest = is_space byte ≡ true
Stands (comment inside) rest = has_close inside ≡ false
Stands (symbol bytes kind) rest =
    (symbol_kind bytes ≡ Some kind)
    × ((other more : List ℕ) → IsSome (symbol_kind other) → bytes ++ rest ≡ other ++ more
    → length other ≤ length bytes)
Stands (word letters kind) rest =
    IsRun is_ascii_alphabetic letters rest × (word_kind letters ≡ Some kind) × FollowsWord kind rest
Stands (digits run) rest = IsRun is_ascii_digit run rest × (is_plain run ≡ true)
Stands (number sign whole fraction) rest =
    IsRun is_ascii_digit whole (fraction_text fraction rest) × (is_plain whole ≡ true)
    × FollowsWhole fraction rest
Stands (term inside) rest = list_all is_term_byte inside ≡ true
