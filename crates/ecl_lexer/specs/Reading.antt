-- A search, byte by byte, for the lexeme that begins a text. The law `found_lexemes_stand`
-- (src/laws.rt) states that the search finds exactly the lexeme that stands there by the definition
-- of Lexemes.antt.
use Rattle.std.specs.Prelude.{ℕ, ◌+◌, ◌==◌, ◌&&◌, ◌||◌, Bool, true, nat_eq, nat_le, nat_lt, codes, if◌then◌else◌, List}
use Rattle.std.specs.Prelude.{[], ◌∷◌, length, take, drop, Option, None, Some, option_map, is_some, Result, Ok, Err}
use Rattle.std.specs.Char.{is_ascii_alphabetic, is_ascii_digit}
use Rattle.std.specs.List.{prefix_len, starts_with, take_while}
use Rattle.ecl_lexer.specs.declared.lexemes.Lexeme.{Lexeme as Found}
use Rattle.ecl_lexer.specs.declared.fault.QueryFault.{QueryFault}
use Rattle.ecl_lexer.specs.declared.fault.QueryFault.TheVariants.{Token, Unsupported, Limit}
use Rattle.ecl_lexer.specs.declared.fault.Feature.{Feature}
use Rattle.ecl_lexer.specs.declared.token.TokenKind.{TokenKind}
use Rattle.ecl_lexer.specs.declared.token.TokenKind.TheVariants.{Reverse}
use Rattle.ecl_lexer.specs.Bytes.{is_space, is_term_byte, begins, begins_with}
use Rattle.ecl_lexer.specs.Lexemes.{Lexeme, space, comment, symbol, word, digits, number, term, Sign, unsigned, plus}
use Rattle.ecl_lexer.specs.Lexemes.{minus, is_plain, symbol_kind, word_kind, bytes_of, kind_of}
use Rattle.ecl_lexer.specs.Refusals.{is_within_limit, unsupported}

-- all digits at the front of a text, or `None` if there are none, or several of which the first is
-- 0
abbrev pub plain_at : List ℕ → Option (List ℕ)
plain_at text =
    let run = take_while is_ascii_digit text in
    if nat_lt 0 (length run) && is_plain run then Some run else None

-- the lexeme of digits that begins a text, if there is one
abbrev pub digits_at : List ℕ → Option Lexeme
digits_at text = option_map digits (plain_at text)

-- the number of bytes in a text before its first `*/`, if there is one
abbrev pub close_place : List ℕ → Option ℕ
close_place [] = None
close_place (byte ∷ text) =
    if byte == 42 && begins_with 47 text then Some 0 else option_map (λ place. 1 + place)
    (close_place text)

-- the number of bytes between `/*` at the front of a text and the first `*/` after it, or `None` if
-- no closed comment begins the text
abbrev pub comment_inside : List ℕ → Option ℕ
comment_inside text = if starts_with nat_eq text (codes "/*") then close_place (drop 2 text)
    else None

-- the comment that begins a text, if there is one
abbrev pub comment_at : List ℕ → Option Lexeme
comment_at text = option_map (λ inside. comment (take inside (drop 2 text))) (comment_inside text)

-- whether a text begins with a blank
abbrev pub begins_blank : List ℕ → Bool
begins_blank text = begins is_space text || is_some (comment_inside text)

-- whether `rest` may follow a word of the kind `kind`
abbrev pub follows_word : TokenKind → List ℕ → Bool
follows_word Reverse rest = true
follows_word kind rest = begins_blank rest

-- the lexeme of the word `letters` before `rest`, if the letters have a kind of token and `rest`
-- may follow a word of this kind
abbrev pub word_before : List ℕ → List ℕ → Option TokenKind → Option Lexeme
word_before letters rest None = None
word_before letters rest (Some kind) =
    if follows_word kind rest then Some (word letters kind) else None

-- the word that begins a text, if there is one
abbrev pub word_at : List ℕ → Option Lexeme
word_at text =
    let letters = take_while is_ascii_alphabetic text in
    word_before letters (drop (prefix_len is_ascii_alphabetic text) text) (word_kind letters)

-- the sign that begins a text, or `unsigned` if there is none
abbrev pub sign_at : List ℕ → Sign
sign_at text = if begins_with 43 text then plus else if begins_with 45 text then minus else unsigned

-- the number of bytes of a sign
abbrev pub sign_length : Sign → ℕ
sign_length unsigned = 0
sign_length plus = 1
sign_length minus = 1

-- the digits after the point that begins a text, or no digits if the text does not begin with a
-- point
abbrev pub fraction_at : List ℕ → List ℕ
fraction_at text = if begins_with 46 text then take_while is_ascii_digit (drop 1 text) else []

-- the number with the sign `sign`, the digits `whole`, which begin `text`, and the digits after the
-- point that follows them; `None` if there are no such digits
abbrev pub number_lexeme : Sign → List ℕ → Option (List ℕ) → Option Lexeme
number_lexeme sign text None = None
number_lexeme sign text (Some whole) =
    Some (number sign whole (fraction_at (drop (length whole) text)))

-- the number whose text after its `#` begins `text`, if there is one
abbrev pub number_at : List ℕ → Option Lexeme
number_at text =
    let sign = sign_at text in
    let following = drop (sign_length sign) text in
    number_lexeme sign following (plain_at following)

-- the term whose text after its first `|` begins `text`, if a second `|` closes it
abbrev pub term_at : List ℕ → Option Lexeme
term_at text =
    let inside = prefix_len is_term_byte text in
    if nat_lt inside (length text) then Some (term (take inside text)) else None

-- the kind of the symbol that the first `size` bytes of a text spell, or `None` if they spell none
abbrev pub sized_kind : ℕ → List ℕ → Option TokenKind
sized_kind size text = if nat_le size (length text) then symbol_kind (take size text) else None

-- the symbol that the first `size` bytes of a text are, with the given kind, or `other` if there is
-- no kind
abbrev pub symbol_or : ℕ → List ℕ → Option TokenKind → Option Lexeme → Option Lexeme
symbol_or size text None other = other
symbol_or size text (Some kind) other = Some (symbol (take size text) kind)

-- the symbol that the first `size` bytes of a text spell, or `other` if they spell none
abbrev pub sized_symbol : ℕ → List ℕ → Option Lexeme → Option Lexeme
sized_symbol size text other = symbol_or size text (sized_kind size text) other

-- the longest symbol that begins a text, if there is one
abbrev pub symbol_at : List ℕ → Option Lexeme
symbol_at text = sized_symbol 3 text (sized_symbol 2 text (sized_symbol 1 text None))

-- the lexeme that begins the text of `first` and `following`, if there is one
abbrev pub lexeme_by : ℕ → List ℕ → Option Lexeme
lexeme_by first following =
    if is_ascii_digit first then digits_at (first ∷ following)
    else if is_ascii_alphabetic first then word_at (first ∷ following)
    else if first == 35 then number_at following
    else if first == 124 then term_at following
    else if first == 47 then comment_at (first ∷ following)
    else if is_space first then Some (space first)
    else symbol_at (first ∷ following)

-- the lexeme that begins a text, if there is one
abbrev pub lexeme_at : List ℕ → Option Lexeme
lexeme_at [] = None
lexeme_at (first ∷ following) = lexeme_by first following

-- a lexeme as the code returns it: its kind, its length, and whether each of its runs of digits has
-- at most 18 digits
abbrev pub found : Lexeme → Found
found lexeme = record {
  kind = kind_of lexeme;
  length = length (bytes_of lexeme);
  is_within_limit =
      is_within_limit lexeme;
}

-- the lexeme at an offset if there is one within the limit of digits. Otherwise the fault: `Token`
-- if there is no lexeme, and `Limit` if one has too many digits
abbrev pub within_limit : ℕ → Option Lexeme → Result Lexeme QueryFault
within_limit offset None = Err (Token offset)
within_limit offset (Some lexeme) = if is_within_limit lexeme then Ok lexeme else Err (Limit offset)

-- the lexeme at an offset, or the fault there. The fault is `Unsupported` if an unsupported form
-- begins at the offset, and otherwise that of `within_limit`
abbrev pub supported : ℕ → Option Feature → Option Lexeme → Result Lexeme QueryFault
supported offset (Some feature) lexeme = Err (Unsupported offset feature)
supported offset None lexeme = within_limit offset lexeme

-- the lexeme that begins a text, or the fault there. `offset` is the offset of the text in the
-- whole text
abbrev pub reading : ℕ → List ℕ → Result Lexeme QueryFault
reading offset text = supported offset (unsupported text) (lexeme_at text)

-- the result of a reading as the code returns it
abbrev pub found_of : Result Lexeme QueryFault → Result Found QueryFault
found_of (Ok lexeme) = Ok (found lexeme)
found_of (Err fault) = Err fault
