-- The refusals of a text before its grammar is looked at, and their order (Expression Constraint
-- Language 2.2, 5.1 "Brief syntax").
use Rattle.std.specs.Prelude.{◌≡◌, ℕ, ◌<◌, ◌&&◌, ◌||◌, Bool, true, false, nat_eq, nat_le, codes, if◌then◌else◌, List}
use Rattle.std.specs.Prelude.{length, map, drop, Option, None, Some}
use Rattle.std.specs.Char.{is_ascii_alphabetic, to_ascii_lowercase}
use Rattle.std.specs.List.{starts_with, take_while}
use Rattle.std.specs.Str.{bytes_eq}
use Rattle.ecl_lexer.specs.declared.fault.Feature.{Feature}
use Rattle.ecl_lexer.specs.declared.fault.Feature.TheVariants.{Filter, History, Fields, Identifier, Boolean, String}
use Rattle.ecl_lexer.specs.declared.fault.QueryFault.{QueryFault}
use Rattle.ecl_lexer.specs.declared.fault.QueryFault.TheVariants.{Long, Utf8, Token, Unsupported, Limit, Depth, Syntax}
use Rattle.ecl_lexer.specs.declared.fault.QueryFault.TheVariants.{Memory}
use Rattle.ecl_lexer.specs.Bytes.{is_space, is_code_byte, begins, begins_with, after_run}
use Rattle.ecl_lexer.specs.Lexemes.{Lexeme, digits, number, lexeme_text, Stands}

-- the name of an unsupported form of the language, as refusal lines print it
abbrev pub feature_name : Feature → List ℕ
feature_name Filter = codes "filter"
feature_name History = codes "history"
feature_name Fields = codes "fields"
feature_name Identifier = codes "identifier"
feature_name Boolean = codes "boolean"
feature_name String = codes "string"

-- the number of a fault, in the order in which the reader looks for faults
abbrev pub fault_number : QueryFault → ℕ
fault_number Long = 1
fault_number Utf8 = 2
fault_number (Token offset) = 3
fault_number (Unsupported offset feature) = 3
fault_number (Limit offset) = 3
fault_number Depth = 4
fault_number Syntax = 5
fault_number Memory = 6

-- whether the letters at the front of a text spell the word `name`, in either case
abbrev pub begins_word : List ℕ → List ℕ → Bool
begins_word name text = bytes_eq name (map to_ascii_lowercase (take_while is_ascii_alphabetic text))

-- whether an alternate identifier begins a text: the text begins with a letter, and `#` directly
-- follows the letters, digits and `-` at its front
abbrev pub begins_identifier : List ℕ → Bool
begins_identifier text =
    begins is_ascii_alphabetic text && begins_with 35 (after_run is_code_byte text)

-- the form that begins with `{{`: a history supplement if a `+` follows, and otherwise a filter.
-- Spaces, tabs, CR and LF may stand between
abbrev pub braces_form : List ℕ → Feature
braces_form following = if begins_with 43 (after_run is_space following) then History else Filter

-- the form that begins with `^`: fields of a reference set if a `[` follows, and otherwise none.
-- Spaces, tabs, CR and LF may stand between
abbrev pub fields_form : List ℕ → Option Feature
fields_form following = if begins_with 91 (after_run is_space following) then Some Fields else None

-- the form `Boolean` if a text begins with the word `true` or `false`, in either case, and
-- otherwise none
abbrev pub boolean_form : List ℕ → Option Feature
boolean_form text = if begins_word (codes "true") text || begins_word (codes "false") text then Some
    Boolean else None

-- the unsupported form that begins a text, if there is one. If several fit, the first in this order
-- counts
abbrev pub unsupported : List ℕ → Option Feature
unsupported text =
    if starts_with nat_eq text (codes "{{") then Some (braces_form (drop 2 text))
    else if begins_with 94 text then fields_form (drop 1 text)
    else if begins_identifier text then Some Identifier
    else if begins_with 34 text then Some String
    else boolean_form text

-- whether each run of digits in a lexeme has at most 18 digits
abbrev pub is_within_limit : Lexeme → Bool
is_within_limit (digits run) = nat_le (length run) 18
is_within_limit (number sign whole fraction) =
    nat_le (length whole) 18 && nat_le (length fraction) 18
is_within_limit lexeme = true

-- the lexer reads `lexeme` before `rest`: it is the longest lexeme there, no unsupported form
-- begins there, and none of its runs of digits is too long
pub record IsRead (lexeme : Lexeme) (rest : List ℕ) : Type 0 where
  -- the lexeme is the longest that begins there
  pub stands : Stands lexeme rest
  -- no unsupported form begins where the lexeme begins
  pub supported : unsupported (lexeme_text lexeme rest) ≡ None
  -- the lexeme has no run of more than 18 digits
  pub within : is_within_limit lexeme ≡ true

-- why the lexer reads nothing at an offset: an unsupported form begins there (`form`), no lexeme
-- begins there (`nothing`), or the lexeme there has a run of too many digits (`limit`). The lexer
-- looks for the causes in this order
pub data Cause : Type 0 where
  form : Feature → Cause
  nothing : Cause
  limit : Cause

-- the lexer reads nothing at the beginning of `text`, for the given cause
abbrev pub Refuses : List ℕ → Cause → Type 0
Refuses text (form feature) = unsupported text ≡ Some feature
Refuses text nothing =
    (0 < length text)
    × (unsupported text ≡ None)
    × ((lexeme : Lexeme) (rest : List ℕ) → text ≡ lexeme_text lexeme rest → ¬ (Stands lexeme rest))
Refuses text limit =
    (unsupported text ≡ None)
    × (lexeme : Lexeme) × (rest : List ℕ)
    × (text ≡ lexeme_text lexeme rest) × Stands lexeme rest × (is_within_limit lexeme ≡ false)

-- the fault of a cause at an offset
abbrev pub fault_at : ℕ → Cause → QueryFault
fault_at offset (form feature) = Unsupported offset feature
fault_at offset nothing = Token offset
fault_at offset limit = Limit offset
