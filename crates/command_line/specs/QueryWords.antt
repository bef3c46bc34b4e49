-- The mode that the options of `query` ask for, by the rows that clap found.
use Rattle.std.specs.Prelude.{ℕ, ◌≡◌, ◌-◌, ◌^◌, ◌<◌, ◌⊎◌, ⊤, not, Bool, true, false, bytes_eq, codes, unwrap_or, List}
use Rattle.std.specs.Prelude.{Option, None, Some}
use Rattle.std.specs.Option.{option_map_or}
use Rattle.std.specs.Str.Parse.{IsNumeral, digits_value}
use Rattle.clap.specs.Words.{Row, Text, first_of}
use Rattle.command_line.specs.declared.words.Mode.{Mode}
use Rattle.command_line.specs.declared.words.Mode.TheVariants.{Query, QueryWith}
use Rattle.command_line.specs.declared.words.WordFault.{WordFault}
use Rattle.command_line.specs.declared.words.WordFault.TheVariants.{Usage, Help, Memory}

-- `text` is `number` in decimal: it has digits alone, no sign, and the number is below 2^64
abbrev pub IsNumberText : Text → ℕ → Type 0
IsNumberText text number = IsNumeral 10 text × (digits_value 10 text ≡ number) × (number < 2 ^ 64)

-- `given` is the number that an option's text writes, or `None` if the option was not given
abbrev pub GivesNumber : Option Text → Option ℕ → Type 0
GivesNumber None given = given ≡ None
GivesNumber (Some text) given = (number : ℕ) × (given ≡ Some number) × IsNumberText text number

-- whether the option `name`, which takes no value, was given
abbrev pub is_given : Text → List Row → Bool
is_given name rows = option_map_or (λ text. bytes_eq text (codes "true")) (first_of name rows) false

-- the mode for the values of `--limit` and `--first` and for whether names are written: `Query` if
-- no option was given
abbrev pub mode_of : Option ℕ → Option ℕ → Bool → Mode
mode_of None None true = Query
mode_of limit first names =
    QueryWith (record { limit = unwrap_or limit (2 ^ 64 - 1); first = first; names = names })

-- `mode` is what the options in a command's rows ask for
pub record IsQueryMode (rows : List Row) (mode : Mode) : Type 0 where
  -- the limit, if `--limit` was given
  pub limit : Option ℕ
  -- the greatest number of lines, if `--first` was given
  pub first : Option ℕ
  -- the limit is the number of the option `--limit`
  pub limit_given : GivesNumber (first_of (codes "limit") rows) limit
  -- the greatest number of lines is the number of the option `--first`
  pub first_given : GivesNumber (first_of (codes "first") rows) first
  -- the mode is the one for the limit, the number of lines and `--no-names`
  pub mode_is : mode ≡ mode_of limit first (not (is_given (codes "no-names") rows))

-- the fault asks for neither help nor the version
abbrev pub IsNoCall : WordFault → Type 0
IsNoCall (Usage text) = ⊤
IsNoCall (Help text) = ⊥
IsNoCall Memory = ⊤

-- the option was given, and its text is no number
abbrev pub IsNoNumber : Option Text → Type 0
IsNoNumber None = ⊥
IsNoNumber (Some text) = (number : ℕ) → IsNumberText text number → ⊥

-- the fault is one that an option's text justifies: the text is no number, or memory was refused
abbrev pub IsFaultOfNumber : Option Text → WordFault → Type 0
IsFaultOfNumber given (Usage text) = IsNoNumber given
IsFaultOfNumber given (Help text) = ⊥
IsFaultOfNumber given Memory = ⊤

-- the fault is one that the rows of `query` justify: the text of `--limit` or `--first` is no
-- number, or memory was refused
abbrev pub IsFaultOfNumbers : List Row → WordFault → Type 0
IsFaultOfNumbers rows (Usage text) =
    IsNoNumber (first_of (codes "limit") rows) ⊎ IsNoNumber (first_of (codes "first") rows)
IsFaultOfNumbers rows (Help text) = ⊥
IsFaultOfNumbers rows Memory = ⊤
