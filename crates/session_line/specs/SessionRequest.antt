-- What a line of `session` asks for. A line is a verb and its arguments, each after one space.
use Rattle.std.specs.Prelude.{ℕ, ◌==◌, ◌&&◌, ◌^◌, Bool, true, false, if◌then◌else◌, List, [], ◌∷◌, bytes_eq, codes}
use Rattle.std.specs.Prelude.{length, nat_lt}
use Rattle.std.specs.Prelude.{Option, None, Some, option_and_then, option_map}
use Rattle.std.specs.Borrow.{Bor}
use Rattle.std.specs.Char.{is_ascii_digit}
use Rattle.std.specs.List.{list_all}
use Rattle.std.specs.Str.Parse.{digits_value}
use Rattle.session_line.specs.declared.request.Page.{Page}
use Rattle.session_line.specs.declared.request.SessionRequest.{SessionRequest}
use Rattle.session_line.specs.declared.request.SessionRequest.TheVariants as request

-- the bytes of a text before its first space and those after it, or `None` if it has no space
abbrev pub cut_of : List ℕ → Option (List ℕ × List ℕ)
cut_of [] = None
cut_of (byte ∷ bytes) =
    if byte == 32 then Some ([], bytes) else option_map
    (λ (cut : List ℕ × List ℕ). (byte ∷ cut.0, cut.1)) (cut_of bytes)

-- whether a text is a decimal number of 64 bits: not empty, digits alone, and the number is below
-- 2^64
abbrev pub is_number : List ℕ → Bool
is_number text = nat_lt 0 (length text)
    && (list_all is_ascii_digit text && nat_lt (digits_value 10 text) (2 ^ 64))

-- the number that a text writes in decimal, or `None` if it is no number of 64 bits
abbrev pub number_in : List ℕ → Option ℕ
number_in text = if is_number text then Some (digits_value 10 text) else None

-- `Some None` for the text `-`, the number for the text of a number, and `None` for any other text
abbrev pub number_or_none : List ℕ → Option (Option ℕ)
number_or_none text =
    if bytes_eq text (codes "-") then Some None else option_map (λ (number : ℕ). Some number)
    (number_in text)

-- reads the word before the first space of a text with `read`; gives the value with the bytes after
-- the space
abbrev pub first_read : {X : Type 0} → (List ℕ → Option X) → List ℕ → Option (X × List ℕ)
first_read {X} read text =
    option_and_then (λ (cut : List ℕ × List ℕ). option_map (λ (value : X). (value, cut.1))
    (read cut.0)) (cut_of text)

-- the page that a text asks for, and the text after it: the offset, the count and the limit, each
-- before one space
abbrev pub page_in : Bool → List ℕ → Option (Page × List ℕ)
page_in names text =
    option_and_then
    (λ (offset : ℕ × List ℕ).
    option_and_then
    (λ (count : Option ℕ × List ℕ).
    option_map
    (λ (limit : Option ℕ × List ℕ).
    (record { offset = offset.0; count = count.0; limit = limit.0; names = names }, limit.1))
    (first_read number_or_none count.1))
    (first_read number_or_none offset.1))
    (first_read number_in text)

-- what a line asks for: a page of the answer to a constraint, the plan of a constraint, or what the
-- release says of a concept, each with its text; or nothing
pub data Asked : Type 0 where
  asks_page : Page → List ℕ → Asked
  asks_plan : List ℕ → Asked
  asks_concept : List ℕ → Asked
  asks_nothing : Asked

-- `ask` of a text, or nothing if the text is empty
abbrev pub text_asked : (List ℕ → Asked) → List ℕ → Asked
text_asked ask [] = asks_nothing
text_asked ask (byte ∷ bytes) = ask (byte ∷ bytes)

-- what a page with the text after it asks for; nothing if there is no page, or the text is empty
abbrev pub page_asked : Option (Page × List ℕ) → Asked
page_asked None = asks_nothing
page_asked (Some page) = text_asked (asks_page page.0) page.1

-- what the verb `verb` with the text after it asks for: `list` and `ids` a page with and without
-- names, `explain` a plan, `describe` a concept; any other verb nothing
abbrev pub asked_by : List ℕ → List ℕ → Asked
asked_by verb text =
    if bytes_eq verb (codes "list") then page_asked (page_in true text)
    else if bytes_eq verb (codes "ids") then page_asked (page_in false text)
    else if bytes_eq verb (codes "explain") then text_asked asks_plan text
    else if bytes_eq verb (codes "describe") then text_asked asks_concept text
    else asks_nothing

-- what a line asks for, given its parts before and after its first space; nothing if it has no
-- space
abbrev pub asked_with : Option (List ℕ × List ℕ) → Asked
asked_with None = asks_nothing
asked_with (Some cut) = asked_by cut.0 cut.1

-- what a line of `session` asks for
abbrev pub asked : List ℕ → Asked
asked line = asked_with (cut_of line)

-- the meaning of a `SessionRequest`, with the bytes of its borrowed text
abbrev pub asked_in : SessionRequest → Asked
asked_in (request.Page page text) = asks_page page text.now
asked_in (request.Plan text) = asks_plan text.now
asked_in (request.Concept text) = asks_concept text.now
asked_in request.Nothing = asks_nothing

-- the two borrowed texts of a cut, as bytes
abbrev pub cut_read : Option (Bor (List ℕ) × Bor (List ℕ)) → Option (List ℕ × List ℕ)
cut_read cut = option_map (λ (cut : Bor (List ℕ) × Bor (List ℕ)). (cut.0.now, cut.1.now)) cut

-- a value and the borrowed text after it, with the text as bytes
abbrev pub read_first : {X : Type 0} → Option (X × Bor (List ℕ)) → Option (X × List ℕ)
read_first {X} read = option_map (λ (read : X × Bor (List ℕ)). (read.0, read.1.now)) read

-- a page and the borrowed text after it, with the text as bytes
abbrev pub page_read : Option (Page × Bor (List ℕ)) → Option (Page × List ℕ)
page_read page = read_first page
