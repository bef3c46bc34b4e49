-- The concept that a line of `describe` names: its identifier, with or without its term (Expression
-- Constraint Language 2.2, 5.1 "Brief syntax", conceptReference; Release File Specification,
-- "Component identifiers").
use Rattle.std.specs.Prelude.{ℕ, ◌==◌, ◌||◌, Bool, not, if◌then◌else◌, List, [], ◌∷◌, codes, length, nat_lt}
use Rattle.std.specs.Prelude.{reverse, slice_index_or}
use Rattle.std.specs.Prelude.{Option, Some, option_map}
use Rattle.std.specs.Str.{is_utf8}
use Rattle.sctid.specs.declared.IdFault.{IdFault}
use Rattle.sctid.specs.declared.IdFault.TheVariants as fault
use Rattle.sctid.specs.declared.Part.TheVariants.{Concept}
use Rattle.text_parts.specs.Parts.{parts_at}
use Rattle.numerals.specs.Numbers.{number_of}
use Rattle.ecl_lexer.specs.Tokens.{most_bytes}
use Rattle.rf2_rows.specs.Columns.{fault_for}
use Rattle.concept_printer.specs.declared.named_concept.LineFault.{LineFault}
use Rattle.concept_printer.specs.declared.named_concept.LineFault.TheVariants.{Long, Utf8, Id}

-- whether a byte is a space, a tab or a carriage return
abbrev pub is_blank : ℕ → Bool
is_blank byte = (byte == 32) || (byte == 9) || (byte == 13)

-- a text without the blanks at its beginning
abbrev pub after_blanks : List ℕ → List ℕ
after_blanks [] = []
after_blanks (byte ∷ bytes) = if is_blank byte then after_blanks bytes else byte ∷ bytes

-- a text without the blanks at its end
abbrev pub before_blanks : List ℕ → List ℕ
before_blanks text = reverse (after_blanks (reverse text))

-- whether the last byte of a text is a bar (`|`)
abbrev pub ends_in_bar : List ℕ → Bool
ends_in_bar text = slice_index_or (reverse text) 0 0 == 124

-- the text before the first bar, or all of it if it has no bar
abbrev pub before_bar : List ℕ → List ℕ
before_bar text = slice_index_or (parts_at 124 text) 0 []

-- a text without the term between bars at its end, if it has one
abbrev pub without_term : List ℕ → List ℕ
without_term text = if ends_in_bar text then before_blanks (before_bar text) else text

-- the part of a line that should be an identifier: without blanks around it and without a term at
-- its end
abbrev pub identifier_in : List ℕ → List ℕ
identifier_in line = without_term (before_blanks (after_blanks line))

-- why a line of at most 65,535 bytes names no concept: it is not UTF-8, or its text has no concept
-- identifier; `None` if it names a concept
abbrev pub short_fault : List ℕ → Option LineFault
short_fault line =
    if not (is_utf8 line) then Some Utf8 else option_map Id (fault_for Concept (identifier_in line))

-- why a line names no concept: it is too long, or not UTF-8, or has no concept identifier; `None`
-- if it names a concept
abbrev pub line_fault : List ℕ → Option LineFault
line_fault line = if nat_lt most_bytes (length line) then Some Long else short_fault line

-- the identifier of the concept that a line without fault names
abbrev pub named_concept : List ℕ → ℕ
named_concept line = number_of (identifier_in line)

-- the word for the cause why an identifier is refused
abbrev pub identifier_cause : IdFault → List ℕ
identifier_cause fault.Length = codes "length"
identifier_cause fault.Digit = codes "digit"
identifier_cause fault.LeadingZero = codes "zero"
identifier_cause fault.Partition = codes "part"
identifier_cause fault.Check = codes "check"
