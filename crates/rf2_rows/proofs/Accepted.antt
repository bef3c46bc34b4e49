-- Properties of a line without a fault: how many fields it has, and that each text is accepted in its column.
use Rattle.std.proofs.lemmas.Grind.{common_steps}
use Rattle.std.proofs.Common.{◌≡◌, ℕ, zero, suc, ◌+◌, ◌<◌, ◌≤◌, List, [], ◌∷◌, length, get_or, None, Some, arith}
use Rattle.std.proofs.Common.{eq-eqb}
use Rattle.std.proofs.lemmas.Bool.Decides.{nat_tests}
use Rattle.std.proofs.lemmas.Str.Parse.{digits_value_short}
use Rattle.rf2_rows.specs.Columns.{Column, Format, cause_of, column, columns_of, id_format, time_format}
use Rattle.rf2_rows.specs.Rows.{concept_row, concrete_row, description_row, fields_fault, fields_of, first_column_fault}
use Rattle.rf2_rows.specs.Rows.{member_row, relationship_row, row_fault, time_of}
use Rattle.rf2_rows.specs.Versions.{time_on}
use Rattle.numerals.proofs.DigitLemmas.{numerals}
use Rattle.sctid.specs.declared.Part.TheVariants.{Concept}
use Rattle.rf2_rows.specs.declared.kind.FileKind.{FileKind}

-- fields without a fault are as many as the columns of their kind
pub width_of_fields : (kind : FileKind) (fields : List (List ℕ)) → fields_fault kind fields ≡ None
    → length fields ≡ length (columns_of kind)
width_of_fields kind fields accepted = grind (arith, nat_tests)

-- a line without a fault has one field for each column of its kind
pub width_of_line : (kind : FileKind) (line : List ℕ) → row_fault kind line ≡ None
    → length (fields_of line) ≡ length (columns_of kind)
unfolding row_fault
width_of_line kind line accepted = width_of_fields kind (fields_of line) accepted

-- an accepted line has at most 10 fields
pub few_fields : (kind : FileKind) (line : List ℕ) → row_fault kind line ≡ None → length (fields_of line) ≤ 10
few_fields kind line accepted = grind (arith, width_of_line kind line accepted)

-- the format of the column at a place of a list of columns
abbrev pub format_at : List Column → ℕ → Format
format_at columns place = (get_or columns place (column [] (id_format Concept))).format

-- if texts have no fault in a list of columns, the text at each place has no cause to be refused in the column at
-- this place
no_cause_at : (number : ℕ) (columns : List Column) (texts : List (List ℕ)) (place : ℕ)
    → length texts ≡ length columns → first_column_fault number columns texts ≡ None → place < length columns
    → cause_of (format_at columns place) (get_or texts place []) ≡ None
no_cause_at number (column ∷ columns) (text ∷ texts) zero width accepted inside = grind arith
no_cause_at number (column ∷ columns) (text ∷ texts) (suc place) width accepted inside =
    grind (
      arith,
      common_steps,
      nat_tests,
      (no_cause_at (number + 1) columns texts place (omega arith) (grind arith) (omega arith)),
    )
no_cause_at number _ _ place width accepted inside = absurd (omega arith)

-- if fields have no fault, the text at each place has no cause to be refused in its column
pub accepted_at : (kind : FileKind) (fields : List (List ℕ)) (place : ℕ) → fields_fault kind fields ≡ None
    → place < length (columns_of kind) → cause_of (format_at (columns_of kind) place) (get_or fields place []) ≡ None
accepted_at kind fields place accepted inside =
    grind (arith, common_steps, nat_tests, eq-eqb, no_cause_at, width_of_fields)

-- an accepted effective time is below 10^8, because it has eight digits
short_time : (text : List ℕ) → cause_of time_format text ≡ None → (time : ℕ) → time_of text ≡ Some time
    → time < 100000000
unfolding cause_of
short_time text accepted time told = grind (arith, nat_tests, digits_value_short numerals text 8)

-- the effective time of an accepted line is below 10^8
pub short_time_on : (kind : FileKind) (line : List ℕ) → row_fault kind line ≡ None → (time : ℕ)
    → time_on kind line ≡ Some time → time < 100000000
unfolding row_fault concept_row description_row relationship_row concrete_row member_row
short_time_on kind line accepted time told =
    grind (arith, short_time (get_or (fields_of line) 1 []), accepted_at kind (fields_of line) 1 accepted)
