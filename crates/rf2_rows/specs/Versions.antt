-- The versions of components (Release File Specification, "effectiveTime" and "Release types"): a
-- component, which its identifier names, has one row for each time at which it changed.
use Rattle.std.specs.Prelude.{◌≡◌, ℕ, Bool, true, false, not, ◌&&◌, ◌==◌, IsTrue, List, [], ◌∷◌, bytes_eq, Option, None}
use Rattle.std.specs.Prelude.{Some}
use Rattle.std.specs.Int.{w128, from_be_bytes}
use Rattle.rf2_rows.specs.Columns.{Column, Format, columns_of, id_format, component_format, uuid_format, time_format}
use Rattle.rf2_rows.specs.Columns.{active_format, group_format, text_format, value_format}
use Rattle.numerals.specs.Numbers.{number_of}
use Rattle.release_model.specs.Pairs.{value_eq}
use Rattle.rf2_rows.specs.Rows.{active_of, concept_row, concrete_row, description_row, fields_of, member_row}
use Rattle.rf2_rows.specs.Rows.{relationship_row, row_fault, time_of, uuid_of}
use Rattle.rf2_rows.specs.Values.{value_of}
use Rattle.rf2_rows.specs.declared.kind.FileKind.{FileKind}
use Rattle.rf2_rows.specs.declared.kind.FileKind.TheVariants.{Concept, Concrete, Description, Member, Relationship}
use Rattle.rf2_rows.specs.declared.row.MemberRow.{MemberRow}
use Rattle.rf2_rows.specs.declared.row.Row.{Row}
use Rattle.rf2_rows.specs.declared.row.Row.TheVariants as typed

-- the identifier of a member, a UUID, read as a number
abbrev pub member_number : MemberRow → ℕ
member_number row = from_be_bytes w128 row.id

-- the identifier in an accepted line of a kind of file
abbrev pub id_on : FileKind → List ℕ → ℕ
id_on Concept line = (concept_row line).id
id_on Description line = (description_row line).id
id_on Relationship line = (relationship_row line).id
id_on Concrete line = (concrete_row line).id
id_on Member line = member_number (member_row line)

-- the effective time in an accepted line of a kind of file, none if the row is not published yet
abbrev pub time_on : FileKind → List ℕ → Option ℕ
time_on Concept line = (concept_row line).effective_time
time_on Description line = (description_row line).effective_time
time_on Relationship line = (relationship_row line).effective_time
time_on Concrete line = (concrete_row line).effective_time
time_on Member line = (member_row line).effective_time

-- whether two effective times are equal, or both are none
abbrev pub same_time : Option ℕ → Option ℕ → Bool
same_time None None = true
same_time (Some one) (Some other) = one == other
same_time one other = false

-- whether two rows are both active or both inactive
abbrev pub same_flag : Bool → Bool → Bool
same_flag true other = other
same_flag false other = not other

-- whether two accepted texts of a column have equal values: `0` and `00` are one group, and the
-- case of a UUID's letters does not matter
abbrev pub same_value : Format → List ℕ → List ℕ → Bool
same_value (id_format part) one other = number_of one == number_of other
same_value component_format one other = number_of one == number_of other
same_value uuid_format one other = bytes_eq (uuid_of one) (uuid_of other)
same_value time_format one other = same_time (time_of one) (time_of other)
same_value active_format one other = same_flag (active_of one) (active_of other)
same_value group_format one other = number_of one == number_of other
same_value text_format one other = bytes_eq one other
same_value value_format one other = value_eq (value_of one) (value_of other)

-- whether the fields of two lines have equal values in each column
abbrev pub same_values : List Column → List (List ℕ) → List (List ℕ) → Bool
same_values (column ∷ columns) (one ∷ ones) (other ∷ others) =
    same_value column.format one other && same_values columns ones others
same_values [] [] [] = true
same_values _ _ _ = false

-- whether two accepted lines of a kind of file are one row: each column has equal values in both
abbrev pub same_row : FileKind → List ℕ → List ℕ → Bool
same_row kind one other = same_values (columns_of kind) (fields_of one) (fields_of other)

-- `same_row` is an equivalence relation on accepted lines: reflexive, symmetric and transitive
abbrev pub IsEquivalenceOfRows : Type 0
IsEquivalenceOfRows =
    (kind : FileKind)
    → ((one : List ℕ) → row_fault kind one ≡ None → IsTrue (same_row kind one one))
    × ((one other : List ℕ) → IsTrue (same_row kind one other) → IsTrue (same_row kind other one))
    × ((one other third : List ℕ) → IsTrue (same_row kind one other)
    → IsTrue (same_row kind other third) → IsTrue (same_row kind one third))

-- the effective time of a row
abbrev pub time_in : Row → Option ℕ
time_in (typed.Concept row) = row.effective_time
time_in (typed.Description row) = row.effective_time
time_in (typed.Relationship row) = row.effective_time
time_in (typed.Concrete row) = row.effective_time
time_in (typed.Member row) = row.effective_time
