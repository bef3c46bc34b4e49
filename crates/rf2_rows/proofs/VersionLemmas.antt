-- `same_row` is an equivalence relation on the lines of a kind of file, and the effective time of a row is that of
-- its line.
use Rattle.std.proofs.lemmas.Bool.Decides.{nat_tests, Decides-eqb}
use Rattle.std.proofs.lemmas.Grind.{common_steps}
use Rattle.std.proofs.Common.{◌≡◌, ℕ, Bool, true, IsTrue, List, [], ◌∷◌, length, Option, None, refl, arith, Decides}
use Rattle.std.proofs.lemmas.Bool.{false≢true, and_from}
use Rattle.std.proofs.lemmas.Slice.Eq.{bytes_eq-Decides}
use Rattle.rf2_rows.specs.Columns.{Column, Format, columns_of, uuid_format, time_format, active_format, text_format}
use Rattle.rf2_rows.specs.Columns.{value_format}
use Rattle.numerals.specs.Numbers.{number_of}
use Rattle.release_model.specs.Release.{Value}
use Rattle.rf2_rows.specs.Rows.{IsRow, active_of, fields_of, row_fault, time_of, uuid_of}
use Rattle.rf2_rows.specs.Values.{value_of}
use Rattle.rf2_rows.specs.Versions.{IsEquivalenceOfRows, same_flag, same_row, same_value, same_values, time_in, time_on}
use Rattle.rf2_rows.specs.declared.kind.FileKind.{FileKind}
use Rattle.rf2_rows.specs.declared.row.Row.{Row}
use Rattle.rf2_rows.proofs.Accepted.{few_fields, width_of_line}
use Rattle.release_model.proofs.PairLemmas.{tells_same_value}

same_flag_tells : (one other : Bool) → Decides (same_flag one other) (one ≡ other)
same_flag_tells one other = grind arith

-- the type of the values that the texts of a column are read as
abbrev Meaning : Format → Type 0
Meaning uuid_format = List ℕ
Meaning time_format = Option ℕ
Meaning active_format = Bool
Meaning text_format = List ℕ
Meaning value_format = Value
Meaning _ = ℕ

-- the value that a text of a column is read as
abbrev meaning : (format : Format) → List ℕ → Meaning format
meaning uuid_format text = uuid_of text
meaning time_format text = time_of text
meaning active_format text = active_of text
meaning text_format text = text
meaning value_format text = value_of text
meaning _ text = number_of text

-- `same_value` holds for two texts exactly if both are read as one value
tells : (format : Format) (one other : List ℕ)
    → Decides (same_value format one other) (meaning format one ≡ meaning format other)
tells uuid_format one other = bytes_eq-Decides (uuid_of one) (uuid_of other)
tells time_format one other = grind (arith, time_of)
tells active_format one other = same_flag_tells (active_of one) (active_of other)
tells text_format one other = bytes_eq-Decides one other
tells value_format one other = tells_same_value (value_of one) (value_of other)
tells _ one other = Decides-eqb (number_of one) (number_of other)

-- `same_values` holds for fields and themselves, if there is one field for each column
same_values-refl : (columns : List Column) (ones : List (List ℕ)) → length ones ≡ length columns
    → same_values columns ones ones ≡ true
same_values-refl [] [] width = refl
same_values-refl (column ∷ columns) (one ∷ ones) width =
    grind (arith, common_steps, nat_tests, and_from, tells, (same_values-refl columns ones (omega arith)))
same_values-refl _ _ width = absurd (omega arith)

-- `same_values` is symmetric
same_values-sym : (columns : List Column) (ones others : List (List ℕ)) → same_values columns ones others ≡ true
    → same_values columns others ones ≡ true
same_values-sym [] [] [] is = is
same_values-sym (column ∷ columns) (one ∷ ones) (other ∷ others) is =
    grind (arith, tells, (same_values-sym columns ones others))
same_values-sym _ _ _ is = absurd (false≢true is)

-- `same_values` is transitive
same_values-trans : (columns : List Column) (ones others thirds : List (List ℕ))
    → same_values columns ones others ≡ true → same_values columns others thirds ≡ true
    → same_values columns ones thirds ≡ true
same_values-trans [] [] [] thirds is also = also
same_values-trans (column ∷ columns) (one ∷ ones) (other ∷ others) (third ∷ thirds) is also =
    grind (arith, tells, (same_values-trans columns ones others thirds))
same_values-trans (column ∷ columns) (one ∷ ones) (other ∷ others) [] is also = absurd (false≢true also)
same_values-trans _ _ _ thirds is also = absurd (false≢true is)

-- `same_row` holds of an accepted line and itself
pub same_row-refl : (kind : FileKind) (one : List ℕ) → row_fault kind one ≡ None → IsTrue (same_row kind one one)
same_row-refl kind one accepted = same_values-refl (columns_of kind) (fields_of one) (width_of_line kind one accepted)

-- rules for `grind` about accepted lines: they have at most 10 fields, and `same_row` holds of each and itself
pub ruleset accepted_lines = (few_fields, same_row-refl)

-- `same_row` is symmetric: if it holds of `one` and `other`, it holds of `other` and `one`
pub same_row-sym : (kind : FileKind) (one other : List ℕ) → IsTrue (same_row kind one other)
    → IsTrue (same_row kind other one)
same_row-sym kind one other is = same_values-sym (columns_of kind) (fields_of one) (fields_of other) is

-- `same_row` is transitive: if it holds of `one` and `other`, and of `other` and `third`, it holds of `one` and
-- `third`
pub same_row-trans : (kind : FileKind) (one other third : List ℕ) → IsTrue (same_row kind one other)
    → IsTrue (same_row kind other third) → IsTrue (same_row kind one third)
same_row-trans kind one other third is also = grind (arith, common_steps, nat_tests, same_values-trans)

-- `same_row` is an equivalence relation on accepted lines
pub rows_are_equivalent : IsEquivalenceOfRows
rows_are_equivalent kind = (same_row-refl kind, same_row-sym kind, same_row-trans kind)

-- the effective time of a row is that of the line that it was read from
pub time_in-on : (kind : FileKind) (line : List ℕ) (row : Row) → IsRow kind line row → time_in row ≡ time_on kind line
time_in-on x0 line x2 is = grind arith
