-- A row that is read from a line has the values that the line has.
use Rattle.std.proofs.Common.{ℕ, ◌≡◌, List, arith}
use Rattle.rf2_rows.specs.RowTexts.{of_concept, of_concrete, of_description, of_member, of_relationship, row_text}
use Rattle.rf2_rows.specs.RowTexts.{text_in}
use Rattle.rf2_rows.specs.Rows.{IsRow}
use Rattle.rf2_rows.specs.declared.kind.FileKind.{FileKind}
use Rattle.rf2_rows.specs.declared.row.Row.{Row}

-- if `row` is the row of a line of its kind, it has, with its texts as bytes, the values that the line has
pub text_in-row : (kind : FileKind) (line : List ℕ) (row : Row) → IsRow kind line row → text_in row ≡ row_text kind line
text_in-row x0 line x2 is = grind (arith, of_concept, of_description, of_relationship, of_concrete, of_member)
