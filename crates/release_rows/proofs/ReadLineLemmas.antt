-- Reading a line after the header as a row, and keeping the row.
use Rattle.std.proofs.lemmas.Bool.Decides.{nat_tests}
use Rattle.std.proofs.lemmas.Grind.{common_steps}
use Rattle.std.proofs.Common.{ℕ, ◌≡◌, ◌<◌, List, length, false, nat_lt, None, Result, Ok, IfOk, arith}
use Rattle.rf2_rows.specs.RowTexts.{text_in}
use Rattle.rf2_rows.specs.Rows.{IsRow, row_fault}
use Rattle.rf2_rows.specs.declared.fault.RowFault.{RowFault}
use Rattle.rf2_rows.specs.declared.kind.FileKind.{FileKind}
use Rattle.rf2_rows.specs.declared.row.Row.{Row}
use Rattle.rf2_rows.proofs.RowTextLemmas.{text_in-row}
use Rattle.release_files.specs.Lines.{LineText}
use Rattle.release_rows.specs.Files.{later_line}
use Rattle.release_rows.specs.inside.RowStore.{IsAdded, IsCrowded, IsRead, IsStopped, RowStore}
use Rattle.row_lists.specs.declared.fault.LoadFault.{LoadFault}

-- if reading the line `bytes` returns `row`, the line has no fault, and its columns have the values of `row`
pub read-row : (kind : FileKind) (bytes : List ℕ) (result : Result Row RowFault) (row : Row) → result ≡ Ok row
    → IfOk result (λ found. IsRow kind bytes found) → IfOk result (λ _. row_fault kind bytes ≡ None)
    → (row_fault kind bytes ≡ None) × IsRow kind bytes row
read-row kind bytes result row is stands accepted = grind (arith, common_steps, nat_tests)

-- if a line is within the limit of bytes, is not empty and is the row `row`, and that row was added, the place of the
-- line was read
pub read-added : (old new : RowStore) (file : ℕ) (kind : FileKind) (line : LineText) (row : Row)
    → nat_lt old.left.bytes line.end ≡ false → 0 < length line.bytes → row_fault kind line.bytes ≡ None
    → IsRow kind line.bytes row
    → IsAdded old kind (text_in row) new → IsRead old (later_line file kind line) new
read-added old new file kind line row fits some accepted is added = grind (arith, nat_tests, text_in-row)

-- if a line is within the limit of bytes, is not empty and is the row `row`, and no more rows of its kind are allowed,
-- the pass stops at the place of the line
pub stopped-crowded : (old new : RowStore) (file : ℕ) (kind : FileKind) (line : LineText) (row : Row)
    (fault : LoadFault)
    → nat_lt old.left.bytes line.end ≡ false → 0 < length line.bytes → row_fault kind line.bytes ≡ None
    → IsRow kind line.bytes row
    → IsCrowded file line.number old kind (text_in row) new fault → IsStopped old (later_line file kind line) new fault
stopped-crowded old new file kind line row fault fits some accepted is crowded = grind (arith, nat_tests, text_in-row)
