use Rattle.snapshot.proofs.PassedLemmas.{counts_passed_rows}
use Rattle.snapshot.proofs.laws.rows_are_listed_or_passed.Goals as goal

-- if places have no fault, the count of rows that a load passes over is the number of rows in none of the lists
pub returns : goal.returns
returns c = counts_passed_rows
