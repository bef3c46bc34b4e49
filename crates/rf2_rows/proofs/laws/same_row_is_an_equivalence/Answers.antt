use Rattle.rf2_rows.proofs.VersionLemmas.{rows_are_equivalent}
use Rattle.rf2_rows.proofs.laws.same_row_is_an_equivalence.Goals as goal

-- `same_row` is an equivalence of accepted lines of a kind
pub returns : goal.returns
returns c = rows_are_equivalent
