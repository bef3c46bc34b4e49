use Rattle.release_rows.proofs.FirstFaultLemmas.{names_first_fault}
use Rattle.release_rows.proofs.laws.first_fault_is_the_first.Goals as goal

-- `first_fault` finds the fault of a place before which no place has one
pub returns : goal.returns
returns c = names_first_fault
