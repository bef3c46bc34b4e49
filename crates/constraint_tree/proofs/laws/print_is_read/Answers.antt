use Rattle.constraint_tree.proofs.LawLemmas.{printed_is_read}
use Rattle.constraint_tree.proofs.laws.print_is_read.Goals as goal

-- the printed text of a constraint's tree is a constraint with that tree, if it has at most `most_bytes` bytes
pub returns : goal.returns
returns c = printed_is_read
