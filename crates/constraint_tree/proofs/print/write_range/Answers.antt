use Rattle.std.proofs.Common.{arith}
use Rattle.std.proofs.lemmas.List.{append_assoc}
use Rattle.constraint_tree.proofs.print.write_range.Goals as goal

-- the brackets, the minimum, `..` and the maximum, written one after another, are the text of the cardinality
pub returns : goal.returns
returns c = grind (arith, append_assoc)
