use Rattle.release_rows.specs.Traversal.{taken}
use Rattle.release_rows.proofs.places.take_named.Goals as goal
use Rattle.std.proofs.Common.{arith}

-- a file without a kind has no places to take
pub returns-in-None-clause-ok : goal.returns-in-None-clause-ok
returns-in-None-clause-ok g c = grind (arith, c.in-None.is, c.file_kind.ensures, taken)
