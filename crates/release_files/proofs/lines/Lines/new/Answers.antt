-- There are no more lines than bytes.
use Rattle.std.proofs.Common.{le_trans, arith}
use Rattle.release_files.proofs.Parts.{length-lines}
use Rattle.release_files.proofs.lines.Lines.new.Goals as goal

-- a file with a byte order mark has no more lines than bytes
pub returns-in-Some-clause-few : goal.returns-in-Some-clause-few
returns-in-Some-clause-few c = le_trans (length-lines 0 3 c.in-Some.rest.now) (omega (arith, c.in-Some.ensures.cases))

-- a file without a byte order mark has no more lines than bytes
pub returns-in-None-clause-few : goal.returns-in-None-clause-few
returns-in-None-clause-few c = length-lines 0 0 c.args.bytes.now
