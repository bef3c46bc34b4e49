use Rattle.std.proofs.Common.{arith, map}
use Rattle.std.proofs.lemmas.Bool.Decides.{nat_tests}
use Rattle.std.proofs.lemmas.Grind.{common_steps}
use Rattle.release_files.specs.Lines.{line_text}
use Rattle.release_rows.specs.Files.{later_line}
use Rattle.release_rows.proofs.TakingLemmas.{Leads-end, Leads-next, Leads-stop}
use Rattle.release_rows.proofs.places.take_lines.Goals as goal

-- a line that is taken keeps the invariant for the next line
pub loop-line-preserved : goal.loop-line-preserved
loop-line-preserved g c = grind (arith, common_steps, nat_tests, Leads-next)

-- if a line is refused, going over the lines stops there
pub returns-in-Err-clause-err : goal.returns-in-Err-clause-err
returns-in-Err-clause-err g c other =
    Leads-stop g.T.PlaceTaker.takes g.T.PlaceTaker.refuses c.args.taker.now c.loop-line.taker c.take.new.self _
    (map (later_line c.args.file c.args.kind) c.next.new.self)
    (later_line c.args.file c.args.kind (line_text c.in-Some.line)) c.in-Err.fault
    (rw c.in-Some.ensures.steps at c.loop-line.invariant) (c.in-Err.ensures.err other)

-- after the last line all lines have been taken
pub returns-clause-ok : goal.returns-clause-ok
returns-clause-ok g c = grind (arith, Leads-end, c.in-None.ensures.steps.0, c.loop-line.invariant)
