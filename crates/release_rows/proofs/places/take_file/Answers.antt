use Rattle.std.proofs.Common.{arith}
use Rattle.std.proofs.lemmas.Bool.Decides.{nat_tests}
use Rattle.std.proofs.lemmas.Grind.{common_steps}
use Rattle.release_files.specs.Lines.{line_text, lines_of}
use Rattle.release_rows.proofs.TakingLemmas.{if_err, stops_first, stops_lines, stops_none, takes_lines, takes_none}
use Rattle.release_rows.proofs.places.take_file.Goals as goal

-- if the first line is refused, going over the file stops there
pub returns-in-Err-clause-err : goal.returns-in-Err-clause-err
returns-in-Err-clause-err g c other =
    grind (
      arith,
      (stops_first g.T.PlaceTaker.takes g.T.PlaceTaker.refuses c.args.file c.args.kind
          (lines_of c.args.bytes.now) (line_text c.in-Some.first) c.next.new.self),
      c.new-lines.ensures.lines,
      c.in-Some.ensures.steps,
      c.in-Err.ensures.err,
    )

-- if the first line and the later lines are taken, all places of the file are
pub returns-in-Ok-clause-ok : goal.returns-in-Ok-clause-ok
returns-in-Ok-clause-ok g c =
    grind (
      arith,
      (takes_lines g.T.PlaceTaker.takes g.T.PlaceTaker.refuses c.args.file c.args.kind
          (lines_of c.args.bytes.now) (line_text c.in-Some.first) c.next.new.self),
      c.new-lines.ensures.lines,
      c.in-Some.ensures.steps,
      c.in-Ok.ensures.ok,
      c.take_lines.ensures.ok,
    )

-- if one of the later lines is refused, going over the file stops there
pub returns-in-Ok-clause-err : goal.returns-in-Ok-clause-err
returns-in-Ok-clause-err g c =
    grind (
      arith,
      (stops_lines g.T.PlaceTaker.takes g.T.PlaceTaker.refuses c.args.file c.args.kind
          (lines_of c.args.bytes.now) (line_text c.in-Some.first) c.next.new.self),
      c.new-lines.ensures.lines,
      c.in-Some.ensures.steps,
      c.in-Ok.ensures.ok,
      c.take_lines.ensures.err,
    )

-- if the one place of a file without a line is taken, all its places are
pub returns-in-None-clause-ok : goal.returns-in-None-clause-ok
returns-in-None-clause-ok g c =
    grind (
      arith,
      (takes_none g.T.PlaceTaker.takes g.T.PlaceTaker.refuses c.args.file c.args.kind
          (lines_of c.args.bytes.now)),
      c.new-lines.ensures.lines,
      c.in-None.ensures.steps.0,
      c.take-in-None.ensures.ok,
    )

-- if the one place of a file without a line is refused, going over the file stops there
pub returns-in-None-clause-err : goal.returns-in-None-clause-err
returns-in-None-clause-err g c = grind (arith, common_steps, nat_tests, if_err, stops_none)
