use Rattle.std.proofs.Common.{arith}
use Rattle.std.proofs.lemmas.Bool.Decides.{nat_tests}
use Rattle.release_files.specs.Lines.{line_text}
use Rattle.release_rows.specs.inside.Comparison.{compared_in}
use Rattle.release_rows.proofs.CompareLemmas.{denied-line}
use Rattle.release_rows.proofs.TakingLemmas.{if_err}
use Rattle.release_rows.proofs.comparing.Comparing.compare_line.Goals as goal

-- if `compare` refuses the row of the line, the place of the line is refused
pub returns-in-Ok-clause-err : goal.returns-in-Ok-clause-err
returns-in-Ok-clause-err c = if_err _ _ c.compare.result (λ fault said other.
    denied-line (compared_in c.args.self.now) c.args.file c.args.kind
    (line_text c.args.line) fault c.in-Some.first.now c.in-Some.left.now c.in-Some.ensures.cases.0
    (grind (arith, nat_tests, c.if-is_empty.false, c.is_empty.ensures))
    (rw (← c.is_repeated.ensures.same) (said other))) c.compare.ensures.err
