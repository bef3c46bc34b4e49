use Rattle.std.proofs.Common.{arith}
use Rattle.std.proofs.lemmas.Bool.{le-ltb}
use Rattle.std.proofs.lemmas.Bool.Decides.{nat_tests}
use Rattle.release_files.specs.Lines.{line_text}
use Rattle.release_rows.specs.inside.RowsInside.{kept_in}
use Rattle.release_rows.proofs.ReadLineLemmas.{read-added, read-row, stopped-crowded}
use Rattle.release_rows.proofs.TakingLemmas.{if_err}
use Rattle.release_rows.proofs.rows.Rows.read_line.Goals as goal

-- if the row of a line was added, the place of the line was read
pub returns-in-Ok-clause-ok : goal.returns-in-Ok-clause-ok
returns-in-Ok-clause-ok c =
    grind (
      arith,
      nat_tests,
      c.if-line-self.false,
      c.if-is_empty.false,
      c.is_empty.ensures,
      (read-row c.args.kind c.args.line.bytes.now c.read_row.result c.in-Ok.row c.in-Ok.is c.read_row.ensures.row
          c.read_row.ensures.accepted),
      (read-added (kept_in c.args.self.now) (kept_in c.add.new.self) c.args.file c.args.kind
          (line_text c.args.line) c.in-Ok.row),
      c.add.ensures.ok,
    )

-- if no more rows of the kind may come, the place of the line stops the pass
pub returns-in-Ok-clause-err : goal.returns-in-Ok-clause-err
returns-in-Ok-clause-err c =
    let read = read-row c.args.kind c.args.line.bytes.now c.read_row.result c.in-Ok.row c.in-Ok.is
    c.read_row.ensures.row c.read_row.ensures.accepted in
    if_err _ _ c.add.result (λ fault said other.
    stopped-crowded (kept_in c.args.self.now) (kept_in c.add.new.self) c.args.file c.args.kind (line_text c.args.line)
    c.in-Ok.row fault (le-ltb c.args.self.now.left.bytes c.args.line.end c.if-line-self.false)
    (grind (arith, nat_tests, c.if-is_empty.false, c.is_empty.ensures)) read.0 read.1 (said other)) c.add.ensures.err
