use Rattle.std.proofs.Common.{arith}
use Rattle.std.proofs.lemmas.Grind.{common_steps}
use Rattle.std.proofs.lemmas.List.Elements.{All-weaker}
use Rattle.release_rows.specs.inside.VersionsInside.{IsLineOf}
use Rattle.row_lists.proofs.SpanLemmas.{all-push}
use Rattle.release_rows.proofs.VersionLemmas.{line-extends, rows_kept}
use Rattle.release_rows.proofs.versions.VersionRows.push.Goals as goal

-- if the line cannot be added, the lines of the versions still stand in the buffer
pub invariant_of-self : goal.invariant_of-self
invariant_of-self c = grind (arith, c.in_err-line.ensures.same, c.self.invariant)

-- if the line cannot be added, the versions stay as they were
pub returns-in_err-line-clause-err : goal.returns-in_err-line-clause-err
returns-in_err-line-clause-err c = grind (arith, c.in_err-line.ensures.same)

-- if the row cannot be added, the lines of the versions still stand in the longer buffer
pub invariant_of-self-in_err-push : goal.invariant_of-self-in_err-push
invariant_of-self-in_err-push c =
    let lines = c.self.inside.lines.items in
    let grown = c.push_bytes.new.texts.items in
    let stays = line-extends lines grown (c.args.text.now, c.in_ok-line.ensures.grown) in
    rw c.in_err-push.ensures.items
    (All-weaker (IsLineOf lines) (IsLineOf grown) stays c.self.inside.rows.items c.self.invariant)

-- if the row cannot be added, the versions stay as they were
pub returns-in_err-push-clause-err : goal.returns-in_err-push-clause-err
returns-in_err-push-clause-err c =
    let kept = rows_kept c.self.inside.lines.items c.push_bytes.new.texts.items
    (c.args.text.now, c.in_ok-line.ensures.grown) c.self.inside.rows.items c.self.invariant in
    grind (arith, common_steps, kept, c.in_err-push.ensures.items)

-- after the row is added, the lines of all versions stand in the buffer
pub invariant_of-self-2 : goal.invariant_of-self-2
invariant_of-self-2 c =
    let lines = c.self.inside.lines.items in
    let grown = c.push_bytes.new.texts.items in
    all-push (IsLineOf lines) (IsLineOf grown)
    (line-extends lines grown (c.args.text.now, c.in_ok-line.ensures.grown)) c.self.inside.rows.items
    c.push.new.self.items _ c.in_ok-push.ensures.items c.self.invariant
    (record { placed = c.in_ok-line.ensures.span.placed; accepted = rw c.in_ok-line.ensures.span.same c.requires })

-- after the row is added, its version comes last
pub returns-clause-ok : goal.returns-clause-ok
returns-clause-ok c =
    let kept = rows_kept c.self.inside.lines.items c.push_bytes.new.texts.items
    (c.args.text.now, c.in_ok-line.ensures.grown) c.self.inside.rows.items c.self.invariant in
    grind (arith, common_steps, kept, c.in_ok-push.ensures.items, c.in_ok-line.ensures.span.same)
