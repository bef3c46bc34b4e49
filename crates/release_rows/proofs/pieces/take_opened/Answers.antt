use Rattle.std.proofs.Common.{◌≡◌, ◌∷◌, ◌+◌, take, Ok, ap, arith, inl, inr, refl, sym, ◌∙◌}
use Rattle.release_files.proofs.HeldLemmas.{ReadsOn-trans}
use Rattle.release_files.specs.Lines.{line_text, lines_of}
use Rattle.release_files.specs.PieceLines.{lines_to_come}
use Rattle.release_rows.proofs.TakingLemmas.{stops_first}
use Rattle.release_rows.proofs.PiecesLemmas.{cut_bytes, cut_reachable, cut_short, device_failed, device_fails}
use Rattle.release_rows.proofs.PiecesLemmas.{fails_from, few_lines, gave_line, gave_none, gives_next, goes_lines}
use Rattle.release_rows.proofs.PiecesLemmas.{goes_none, reads_most}
use Rattle.release_rows.proofs.pieces.take_opened.Goals as goal

-- if the first line is refused, going over the places of the file stops there
pub returns-in-Err-take-clause-goes : goal.returns-in-Err-take-clause-goes
returns-in-Err-take-clause-goes g c bytes told short other =
    let known = cut_reachable c.args.byte_limit c.saturating_add-limit.result c.within-lines.result.held.left _ bytes
    told short c.saturating_add-limit.ensures c.within-lines.ensures.left in
    let gave = gave_line c.next_line.result c.in-Ok-Some.first c.within-lines.result
    c.next_line.follows.lender-at-none _ _ (take (c.args.byte_limit + 1) bytes)
    (gives_next c.next_line.result _ _ _ _ _ _ c.next_line.follows.holds-at-none.0)
    (c.in-Ok-Some.is ∙ ap Ok c.in-Ok-Some.field-0-is) known in
    let lines = c.within-lines.ensures.lines (take (c.args.byte_limit + 1) bytes)
    (cut_short (c.args.byte_limit + 1) bytes short) in
    inr (stops_first g.T.PlaceTaker.takes g.T.PlaceTaker.refuses c.args.file c.args.kind
    (lines_of (take (c.args.byte_limit + 1) bytes)) (line_text c.in-Ok-Some.first)
    (lines_to_come c.next_line.follows.lender-at-none gave.now) (sym lines ∙ gave.cut)
    c.args.taker.now c.take.new.self c.in-Err-take.fault (c.in-Err-take.ensures.err other))

-- if the first line is taken, going over the file ends as going over the later lines does
pub returns-in-Ok-clause-goes : goal.returns-in-Ok-clause-goes
returns-in-Ok-clause-goes g c bytes told short =
    let H = g.S.FileSource.history in
    let known = cut_reachable c.args.byte_limit c.saturating_add-limit.result c.within-lines.result.held.left _ bytes
    told short c.saturating_add-limit.ensures c.within-lines.ensures.left in
    let gave = gave_line c.next_line.result c.in-Ok-Some.first c.within-lines.result
    c.next_line.follows.lender-at-none _ _ (take (c.args.byte_limit + 1) bytes)
    (gives_next c.next_line.result _ _ _ _ _ _ c.next_line.follows.holds-at-none.0)
    (c.in-Ok-Some.is ∙ ap Ok c.in-Ok-Some.field-0-is) known in
    let others = lines_to_come c.next_line.follows.lender-at-none gave.now in
    let lines = c.within-lines.ensures.lines (take (c.args.byte_limit + 1) bytes)
    (cut_short (c.args.byte_limit + 1) bytes short) in
    let cut : lines_of (take (c.args.byte_limit + 1) bytes) ≡ line_text c.in-Ok-Some.first ∷ others =
    sym lines ∙ gave.cut in
    goes_lines g.T.PlaceTaker.takes g.T.PlaceTaker.refuses c.args.file c.args.kind _ _
    (lines_of (take (c.args.byte_limit + 1) bytes)) (line_text c.in-Ok-Some.first) others cut
    (λ fault failed. fails_from c.args.file (H c.args.source.now) (H c.next_line.new.source) (H c.take_later.new.source)
    fault c.in-Ok-Some.ensures.failures failed)
    c.args.taker.now c.take.new.self c.take_later.new.taker c.in-Ok.ensures.ok c.take_later.result
    (c.take_later.ensures.goes gave.now gave.told
    (few_lines c.saturating_add-limit.result bytes (line_text c.in-Ok-Some.first) others
    (grind (arith, cut_bytes, short, c.saturating_add-limit.ensures, cut))))

-- if the file has no line, its one place is taken or refused
pub returns-in-Ok-None-clause-goes : goal.returns-in-Ok-None-clause-goes
returns-in-Ok-None-clause-goes g c bytes told short =
    let known = cut_reachable c.args.byte_limit c.saturating_add-limit.result c.within-lines.result.held.left _ bytes
    told short c.saturating_add-limit.ensures c.within-lines.ensures.left in
    let none = gave_none c.next_line.result c.within-lines.result c.next_line.follows.lender-at-none _ _
    (take (c.args.byte_limit + 1) bytes) (gives_next c.next_line.result _ _ _ _ _ _
    c.next_line.follows.holds-at-none.0) (c.in-Ok-None.is ∙ ap Ok c.in-Ok-None.field-0-is) known in
    goes_none g.T.PlaceTaker.takes g.T.PlaceTaker.refuses c.args.file c.args.kind _
    (lines_of (take (c.args.byte_limit + 1) bytes))
    (grind (arith, (c.within-lines.ensures.lines (take (c.args.byte_limit + 1) bytes)), cut_short, none))
    c.args.taker.now c.take-in-Ok-None.new.self c.take-in-Ok-None.result c.take-in-Ok-None.ensures.ok
    c.take-in-Ok-None.ensures.err

-- if the source fails at the first line and the fault is not want of memory, the device failed at the file
pub returns-in-Err-clause-goes : goal.returns-in-Err-clause-goes
returns-in-Err-clause-goes g c bytes told short other =
    let H = g.S.FileSource.history in
    inl (device_fails c.args.file (H c.args.source.now) (H c.args.source.now) (H c.next_line.new.source) c.in-Err.fault
    c.fault_of.result c.in-Err.ensures.failures refl
    c.fault_of.ensures other)

-- if the first line is refused, the source has taken no more bytes than may be read
pub returns-in-Err-take-clause-bounded : goal.returns-in-Err-take-clause-bounded
returns-in-Err-take-clause-bounded g c = reads_most _ _ _ _ _ c.next_line.follows.holds-at-none.1
    (omega (arith, c.saturating_add-limit.ensures, c.within-lines.ensures.left))

-- after the later lines the source has taken no more bytes than may be read
pub returns-in-Ok-clause-bounded : goal.returns-in-Ok-clause-bounded
returns-in-Ok-clause-bounded g c = reads_most _ _ _ _ _
    (ReadsOn-trans _ _ _ _ _ _ c.next_line.follows.holds-at-none.1 c.take_later.ensures.bounded)
    (omega (arith, c.saturating_add-limit.ensures, c.within-lines.ensures.left))

-- if the file has no line, the source has taken no more bytes than may be read
pub returns-in-Ok-None-clause-bounded : goal.returns-in-Ok-None-clause-bounded
returns-in-Ok-None-clause-bounded g c = reads_most _ _ _ _ _ c.next_line.follows.holds-at-none.1
    (omega (arith, c.saturating_add-limit.ensures, c.within-lines.ensures.left))

-- if the source fails at the first line, it has taken no more bytes than may be read
pub returns-in-Err-clause-bounded : goal.returns-in-Err-clause-bounded
returns-in-Err-clause-bounded g c = reads_most _ _ _ _ _ c.next_line.follows.holds-at-none.1
    (omega (arith, c.saturating_add-limit.ensures, c.within-lines.ensures.left))

-- if the device fails at the first line, it failed at the file that was open
pub returns-in-Err-clause-failed : goal.returns-in-Err-clause-failed
returns-in-Err-clause-failed g c device =
    let H = g.S.FileSource.history in
    device_failed c.args.file (H c.args.source.now) (H c.next_line.new.source) c.in-Err.fault c.fault_of.result
    c.in-Err.ensures.failures c.fault_of.ensures device
