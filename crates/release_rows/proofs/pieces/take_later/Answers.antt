use Rattle.release_files.proofs.HeldLemmas.{ReadsOn-trans}
use Rattle.std.proofs.Common.{Ok, ap, arith, inl, inr, ◌∙◌}
use Rattle.release_rows.proofs.PiecesLemmas.{device_failed, device_fails, gives_next, LinesLeft-end, LinesLeft-next}
use Rattle.release_rows.proofs.PiecesLemmas.{LinesLeft-stop, reads_most}
use Rattle.release_rows.proofs.pieces.take_later.Goals as goal

-- a line that is taken keeps the invariant for the next turn
pub loop-turn-preserved : goal.loop-turn-preserved
loop-turn-preserved g c = record {
  left = λ rest told few. LinesLeft-next g.T.PlaceTaker.takes g.T.PlaceTaker.refuses c.args.file c.args.kind
      c.args.taker.now c.loop-turn.taker c.take.new.self
      _ c.args.turns c.loop-turn.turn _ _ c.loop-turn.lines c.next_line.follows.lender-at-none c.next_line.result
      c.in-Ok-Some.line
      (c.loop-turn.invariant.left rest told few)
      (gives_next c.next_line.result _ _ _ _ _ _ c.next_line.follows.holds-at-none.0)
      (c.in-Ok-Some.is ∙ ap Ok c.in-Ok-Some.field-0-is) c.in-Ok.ensures.ok;
  history = ReadsOn-trans _ _ _ _ _ _ c.loop-turn.invariant.history c.next_line.follows.holds-at-none.1;
  files = c.in-Ok-Some.ensures.files ∙ c.loop-turn.invariant.files;
  failures = c.in-Ok-Some.ensures.failures ∙ c.loop-turn.invariant.failures;
}

-- if a line is refused, going over the later lines stops at it
pub returns-in-Err-take-clause-goes : goal.returns-in-Err-take-clause-goes
returns-in-Err-take-clause-goes g c rest told few other =
    inr (LinesLeft-stop g.T.PlaceTaker.takes g.T.PlaceTaker.refuses c.args.file c.args.kind c.args.taker.now
    c.loop-turn.taker c.take.new.self
    _ c.args.turns c.loop-turn.turn _ _ c.loop-turn.lines c.next_line.follows.lender-at-none c.next_line.result
    c.in-Ok-Some.line c.in-Err-take.fault
    (c.loop-turn.invariant.left rest told few)
    (gives_next c.next_line.result _ _ _ _ _ _ c.next_line.follows.holds-at-none.0)
    (c.in-Ok-Some.is ∙ ap Ok c.in-Ok-Some.field-0-is) (c.in-Err-take.ensures.err other))

-- if no line is left, all later lines have been taken
pub returns-in-Ok-None-clause-goes : goal.returns-in-Ok-None-clause-goes
returns-in-Ok-None-clause-goes g c rest told few =
    LinesLeft-end g.T.PlaceTaker.takes g.T.PlaceTaker.refuses c.args.file c.args.kind c.args.taker.now c.loop-turn.taker
    _ c.args.turns c.loop-turn.turn _ _ c.loop-turn.lines c.next_line.follows.lender-at-none c.next_line.result
    (c.loop-turn.invariant.left rest told few)
    (gives_next c.next_line.result _ _ _ _ _ _ c.next_line.follows.holds-at-none.0)
    (c.in-Ok-None.is ∙ ap Ok c.in-Ok-None.field-0-is)

-- if a line is refused, the source has taken no more bytes than may be read
pub returns-in-Err-take-clause-bounded : goal.returns-in-Err-take-clause-bounded
returns-in-Err-take-clause-bounded g c =
    reads_most _ _ _ _ _ (ReadsOn-trans _ _ _ _ _ _ c.loop-turn.invariant.history c.next_line.follows.holds-at-none.1)
    (omega arith)

-- if no line is left, the source has taken no more bytes than may be read
pub returns-in-Ok-None-clause-bounded : goal.returns-in-Ok-None-clause-bounded
returns-in-Ok-None-clause-bounded g c =
    reads_most _ _ _ _ _ (ReadsOn-trans _ _ _ _ _ _ c.loop-turn.invariant.history c.next_line.follows.holds-at-none.1)
    (omega arith)

-- if the source fails, it has taken no more bytes than may be read
pub returns-in-Err-clause-bounded : goal.returns-in-Err-clause-bounded
returns-in-Err-clause-bounded g c =
    reads_most _ _ _ _ _ (ReadsOn-trans _ _ _ _ _ _ c.loop-turn.invariant.history c.next_line.follows.holds-at-none.1)
    (omega arith)

-- if all turns have passed, the source has taken no more bytes than may be read
pub returns-clause-bounded : goal.returns-clause-bounded
returns-clause-bounded g c = reads_most _ _ _ _ _ c.loop-turn.invariant.history (omega arith)

-- if the device fails, it failed at the file that was open
pub returns-in-Err-clause-failed : goal.returns-in-Err-clause-failed
returns-in-Err-clause-failed g c device =
    let H = g.S.FileSource.history in
    device_failed c.args.file (H c.loop-turn.source) (H c.next_line.new.source) c.in-Err.fault c.fault_of.result
    c.in-Err.ensures.failures c.fault_of.ensures device
    ∙ c.loop-turn.invariant.history.opened

-- if the source fails and the fault is not want of memory, the device failed at the file
pub returns-in-Err-clause-goes : goal.returns-in-Err-clause-goes
returns-in-Err-clause-goes g c rest told few other =
    let H = g.S.FileSource.history in
    inl (device_fails c.args.file (H c.args.source.now) (H c.loop-turn.source) (H c.next_line.new.source) c.in-Err.fault
    c.fault_of.result c.in-Err.ensures.failures
    c.loop-turn.invariant.failures c.fault_of.ensures other)
