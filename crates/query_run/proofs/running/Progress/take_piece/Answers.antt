use Rattle.std.proofs.Common.{◌≡◌, ℕ, ◌+◌, ◌∷◌, ◌++◌, [], List, length, take, refl, sym, ap, ◌∙◌, subst, append_assoc}
use Rattle.std.proofs.Common.{length-append, arith}
use Rattle.std.proofs.lemmas.List.{take_at}
use Rattle.query_run.specs.Lines.{AreWritten, IsCutInto, query_lines}
use Rattle.query_run.specs.Fault.{IsAnswerFault, LeavesWritten}
use Rattle.query_run.proofs.KeptLemmas.{kept_more, leaves_kept, written_kept}
use Rattle.query_run.proofs.LineLemmas.{IsCutInto-pending, IsCutInto-ended, IsCutInto-unended, query_lines_from}
use Rattle.query_run.proofs.FaultLemmas.{answers_none, answers_then, LeavesWritten_after, LeavesWritten-more}
use Rattle.query_run.proofs.running.Progress.take_piece.Goals as goal

-- before the first line the bytes before the piece are pending
pub loop-line-init : goal.loop-line-init
loop-line-init g c = record {
  not_failed = c.requires.not_failed;
  waiting = c.requires.waiting;
  few = omega arith;
  lines = λ unended clear kept. (
    unended,
    [],
    refl,
    (unended, IsCutInto-pending unended clear, kept),
    omega arith,
    answers_none (g.A.AnswerLine.answers c.args.answerer.now) (g.W.AnswerOutput.written c.args.output.now),
  );
}

-- one more line that ended is answered, and the pending bytes are empty
pub loop-line-preserved : goal.loop-line-preserved
loop-line-preserved g c =
    let line = c.in-Some.line.now in
    let rest = c.in-Some.later.now in
    let kept_now = c.loop-line.self.pending.items in
    let answers = g.A.AnswerLine.answers c.args.answerer.now in
    let rest_is : c.loop-line.rest.now ≡ line ++ 10 ∷ rest = c.in-Some.ensures.0 in
    record {
      not_failed = c.in-Ok.ensures.not_failed;
      waiting = c.in-Ok.ensures.waiting;
      few = omega (
        arith,
        ap length rest_is,
        length-append line (10 ∷ rest),
        c.in-Ok.ensures.answered,
        c.loop-line.invariant.few,
      );
      lines = λ unended clear kept.
          let (before, lines, whole, (begun, cut, is), count, wrote) =
          c.loop-line.invariant.lines unended clear kept in (
            before ++ (line ++ 10 ∷ []),
            lines ++ (begun ++ line) ∷ [],
            whole ∙ ap (λ (bytes : List ℕ). before ++ bytes) rest_is ∙ simp append_assoc,
            ([], IsCutInto-ended before lines begun line cut c.in-Some.ensures.1, c.in-Ok.ensures.pending),
            omega (arith, c.in-Ok.ensures.answered, count, length-append lines ((begun ++ line) ∷ [])),
            answers_then answers (g.W.AnswerOutput.written c.args.output.now)
                (g.W.AnswerOutput.written c.loop-line.output) (g.W.AnswerOutput.written c.answer_line.new.output)
                lines ((begun ++ line) ∷ []) wrote (written_kept answers (g.met.A.AnswerLine.same_front
                c.args.answerer.now) begun kept_now is line _ _ c.in-Ok.ensures.answer),
          );
    }

-- the fault met the answer to the line after those that were answered
pub returns-in-Err-clause-fault : goal.returns-in-Err-clause-fault
returns-in-Err-clause-fault g c unended clear kept =
    let (before, lines, whole, (begun, cut, is), count, wrote) = c.loop-line.invariant.lines unended clear kept in
    let line = c.in-Some.line.now in
    let rest = c.in-Some.later.now in
    let rest_is : c.loop-line.rest.now ≡ line ++ 10 ∷ rest = c.in-Some.ensures.0 in
    let all : query_lines (unended ++ c.args.piece.now) ≡ lines ++ ((begun ++ line) ∷ query_lines rest) =
    ap query_lines (whole ∙ ap (λ (bytes : List ℕ). before ++ bytes) rest_is)
    ∙ query_lines_from before lines begun line rest cut c.in-Some.ensures.1 in
    let answers = g.A.AnswerLine.answers c.args.answerer.now in
    let old = g.W.AnswerOutput.written c.args.output.now in
    let mid = g.W.AnswerOutput.written c.loop-line.output in
    let new = g.W.AnswerOutput.written c.answer_line.new.output in
    let here : LeavesWritten answers ((begun ++ line) ∷ query_lines rest) 0 c.in-Err.fault mid new =
    LeavesWritten-more answers ((begun ++ line) ∷ []) (query_lines rest) 0 mid new c.in-Err.fault
    (leaves_kept answers (g.met.A.AnswerLine.same_front c.args.answerer.now) begun c.loop-line.self.pending.items is
    line c.in-Err.fault mid new c.in-Err.ensures.fault.1) in (
      length lines + 0,
      subst (λ (n : ℕ). IsAnswerFault c.in-Err.fault n (g.W.AnswerOutput.has_failed c.answer_line.new.output))
          (omega (arith, count)) c.in-Err.ensures.fault.0,
      subst (λ (found : List (List ℕ)). LeavesWritten answers found (length lines + 0) c.in-Err.fault old new) (sym all)
          (LeavesWritten_after answers lines ((begun ++ line) ∷ query_lines rest) 0 old mid new c.in-Err.fault wrote
          here),
    )

-- the bytes after the last line feed of the piece are kept
pub returns-in-Ok-keep-clause-ok : goal.returns-in-Ok-keep-clause-ok
returns-in-Ok-keep-clause-ok g c unended clear kept =
    let (before, lines, whole, (begun, cut, is), count, wrote) = c.loop-line.invariant.lines unended clear kept in
    let rest = c.loop-line.rest.now in (
      lines,
      (
        begun ++ rest,
        subst (λ (bytes : List ℕ). IsCutInto bytes lines (begun ++ rest)) (sym whole)
            (IsCutInto-unended before lines begun rest cut c.in_default.ensures),
        kept_more begun c.loop-line.self.pending.items rest c.keep.new.self.pending.items is
            c.in-Ok-keep.ensures.pending,
      ),
      omega (arith, count, c.keep.ensures.answered),
      wrote,
    )

-- if the bytes after the last line feed can't be kept, all lines that ended were answered
pub returns-in-Err-keep-clause-fault : goal.returns-in-Err-keep-clause-fault
returns-in-Err-keep-clause-fault g c unended clear kept =
    let (before, lines, whole, (begun, cut, is), count, wrote) = c.loop-line.invariant.lines unended clear kept in
    let rest = c.loop-line.rest.now in
    let all : query_lines (unended ++ c.args.piece.now) ≡ lines ++ query_lines (begun ++ rest) =
    ap query_lines whole ∙ cut.goes_on rest in (
      length lines,
      (omega (arith, count, c.keep.ensures.answered), c.loop-line.invariant.not_failed),
      (
        omega (arith, ap length all, length-append lines (query_lines (begun ++ rest))),
        subst (λ (found : List (List ℕ)). AreWritten (g.A.AnswerLine.answers c.args.answerer.now) found
            (g.W.AnswerOutput.written c.args.output.now) (g.W.AnswerOutput.written c.loop-line.output))
            (sym (ap (take (length lines)) all ∙ take_at lines (query_lines (begun ++ rest)) (length lines) refl))
            wrote,
      ),
    )

-- a line with its line feed is cut off, so the rest gets shorter
pub loop-line-smaller : goal.loop-line-smaller
loop-line-smaller g c =
    let line = c.in-Some.line.now in
    let later = c.in-Some.later.now in
    let is : c.loop-line.rest.now ≡ line ++ 10 ∷ later = c.in-Some.ensures.0 in
    omega (arith, ap length is, length-append line (10 ∷ later))

-- one more answer can be counted, because a piece has fewer than 2^64 lines
pub answer_line-requires-clause-room : goal.answer_line-requires-clause-room
answer_line-requires-clause-room g c =
    let line = c.in-Some.line.now in
    let later = c.in-Some.later.now in
    let is : c.loop-line.rest.now ≡ line ++ 10 ∷ later = c.in-Some.ensures.0 in
    omega (arith, ap length is, length-append line (10 ∷ later), c.loop-line.invariant.few, c.requires.room)
