use Rattle.std.proofs.Common.{◌≡◌, ℕ, ◌+◌, ◌≤◌, ◌++◌, [], false, List, length}
use Rattle.query_run.specs.KeptLine.{IsCutTo, kept_of}
use Rattle.query_run.specs.Lines.{AreWritten, HasNoFeed}
use Rattle.query_run.proofs.running.Progress.take_piece.Given as goal

-- for each line whose front the pending bytes were: this line and the piece, up to `rest`, are cut into lines that
-- were answered
abbrev pub invariant-loop-line : goal.invariant-loop-line
invariant-loop-line g l = record {
  not_failed : g.W.AnswerOutput.has_failed l.output ≡ false;
  waiting : l.self.waiting ≡ [];
  few : l.self.answered + length l.rest ≤ l.fn.self.answered + length l.piece;
  lines : (unended : List ℕ) → HasNoFeed unended → l.fn.self.pending.items ≡ kept_of unended
      → (before : List ℕ) × (lines : List (List ℕ))
      × (unended ++ l.piece ≡ before ++ l.rest)
      × IsCutTo before lines l.self.pending.items
      × (l.self.answered ≡ l.fn.self.answered + length lines)
      × AreWritten (g.A.AnswerLine.answers l.answerer) lines (g.W.AnswerOutput.written l.fn.output)
      (g.W.AnswerOutput.written l.output);
}

-- the rest of the piece gets shorter
abbrev pub decreases-loop-line : goal.decreases-loop-line
decreases-loop-line g l = length l.rest
