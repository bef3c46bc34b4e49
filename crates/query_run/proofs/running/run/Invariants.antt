use Rattle.std.proofs.Common.{◌≡◌, ◌⊎◌, ℕ, ◌+◌, ◌-◌, ◌*◌, ◌^◌, ◌≤◌, [], false, List, length}
use Rattle.std.specs.Io.KnownBytes.{Consumes}
use Rattle.query_run.specs.KeptLine.{IsCutTo}
use Rattle.query_run.specs.Lines.{AreWritten}
use Rattle.query_run.proofs.running.run.Given as goal

-- the bytes read are cut into answered lines and an unended line, whose kept front is the pending bytes
abbrev pub invariant-loop-turn : goal.invariant-loop-turn
invariant-loop-turn g l = record {
  input_not_failed : g.R.QueryInput.has_failed l.input ≡ false;
  output_not_failed : g.W.AnswerOutput.has_failed l.output ≡ false;
  turns : (g.R.QueryInput.read_count l.input ≡ g.R.QueryInput.read_count l.fn.input + l._turn)
      ⊎ (g.R.QueryInput.read_count l.input ≡ 2 ^ 64 - 1);
  reads : g.R.QueryInput.read_count l.input ≤ g.R.QueryInput.read_count l.fn.input + l._turn;
  room : length l.piece ≡ 65536;
  waiting : l.progress.waiting ≡ [];
  few : l.progress.answered ≤ l._turn * 65536;
  lines : (read : List ℕ) × (lines : List (List ℕ))
      × Consumes (g.R.QueryInput.remaining l.fn.input) (g.R.QueryInput.remaining l.input) read
      × IsCutTo read lines l.progress.pending.items
      × (l.progress.answered ≡ length lines)
      × AreWritten (g.A.AnswerLine.answers l.answerer) lines (g.W.AnswerOutput.written l.fn.output)
      (g.W.AnswerOutput.written l.output);
}
