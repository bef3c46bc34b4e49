use Rattle.std.proofs.Common.{ℕ, ◌≡◌, ◌<◌, List, length, take, Result, Ok, Err, OnOk, sym, ◌∙◌, subst}
use Rattle.std.specs.Prelude.{OnErr, is_err}
use Rattle.std.specs.Io.KnownBytes.{Appends}
use Rattle.std.proofs.Math.Seq.{take-length}
use Rattle.std.proofs.lemmas.Bool.{false≢true}
use Rattle.query_service.specs.Streams.{IsTold}
use Rattle.streams.specs.declared.output.AnswerOutput.{Ghosts}
use Rattle.query_service.proofs.service.tell.Goals as goal

-- a write of a line appends all of it, or if it fails, a front of it
told : {T F E : Type 0} (e : Ghosts E) (result : Result T F) (before after : E) (line : List ℕ)
    → OnOk result (Appends (e.written before) (e.written after) line)
    → OnErr result ((place : ℕ) × (place < length line)
    × Appends (e.written before) (e.written after) (take place line))
    → e.has_failed after ≡ is_err result → IsTold e before after line
told e (Ok done) before after line ok err is = record {
  whole = λ not_failed. ok;
  front = (
    length line,
    subst (λ (text : List ℕ). Appends (e.written before) (e.written after) text)
        (sym (take-length line)) ok,
  );
}
told e (Err fault) before after line ok err is = record {
  whole = λ not_failed. absurd (false≢true (sym not_failed ∙ is));
  front = (err.0, err.2);
}

-- the line was written, or a front of it if the write failed
pub returns : goal.returns
returns g c = told g.E.AnswerOutput c.write_all.result _ _ c.args.line.now c.write_all.ensures.ok
    c.write_all.ensures.err c.write_all.ensures.failure
