use Rattle.std.proofs.Common.{ℕ, ◌≡◌, ◌++◌, List, drop, false, map}
use Rattle.std.specs.Prelude.{slice_index}
use Rattle.std.specs.List.{flat_map}
use Rattle.streams.specs.Waiting.{Puts}
use Rattle.held_release.specs.Name.{name_of}
use Rattle.held_release.specs.Line.{concept_line}
use Rattle.answer_printer.specs.AnswerText.{shown_names}
use Rattle.answer_printer.proofs.answer.put_lines.Given as goal

-- the lines so far are put, and with the remaining lines they are all lines
abbrev pub invariant-loop-concept : goal.invariant-loop-concept
invariant-loop-concept g l =
    let name = shown_names l.names (name_of l.snapshot.release l.snapshot.language) in
    let lines = λ (numbers : List ℕ). flat_map (concept_line name)
    (map (slice_index l.snapshot.release.concepts) numbers) in
    record {
      not_failed : g.W.AnswerOutput.has_failed l.output ≡ false;
      put : (done : List ℕ)
          × Puts (g.W.AnswerOutput.written l.fn.output) (g.W.AnswerOutput.written l.output) l.fn.buffer done l.buffer
          × (done ++ lines (drop l.concept-index l.concepts) ≡ lines l.concepts);
    }
