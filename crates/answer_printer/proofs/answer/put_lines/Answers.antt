use Rattle.std.proofs.Common.{◌≡◌, ◌+◌, ◌++◌, ◌∙◌, List, ℕ, ap, append_assoc, drop, get_or, map, refl, subst, sym}
use Rattle.std.specs.Prelude.{slice_index}
use Rattle.std.specs.List.{flat_map}
use Rattle.std.proofs.lemmas.List.{at_drop_more}
use Rattle.streams.specs.Waiting.{Puts, WritesFront}
use Rattle.streams.proofs.WaitingLemmas.{Puts-cut-more, Puts-then}
use Rattle.held_release.specs.Name.{name_of}
use Rattle.held_release.specs.Line.{concept_line}
use Rattle.answer_printer.specs.AnswerText.{shown_names}
use Rattle.answer_printer.proofs.AnswerLemmas.{text_end}
use Rattle.answer_printer.proofs.answer.put_lines.Goals as goal

-- the lines so far, the line at hand and the remaining lines are all lines
joined : (done line rest left all : List ℕ) → left ≡ line ++ rest → done ++ left ≡ all → (done ++ line) ++ rest ≡ all
joined done line rest left all next whole = append_assoc done line rest
    ∙ ap (λ (text : List ℕ). done ++ text) (sym next) ∙ whole

-- the line of one concept more is put
pub loop-concept-preserved : goal.loop-concept-preserved
loop-concept-preserved g c =
    let (done, put, whole) = c.loop-concept.invariant.put in
    let release = c.args.snapshot.now.release in
    let name = shown_names c.args.names (name_of release c.args.snapshot.now.language) in
    let lines = λ (numbers : List ℕ). flat_map (concept_line name) (map (slice_index release.concepts) numbers) in
    let place = c.loop-concept.concept-index in
    let line = concept_line name (slice_index release.concepts (get_or c.args.concepts.now place 0)) in
    let left = lines (drop place c.args.concepts.now) in
    let rest = lines (drop (place + 1) c.args.concepts.now) in
    let next : left ≡ line ++ rest = at_drop_more lines c.args.concepts.now place 0 c.loop-concept-test.true in
    record {
      not_failed = c.in-Ok.ensures.failure;
      put = (
        done ++ line,
        Puts-then _ _ _ c.args.buffer.now done c.loop-concept.buffer put line c.put_line.new.buffer c.in-Ok.ensures.ok,
        joined done line rest left (lines c.args.concepts.now) next whole,
      );
    }

-- if the output fails at the line at hand, a front of all lines was written
pub returns-in-Err-clause-err : goal.returns-in-Err-clause-err
returns-in-Err-clause-err g c =
    let (done, put, whole) = c.loop-concept.invariant.put in
    let release = c.args.snapshot.now.release in
    let name = shown_names c.args.names (name_of release c.args.snapshot.now.language) in
    let lines = λ (numbers : List ℕ). flat_map (concept_line name) (map (slice_index release.concepts) numbers) in
    let place = c.loop-concept.concept-index in
    let line = concept_line name (slice_index release.concepts (get_or c.args.concepts.now place 0)) in
    let left = lines (drop place c.args.concepts.now) in
    let rest = lines (drop (place + 1) c.args.concepts.now) in
    let next : left ≡ line ++ rest = at_drop_more lines c.args.concepts.now place 0 c.loop-concept-test.true in
    subst (λ (text : List ℕ). WritesFront (g.W.AnswerOutput.written c.args.output.now)
    (g.W.AnswerOutput.written c.put_line.new.output) (c.args.buffer.now ++ text))
    (joined done line rest left (lines c.args.concepts.now) next whole)
    (Puts-cut-more _ _ _ c.args.buffer.now done c.loop-concept.buffer put line rest c.in-Err.ensures.err)

-- after the last concept all lines are put
pub returns-clause-ok : goal.returns-clause-ok
returns-clause-ok g c =
    let (done, put, whole) = c.loop-concept.invariant.put in
    let release = c.args.snapshot.now.release in
    let name = shown_names c.args.names (name_of release c.args.snapshot.now.language) in
    let lines = λ (numbers : List ℕ). flat_map (concept_line name) (map (slice_index release.concepts) numbers) in
    subst (λ (text : List ℕ). Puts (g.W.AnswerOutput.written c.args.output.now)
    (g.W.AnswerOutput.written c.loop-concept.output) c.args.buffer.now text c.loop-concept.buffer)
    (text_end lines c.args.concepts.now c.loop-concept.concept-index done _ whole c.loop-concept-test.false refl) put
