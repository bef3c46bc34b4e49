use Rattle.std.proofs.Common.{List, ℕ, get_or, map, refl, subst, sym}
use Rattle.std.specs.Prelude.{slice_index}
use Rattle.std.specs.List.{flat_map}
use Rattle.held_release.specs.Name.{name_of}
use Rattle.held_release.specs.Line.{concept_line}
use Rattle.answer_printer.specs.AnswerText.{shown_names}
use Rattle.answer_printer.specs.inside.Prefix.{IsPrefixOf}
use Rattle.answer_printer.proofs.AnswerLemmas.{prefix_joined, prefix_more, text_end, text_turn}
use Rattle.answer_printer.proofs.answer.append_lines.Goals as goal

-- the line of one concept more is appended
pub loop-concept-preserved : goal.loop-concept-preserved
loop-concept-preserved c =
    let release = c.args.snapshot.now.release in
    let name = shown_names c.args.names (name_of release c.args.snapshot.now.language) in
    let lines = λ (numbers : List ℕ). flat_map (concept_line name) (map (slice_index release.concepts) numbers) in
    let so_far = c.loop-concept.output.items in
    let place = c.loop-concept.concept-index in
    let kept = c.loop-concept.invariant in
    let line = concept_line name (slice_index release.concepts (get_or c.args.concepts.now place 0)) in
    let added = c.in_ok-append_line.ensures.ok in
    record {
      told = text_turn lines c.args.concepts.now place so_far _ kept.told 0 line _ c.loop-concept-test.true refl added;
      begun = subst (λ (bytes : List ℕ). IsPrefixOf c.args.output.now.items bytes) (sym added)
          (prefix_more c.args.output.now.items so_far line kept.begun);
    }

-- if memory for a line is refused, the output begins with the bytes that it had
pub returns-in_err-append_line-clause-begun : goal.returns-in_err-append_line-clause-begun
returns-in_err-append_line-clause-begun c =
    prefix_joined _ _ _ c.loop-concept.invariant.begun c.append_line.ensures.begun

-- after the last concept all lines are appended
pub returns-clause-ok : goal.returns-clause-ok
returns-clause-ok c =
    let release = c.args.snapshot.now.release in
    let name = shown_names c.args.names (name_of release c.args.snapshot.now.language) in
    let lines = λ (numbers : List ℕ). flat_map (concept_line name) (map (slice_index release.concepts) numbers) in
    text_end lines c.args.concepts.now c.loop-concept.concept-index c.loop-concept.output.items _
    c.loop-concept.invariant.told c.loop-concept-test.false refl
