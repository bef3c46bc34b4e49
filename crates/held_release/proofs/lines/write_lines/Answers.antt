use Rattle.std.proofs.Common.{◌∙◌, None, ap, get_or, map, string_bytes, option_and_then, option_map, slice_get, arith}
use Rattle.std.proofs.lemmas.List.{take_all}
use Rattle.release_model.specs.Release.{Name}
use Rattle.held_release.specs.Line.{concept_line}
use Rattle.held_release.specs.Name.{name_among}
use Rattle.held_release.proofs.LineLemmas.{line-pushed, lines-more, starts-pushed}
use Rattle.held_release.proofs.lines.write_lines.Goals as goal

-- with the line of one concept more, the starts, lines and noted spans are those of `number + 1` concepts
pub loop-number-preserved : goal.loop-number-preserved
loop-number-preserved c =
    let texts = string_bytes c.loop-number.texts in
    let texts_after = string_bytes c.write_line.new.texts in
    let name = option_map (λ (row : Name). row.term)
    (option_and_then (slice_get c.args.names.now) (get_or c.args.places.now c.loop-number.number None)) in
    let line = concept_line (λ _. name) c.index-concepts-number.result in
    let pushed = line-pushed c.loop-number.starts.items c.push-in-loop-number.new.self.items texts texts_after line
    c.len.result c.in_ok-write_line.ensures.line
    (omega (arith, c.len.ensures, c.write_line.new.texts.bytes.ok.0)) c.in_ok-push-2.ensures.items
    c.loop-number.invariant.starts in record {
      starts = starts-pushed c.loop-number.starts.items c.push-in-loop-number.new.self.items texts texts_after line
          c.len.result c.in_ok-write_line.ensures.line
          (omega (arith, c.len.ensures, c.write_line.new.texts.bytes.ok.0)) c.in_ok-push-2.ensures.items
          c.loop-number.invariant.starts;
      lines = λ language are. grind (
        arith,
        pushed,
        (c.loop-number.invariant.lines language are),
        (lines-more language c.args.concepts.now c.args.names.now c.args.places.now c.loop-number.number
            c.index-concepts-number.result name are c.loop-number-test.true c.index-concepts-number.is (λ i. name)),
      );
      noted = c.in_ok-write_line.ensures.noted;
    }

-- the lines are those of all concepts
pub returns-clause-lines : goal.returns-clause-lines
returns-clause-lines c = λ language are.
    c.loop-number.invariant.lines language are
    ∙ ap (map (concept_line (name_among language c.args.names.now)))
    (take_all c.loop-number.number c.args.concepts.now c.loop-number-test.false)
