use Rattle.std.proofs.Common.{ℕ, ◌≡◌, ◌++◌, List, drop, map}
use Rattle.std.specs.Prelude.{slice_index}
use Rattle.std.specs.List.{flat_map}
use Rattle.held_release.specs.Name.{name_of}
use Rattle.held_release.specs.Line.{concept_line}
use Rattle.answer_printer.specs.AnswerText.{shown_names}
use Rattle.answer_printer.specs.inside.Prefix.{IsPrefixOf}
use Rattle.answer_printer.proofs.answer.append_lines.Given as goal

-- the lines so far and the remaining lines are all lines, and the output begins with the bytes that it had
abbrev pub invariant-loop-concept : goal.invariant-loop-concept
invariant-loop-concept l =
    let name = shown_names l.names (name_of l.snapshot.release l.snapshot.language) in
    let lines = λ (numbers : List ℕ). flat_map (concept_line name)
    (map (slice_index l.snapshot.release.concepts) numbers) in
    record {
      told : l.output.items ++ lines (drop l.concept-index l.concepts) ≡ l.fn.output.items ++ lines l.concepts;
      begun : IsPrefixOf l.fn.output.items l.output.items;
    }
