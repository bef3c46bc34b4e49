use Rattle.std.proofs.Common.{◌≡◌, ◌++◌, map, take}
use Rattle.std.specs.Prelude.{slice_index}
use Rattle.std.specs.List.{flat_map}
use Rattle.held_release.specs.Line.{concept_line}
use Rattle.concept_printer.specs.ConceptText.{name_in_force}
use Rattle.concept_printer.proofs.concept.append_lines.Given as goal

-- the lines of the concepts so far are appended
abbrev pub invariant-loop-concept : goal.invariant-loop-concept
invariant-loop-concept l =
    l.text.items
    ≡ l.initial.text.items
    ++ flat_map (concept_line (name_in_force l.snapshot))
    (map (slice_index l.snapshot.release.concepts) (take l.concept-index l.concepts))
