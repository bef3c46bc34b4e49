use Rattle.std.proofs.Common.{◌≡◌, ◌++◌, map, take}
use Rattle.std.specs.List.{flat_map}
use Rattle.concept_printer.specs.ConceptText.{attribute_line, name_in_force}
use Rattle.concept_printer.specs.inside.GroupKeys.{row_with_key}
use Rattle.concept_printer.proofs.attributes.append_rows.Given as goal

-- the lines of the rows with the keys so far are appended
abbrev pub invariant-loop-key : goal.invariant-loop-key
invariant-loop-key l =
    l.text.items
    ≡ l.initial.text.items
    ++ flat_map (attribute_line (name_in_force l.snapshot))
    (map (row_with_key l.snapshot.release) (take l.key-index l.keys))
