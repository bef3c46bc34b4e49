use Rattle.std.proofs.Common.{◌≡◌, map, take}
use Rattle.concept_printer.specs.inside.GroupKeys.{group_key}
use Rattle.concept_printer.proofs.attributes.group_keys.Given as goal

-- the keys of the rows so far are found
abbrev pub invariant-loop-row : goal.invariant-loop-row
invariant-loop-row l = l.keys.items ≡ map (group_key l.snapshot.release) (take l.row-index l.rows)
