-- The rows in force among those so far are numbered.
use Rattle.std.proofs.Common.{◌≡◌, filter_map, take}
use Rattle.held_release.specs.inside.NumberedInside.{numbered_of}
use Rattle.held_release.proofs.numbered_attributes.number_attributes.Given as goal

abbrev pub invariant-loop-row : goal.invariant-loop-row
invariant-loop-row l = l.numbered.items ≡ filter_map (numbered_of l.concepts) (take l.row-index l.rows)
