use Rattle.std.proofs.Common.{◌≡◌, map, take}
use Rattle.held_release.specs.RowValues.{decimals_of}
use Rattle.held_release.specs.inside.NumberedInside.{row_numbered}
use Rattle.held_release.proofs.values.decimals_among.Given as goal

-- `decimals` has the decimals of the rows so far
abbrev pub invariant-loop-row : goal.invariant-loop-row
invariant-loop-row l = l.decimals.items ≡ decimals_of (map (row_numbered l.concrete) (take l.row-index l.rows))
