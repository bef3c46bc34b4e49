use Rattle.std.proofs.Common.{◌≡◌, map, take}
use Rattle.held_release.specs.RowValues.{texts_of}
use Rattle.held_release.specs.inside.NumberedInside.{row_numbered}
use Rattle.held_release.proofs.texts.lent_texts.Given as goal

-- `texts` has the texts of the rows so far
abbrev pub invariant-loop-row : goal.invariant-loop-row
invariant-loop-row l = map (λ text. text.now) l.texts.items
    ≡ texts_of (map (row_numbered l.concrete) (take l.row-index l.rows))
