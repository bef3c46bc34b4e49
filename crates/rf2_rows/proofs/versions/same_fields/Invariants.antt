use Rattle.std.proofs.Common.{◌≡◌, drop}
use Rattle.rf2_rows.specs.Columns.{columns_of}
use Rattle.rf2_rows.specs.Versions.{same_values}
use Rattle.rf2_rows.proofs.versions.same_fields.Given as goal

-- whether the fields are one row depends on the columns from `place` on alone
abbrev pub invariant-loop-place : goal.invariant-loop-place
invariant-loop-place l =
    same_values (columns_of l.fn.kind) l.ones l.others
    ≡ same_values (drop l.place (columns_of l.fn.kind)) (drop l.place l.ones)
    (drop l.place l.others)
