use Rattle.std.proofs.Common.{◌≡◌, take}
use Rattle.release_rows.specs.inside.Repeated.{equal_neighbours}
use Rattle.release_rows.proofs.repeated.equal_neighbours.Given as goal

-- the list has the equal neighbours of the first `place` numbers
abbrev pub invariant-loop-place : goal.invariant-loop-place
invariant-loop-place l = l.repeated.items ≡ equal_neighbours (take l.place l.sorted)
