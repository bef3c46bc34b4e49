-- Each concept's place is that of the row that comes first among the rows from `place` on.
use Rattle.std.proofs.Common.{drop}
use Rattle.held_release.specs.inside.FirstRows.{AreFirstPlaces}
use Rattle.held_release.proofs.naming.first_places.Given as goal

abbrev pub invariant-loop-place : goal.invariant-loop-place
invariant-loop-place l = AreFirstPlaces l.language l.concepts l.names (drop l.place l.names) l.places.items
