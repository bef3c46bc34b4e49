-- The pairs of the keys so far.
use Rattle.std.proofs.Common.{◌≡◌, take}
use Rattle.postings.specs.inside.KeyedPlaces.{keyed_places}
use Rattle.postings.proofs.lists.key_places.Given as goal

-- `pairs` has the keys so far that are below the count, with their places
abbrev pub invariant-loop-place : goal.invariant-loop-place
invariant-loop-place l = l.pairs.items ≡ keyed_places l.count 0 (take l.place l.keys)
