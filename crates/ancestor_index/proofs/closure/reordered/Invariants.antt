use Rattle.std.proofs.Common.{◌≡◌, map, take}
use Rattle.number_lists.specs.KeyedLists.{list_of}
use Rattle.ancestor_index.proofs.closure.reordered.Given as goal

-- the lists of the places so far are found
abbrev pub invariant-loop-place : goal.invariant-loop-place
invariant-loop-place l = l.found ≡ map (λ place. list_of l.lists place) (take l.place-index l.places)
