use Rattle.std.proofs.Common.{◌≡◌, take}
use Rattle.number_lists.specs.Rising.{listed_numbers}
use Rattle.ancestor_index.specs.inside.Gathered.{gathered_by}
use Rattle.ancestor_index.proofs.closure.join_few.Given as goal

-- the room holds what is gathered for the concepts so far, in rising order
abbrev pub invariant-loop-concept : goal.invariant-loop-concept
invariant-loop-concept l =
    l.room.list.items ≡ listed_numbers (l.count) (gathered_by l.places l.lists (take l.concept-index l.concepts))
