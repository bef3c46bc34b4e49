use Rattle.std.proofs.Common.{take}
use Rattle.pair_sets.specs.inside.Hits.{ArePlacesOf}
use Rattle.pair_sets.proofs.types.places_of_concepts.Given as goal

-- `places` are those of the types among the concepts so far
abbrev pub invariant-loop-concept : goal.invariant-loop-concept
invariant-loop-concept l = ArePlacesOf l.reader.indexes.now (take l.concept-index l.concepts) l.places.items
