-- The number of a concept is an index into the list of concepts.
use Rattle.std.proofs.Common.{ℕ, ◌≡◌, ◌<◌, List, Some, length}
use Rattle.std.proofs.lemmas.List.Quantifiers.{position-Some}
use Rattle.constraint_tree.specs.declared.operator.Operator.{Operator}
use Rattle.held_release.specs.Numbering.{concept_number}

-- the number of a concept, its index in the list of concepts, is below the length of the list
pub number_below : (concepts : List ℕ) (id number : ℕ) → concept_number concepts id ≡ Some number
    → number < length concepts
number_below concepts id number is = (position-Some _ concepts number 0 is).0
