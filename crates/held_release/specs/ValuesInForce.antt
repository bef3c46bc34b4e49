-- Attributes whose values are in force if they are concepts (Release File Specification,
-- "Relationship file", destinationId).
use Rattle.std.specs.Prelude.{◌≡◌, ℕ, Bool, true, List, All}
use Rattle.release_model.specs.Release.{Attribute, Release, Value, concept_value, number_value, text_value}
use Rattle.number_lists.specs.Members.{has}

-- whether a value is one of `concepts`, or no concept
abbrev pub is_value_among : List ℕ → Value → Bool
is_value_among concepts (concept_value concept) = has concepts concept
is_value_among concepts (number_value number) = true
is_value_among concepts (text_value text) = true

-- in the release, each value of an attribute that is a concept is in force
abbrev pub AreValuesInForce : Release → Type 0
AreValuesInForce release =
    All (λ (row : Attribute). is_value_among release.concepts row.value ≡ true) release.attributes
