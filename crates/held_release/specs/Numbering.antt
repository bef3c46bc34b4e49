-- The numbers of concepts: their indexes, from 0, in the rising list of the concepts in force.
use Rattle.std.specs.Prelude.{ℕ, ◌==◌, List, position, slice_index, Option, None, Some}

-- the number of the concept with the identifier `id`, if it is among `concepts`
abbrev pub concept_number : List ℕ → ℕ → Option ℕ
concept_number concepts id = position (λ other. id == other) concepts

-- the pair of two numbers, if there are both
abbrev pub both : Option ℕ → Option ℕ → Option (ℕ × ℕ)
both (Some child) (Some parent) = Some (child, parent)
both child parent = None

-- the pair `row` of identifiers as numbers, if both concepts are among `concepts`
abbrev pub numbered_row : List ℕ → ℕ × ℕ → Option (ℕ × ℕ)
numbered_row concepts row = both (concept_number concepts row.0) (concept_number concepts row.1)

-- the pair `row` of numbers as identifiers
abbrev pub row_of_numbers : List ℕ → ℕ × ℕ → ℕ × ℕ
row_of_numbers concepts row = (slice_index concepts row.0, slice_index concepts row.1)
