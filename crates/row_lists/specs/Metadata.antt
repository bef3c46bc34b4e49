-- The metadata concepts of SNOMED CT by which a load decides which rows it uses (Release File
-- Specification, "Relationship file" and "Description file"). Their identifiers are written here
-- and not taken from the code.
use Rattle.std.specs.Prelude.{ℕ}

-- |Is a|, the type of the relationships that form the hierarchy
abbrev pub is_a : ℕ
is_a = 116680003

-- |Inferred relationship|, the characteristic type of the relationships in the inferred view
abbrev pub inferred_relationship : ℕ
inferred_relationship = 900000000000011006

-- |Fully specified name|, the type of the descriptions that name concepts
abbrev pub fully_specified_name : ℕ
fully_specified_name = 900000000000003001
