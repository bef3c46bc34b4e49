-- The output line of a concept.
use Rattle.std.specs.Prelude.{ℕ, ◌++◌, List, [], ◌∷◌, codes, decimal, Option, None, Some}

-- a name between bars after a space, if there is one (Expression Constraint Language, "Concept
-- references": a term after its concept)
abbrev pub name_text : Option (List ℕ) → List ℕ
name_text None = []
name_text (Some name) = codes " |" ++ name ++ codes "|"

-- the line of a concept: its identifier, its name if it has one, and LF
abbrev pub concept_line : (ℕ → Option (List ℕ)) → ℕ → List ℕ
concept_line name concept = (decimal concept ++ name_text (name concept)) ++ 10 ∷ []
