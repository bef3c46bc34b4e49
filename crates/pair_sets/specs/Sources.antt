-- The concepts from which attributes lead to concepts.
use Rattle.std.specs.Prelude.{ℕ, ◌&&◌, Bool, true, false}
use Rattle.std.specs.List.{list_any}
use Rattle.release_model.specs.Pairs.{rows_of}
use Rattle.release_model.specs.Release.{Release, Value, concept_value}

-- whether a value is a concept
abbrev pub is_concept : Value → Bool
is_concept (concept_value concept) = true
is_concept other = false

-- whether a concept has an attribute row whose type is in `types` and whose value is a concept
abbrev pub is_source : Release → (ℕ → Bool) → ℕ → Bool
is_source release types concept =
    list_any (λ row. types row.type_id && is_concept row.value) (rows_of release concept)
