-- The rows that a load passes over: those that are in none of the release's lists, counted kind by
-- kind.
use Rattle.std.specs.Prelude.{◌≡◌, ℕ, ◌+◌, ◌==◌, ◌&&◌, Bool, not, List, [], count_by, length, filter, map, None}
use Rattle.rf2_rows.specs.RowTexts.{RowText}
use Rattle.rf2_rows.specs.Rows.{ConcreteText, DescriptionText}
use Rattle.rf2_rows.specs.declared.row.ConceptRow.{ConceptRow}
use Rattle.release_rows.specs.Chosen.{choices, chosen}
use Rattle.snapshot.specs.Load.{contents_of}
use Rattle.release_rows.specs.Files.{text_of_row, Place, RowAt, rows_of}
use Rattle.release_rows.specs.Faults.{first_fault}
use Rattle.number_lists.specs.Members.{has}
use Rattle.row_lists.specs.InForce.{concept_rows, concepts_in_force, concrete_rows, description_rows}
use Rattle.row_lists.specs.InForce.{is_concrete_in_force, is_in_force, is_member_in_force, is_name, member_rows}
use Rattle.row_lists.specs.InForce.{relationship_rows}
use Rattle.row_lists.specs.Metadata.{is_a}
use Rattle.release_rows.specs.declared.limits.Limits.{Limits}

-- how many of `rows` fail `test`
abbrev pub failing : {Row : Type 0} → (Row → Bool) → List Row → ℕ
failing test rows = length (filter (λ row. not (test row)) rows)

-- how many concept rows are inactive
abbrev pub passed_concepts : List RowText → ℕ
passed_concepts rows = failing (λ (row : ConceptRow). row.active) (concept_rows rows)

-- how many description rows are no active fully specified name of a concept in force
abbrev pub passed_descriptions : List ℕ → List RowText → ℕ
passed_descriptions concepts rows =
    failing (λ (row : DescriptionText). is_name row && has concepts row.concept_id)
    (description_rows rows)

-- how many relationship rows are not in force; each row in force is an is-a row or an attribute row
abbrev pub passed_relationships : List ℕ → List RowText → ℕ
passed_relationships concepts rows = failing (is_in_force concepts) (relationship_rows rows)

-- how many rows of concrete values are not in force, or have the type |Is a|
abbrev pub passed_concrete_values : List ℕ → List RowText → ℕ
passed_concrete_values concepts rows =
    failing (λ (row : ConcreteText). is_concrete_in_force concepts row && not (row.type_id == is_a))
    (concrete_rows rows)

-- how many member rows are not in force
abbrev pub passed_members : List ℕ → List RowText → ℕ
passed_members concepts rows = failing (is_member_in_force concepts) (member_rows rows)

-- how many of the chosen rows `rows`, of all kinds, are in none of the lists
abbrev pub passed_texts : List RowText → ℕ
passed_texts rows =
    let concepts = concepts_in_force rows in
    passed_concepts rows + passed_descriptions concepts rows + passed_relationships concepts rows
    + passed_concrete_values concepts rows + passed_members concepts rows

-- how many rows are not chosen, because a later row of the component is, or an equal row before
abbrev pub superseded_rows : List RowAt → ℕ
superseded_rows rows = count_by not (choices rows [] rows)

-- how many of all rows are in none of the lists: those that are not chosen, and the chosen ones
-- that are in no list
abbrev pub passed_rows : List RowAt → ℕ
passed_rows rows = superseded_rows rows + passed_texts (map text_of_row (chosen rows))

-- if places have no fault, the number of rows that the contents report as passed over is the number
-- of rows in none of the lists
abbrev pub CountsPassedRows : Type 0
CountsPassedRows =
    (limits : Limits) (language : List ℕ) (count : ℕ) (places : List Place)
    → first_fault limits [] places ≡ None → (contents_of language count places).passed
    ≡ passed_rows (rows_of places)
