-- The rows of a release that are in force (Release File Specification, "Concept file", "Description
-- file", "Relationship file", "Relationship concrete values file" and "Simple reference set"; the
-- inferred view).
use Rattle.std.specs.Prelude.{ℕ, ◌+◌, ◌==◌, ◌&&◌, Bool, not, if◌then◌else◌, List, length, map, filter, Option, None}
use Rattle.std.specs.Prelude.{Some}
use Rattle.std.specs.List.{filter_map}
use Rattle.number_lists.specs.Members.{has}
use Rattle.number_lists.specs.RisingOrder.{rising}
use Rattle.rf2_rows.specs.RowTexts.{RowText, of_concept, of_concrete, of_description, of_member, of_relationship}
use Rattle.rf2_rows.specs.Rows.{ConcreteText, DescriptionText}
use Rattle.release_model.specs.Release.{Attribute, Name, Release, concept_value}
use Rattle.rf2_rows.specs.declared.row.ConceptRow.{ConceptRow}
use Rattle.rf2_rows.specs.declared.row.MemberRow.{MemberRow}
use Rattle.rf2_rows.specs.declared.row.RelationshipRow.{RelationshipRow}
use Rattle.row_lists.specs.Metadata.{fully_specified_name, inferred_relationship, is_a}

-- the row as a concept row, if it is one
abbrev pub concept_in : RowText → Option ConceptRow
concept_in (of_concept row) = Some row
concept_in other = None

-- the row as a description row, if it is one
abbrev pub description_in : RowText → Option DescriptionText
description_in (of_description row) = Some row
description_in other = None

-- the row as a row of a relationship between concepts, if it is one
abbrev pub relationship_in : RowText → Option RelationshipRow
relationship_in (of_relationship row) = Some row
relationship_in other = None

-- the row as a row of a concrete value, if it is one
abbrev pub concrete_in : RowText → Option ConcreteText
concrete_in (of_concrete row) = Some row
concrete_in other = None

-- the row as a member row, if it is one
abbrev pub member_in : RowText → Option MemberRow
member_in (of_member row) = Some row
member_in other = None

-- all concept rows among `rows`, in force or not
abbrev pub concept_rows : List RowText → List ConceptRow
concept_rows rows = filter_map concept_in rows

-- all description rows among `rows`, in force or not
abbrev pub description_rows : List RowText → List DescriptionText
description_rows rows = filter_map description_in rows

-- all rows of relationships between concepts among `rows`, in force or not
abbrev pub relationship_rows : List RowText → List RelationshipRow
relationship_rows rows = filter_map relationship_in rows

-- all rows of concrete values among `rows`, in force or not
abbrev pub concrete_rows : List RowText → List ConcreteText
concrete_rows rows = filter_map concrete_in rows

-- all member rows among `rows`, in force or not
abbrev pub member_rows : List RowText → List MemberRow
member_rows rows = filter_map member_in rows

-- those pairs of `rows` whose two concepts both are among `concepts`
abbrev pub rows_among : List ℕ → List (ℕ × ℕ) → List (ℕ × ℕ)
rows_among concepts rows = filter (λ (row : ℕ × ℕ). has concepts row.0 && has concepts row.1) rows

-- the identifiers of the active concept rows, rising and once each: a concept row is in force if it
-- is active
abbrev pub concepts_in_force : List RowText → List ℕ
concepts_in_force rows =
    rising (map (λ (row : ConceptRow). row.id)
    (filter (λ (row : ConceptRow). row.active) (concept_rows rows)))

-- the identifiers of the inactive concept rows, rising and once each. A concept row with active = 0
-- says that the concept is inactive from the row's effective time on (Release File Specification,
-- "Concept file", active).
abbrev pub inactive_concepts : List RowText → List ℕ
inactive_concepts rows =
    rising (map (λ (row : ConceptRow). row.id)
    (filter (λ (row : ConceptRow). not row.active) (concept_rows rows)))

-- a relationship row is in force if it is active and inferred and both its ends are concepts in
-- force
abbrev pub is_in_force : List ℕ → RelationshipRow → Bool
is_in_force concepts row =
    row.active && (row.characteristic_type_id == inferred_relationship)
    && has concepts row.source_id && has concepts row.destination_id

-- source and destination of the is-a rows: the rows in force whose type is |Is a|
abbrev pub isa_in_force : List ℕ → List RowText → List (ℕ × ℕ)
isa_in_force concepts rows =
    map (λ (row : RelationshipRow). (row.source_id, row.destination_id))
    (filter (λ (row : RelationshipRow). is_in_force concepts row && (row.type_id == is_a))
    (relationship_rows rows))

-- a row of a concrete value is in force if it is active and inferred and its source is a concept in
-- force
abbrev pub is_concrete_in_force : List ℕ → ConcreteText → Bool
is_concrete_in_force concepts row =
    row.active && (row.characteristic_type_id == inferred_relationship)
    && has concepts row.source_id

-- the attribute that a relationship row gives: source, type, relationship group number, and the
-- destination as the value
abbrev pub relationship_attribute : RelationshipRow → Attribute
relationship_attribute row = record {
  source = row.source_id;
  type_id = row.type_id;
  group = row.relationship_group;
  value = concept_value row.destination_id;
}

-- the attribute that a row of a concrete value gives: source, type, relationship group number and
-- value
abbrev pub concrete_attribute : ConcreteText → Attribute
concrete_attribute row = record {
  source = row.source_id;
  type_id = row.type_id;
  group = row.relationship_group;
  value = row.value;
}

-- the attribute of a relationship row, if the row is in force and its type is not |Is a|
abbrev pub attribute_of_relationship : List ℕ → RelationshipRow → Option Attribute
attribute_of_relationship concepts row =
    if is_in_force concepts row && not (row.type_id == is_a) then Some (relationship_attribute row)
    else None

-- the attribute of a row of a concrete value, if the row is in force and its type is not |Is a|
abbrev pub attribute_of_concrete : List ℕ → ConcreteText → Option Attribute
attribute_of_concrete concepts row =
    if is_concrete_in_force concepts row
    && not (row.type_id == is_a) then Some (concrete_attribute row) else None

-- the attribute of a row of a relationship or of a concrete value, if the row is in force and its
-- type is not |Is a|
abbrev pub attribute_in : List ℕ → RowText → Option Attribute
attribute_in concepts (of_relationship row) = attribute_of_relationship concepts row
attribute_in concepts (of_concrete row) = attribute_of_concrete concepts row
attribute_in concepts other = None

-- the attributes of the rows in force, in the order of the rows
abbrev pub attributes_in_force : List ℕ → List RowText → List Attribute
attributes_in_force concepts rows = filter_map (attribute_in concepts) rows

-- a member row is in force if it is active and both its reference set and its component are
-- concepts in force
abbrev pub is_member_in_force : List ℕ → MemberRow → Bool
is_member_in_force concepts row =
    row.active && has concepts row.refset_id && has concepts row.referenced_component_id

-- reference set and component of the member rows in force
abbrev pub members_in_force : List ℕ → List RowText → List (ℕ × ℕ)
members_in_force concepts rows =
    map (λ (row : MemberRow). (row.refset_id, row.referenced_component_id))
    (filter (λ (row : MemberRow). is_member_in_force concepts row) (member_rows rows))

-- the description row as a name row
abbrev pub name_on : DescriptionText → Name
name_on row = record {
  id = row.id;
  concept = row.concept_id;
  language = row.language_code;
  term = row.term;
}

-- a description row is a name row if it is active and a fully specified name
abbrev pub is_name : DescriptionText → Bool
is_name row = row.active && (row.type_id == fully_specified_name)

-- the name rows in force: those whose concept is in force
abbrev pub names_in_force : List ℕ → List RowText → List Name
names_in_force concepts rows =
    map name_on (filter (λ (row : DescriptionText). is_name row && has concepts row.concept_id)
    (description_rows rows))

-- the release that the chosen rows `rows` make: what is in force of each kind
abbrev pub release_of : List RowText → Release
release_of rows =
    let concepts = concepts_in_force rows in
    record {
      concepts = concepts;
      isa = isa_in_force concepts rows;
      attributes = attributes_in_force concepts rows;
      members = members_in_force concepts rows;
      names = names_in_force concepts rows;
    }

-- the number of items in all lists of a release together
abbrev pub listed_count : Release → ℕ
listed_count release =
    length release.concepts + length release.isa + length release.attributes
    + length release.members + length release.names
