-- The lists that a load makes of the rows that it has read. A row goes into a list by what the row
-- itself says, whether or not the concepts that it names are in force.
use Rattle.std.specs.Prelude.{ℕ, ◌==◌, ◌&&◌, Bool, not, if◌then◌else◌, List, map, Option, None, Some, option_and_then}
use Rattle.std.specs.List.{filter_map}
use Rattle.release_model.specs.Release.{Attribute, Name}
use Rattle.rf2_rows.specs.RowTexts.{RowText, of_concept, of_concrete, of_description, of_member, of_relationship}
use Rattle.rf2_rows.specs.Rows.{ConcreteText, DescriptionText}
use Rattle.rf2_rows.specs.declared.row.ConceptRow.{ConceptRow}
use Rattle.rf2_rows.specs.declared.row.MemberRow.{MemberRow}
use Rattle.rf2_rows.specs.declared.row.RelationshipRow.{RelationshipRow}
use Rattle.row_lists.specs.InForce.{concept_in, concrete_attribute, description_in, is_name, member_in, name_on}
use Rattle.row_lists.specs.InForce.{relationship_attribute, relationship_in}
use Rattle.row_lists.specs.Metadata.{is_a, inferred_relationship}
use Rattle.row_lists.specs.declared.row_lists.Listing.{Listing}
use Rattle.row_lists.specs.declared.row_lists.Listing.TheVariants as listing

-- the lists that a load makes of rows, each in the order of the rows
pub record ReleaseLists : Type 0 where
  -- for each row, the list that it is in
  pub marks : List Listing
  -- the identifiers of the active concepts
  pub active_concepts : List ℕ
  -- the identifiers of the inactive concepts
  pub inactive_concepts : List ℕ
  -- the active fully specified names
  pub names : List Name
  -- child and parent of the active, inferred is-a rows
  pub isa_ends : List (ℕ × ℕ)
  -- the other active, inferred rows, of relationships and of concrete values
  pub attributes : List Attribute
  -- reference set and component of the active member rows
  pub member_ends : List (ℕ × ℕ)

-- whether the relationship row is an is-a row by its own columns: active, inferred and of type |Is
-- a|
abbrev pub is_isa : RelationshipRow → Bool
is_isa row = row.active && (row.characteristic_type_id == inferred_relationship)
    && (row.type_id == is_a)

-- whether the relationship row is an attribute row by its own columns: active, inferred and not of
-- type |Is a|
abbrev pub is_attribute : RelationshipRow → Bool
is_attribute row = row.active && (row.characteristic_type_id == inferred_relationship)
    && not (row.type_id == is_a)

-- whether the row of a concrete value is an attribute row by its own columns: active, inferred and
-- not of type |Is a|
abbrev pub is_concrete_attribute : ConcreteText → Bool
is_concrete_attribute row = row.active && (row.characteristic_type_id == inferred_relationship)
    && not (row.type_id == is_a)

-- which list a row is in
abbrev pub listing_of : RowText → Listing
listing_of (of_concept row) = if row.active then listing.Concept else listing.Inactive
listing_of (of_description row) = if is_name row then listing.Name else listing.Nowhere
listing_of (of_relationship row) =
    if is_isa row then listing.IsA else if is_attribute row then listing.Attribute
    else listing.Nowhere
listing_of (of_concrete row) =
    if is_concrete_attribute row then listing.Attribute else listing.Nowhere
listing_of (of_member row) = if row.active then listing.Member else listing.Nowhere

-- the identifier of the row's concept, if the row is an active concept row
abbrev pub concept_listed : RowText → Option ℕ
concept_listed row = option_and_then
    (λ (row : ConceptRow). if row.active then Some row.id else None) (concept_in row)

-- the identifier of the row's concept, if the row is an inactive concept row
abbrev pub inactive_listed : RowText → Option ℕ
inactive_listed row =
    option_and_then (λ (row : ConceptRow). if not row.active then Some row.id else None)
    (concept_in row)

-- the row as a name row, if it is an active fully specified name
abbrev pub name_listed : RowText → Option Name
name_listed row = option_and_then
    (λ (row : DescriptionText). if is_name row then Some (name_on row) else None)
    (description_in row)

-- the child and the parent in the row, if it is an active, inferred is-a row
abbrev pub isa_listed : RowText → Option (ℕ × ℕ)
isa_listed row =
    option_and_then (λ (row : RelationshipRow). if is_isa row then Some
    (row.source_id, row.destination_id) else None) (relationship_in row)

-- the attribute that the row gives, if it is an attribute row by its own columns
abbrev pub attribute_listed : RowText → Option Attribute
attribute_listed (of_relationship row) =
    if is_attribute row then Some (relationship_attribute row) else None
attribute_listed (of_concrete row) =
    if is_concrete_attribute row then Some (concrete_attribute row) else None
attribute_listed other = None

-- the reference set and the component in the row, if it is an active member row
abbrev pub member_listed : RowText → Option (ℕ × ℕ)
member_listed row =
    option_and_then (λ (row : MemberRow). if row.active then Some
    (row.refset_id, row.referenced_component_id) else None) (member_in row)

-- the lists that a load makes of `rows`
abbrev pub listed_of : List RowText → ReleaseLists
listed_of rows = record {
  marks = map listing_of rows;
  active_concepts = filter_map concept_listed rows;
  inactive_concepts = filter_map inactive_listed rows;
  names = filter_map name_listed rows;
  isa_ends = filter_map isa_listed rows;
  attributes = filter_map attribute_listed rows;
  member_ends = filter_map member_listed rows;
}
