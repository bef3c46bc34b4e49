-- A line of a file as a row (Release File Specification, "Concept file", "Description file",
-- "Relationship file", "Relationship concrete values file" and "Simple reference set"): its fields,
-- its first fault, and the row that an accepted line stands for.
use Rattle.std.specs.Prelude.{◌≡◌, ℕ, ◌+◌, ◌==◌, Bool, if◌then◌else◌, List, [], ◌∷◌, length, codes, bytes_eq}
use Rattle.std.specs.Prelude.{slice_index_or, Option, None, Some, option_map, unwrap_or, Result, MatchResult}
use Rattle.std.specs.Option.{option_or}
use Rattle.std.specs.List.{position_or_len}
use Rattle.uuid.specs.Text.{parsed_hyphenated}
use Rattle.rf2_rows.specs.declared.kind.FileKind.{FileKind}
use Rattle.rf2_rows.specs.declared.kind.FileKind.TheVariants.{Concept as ConceptFile, Description as DescriptionFile}
use Rattle.rf2_rows.specs.declared.kind.FileKind.TheVariants.{Relationship as RelationshipFile}
use Rattle.rf2_rows.specs.declared.kind.FileKind.TheVariants.{Concrete as ConcreteFile, Member as MemberFile}
use Rattle.rf2_rows.specs.declared.fault.RowCause.{RowCause}
use Rattle.rf2_rows.specs.declared.fault.RowCause.TheVariants.{Fields}
use Rattle.rf2_rows.specs.declared.fault.RowFault.{RowFault}
use Rattle.rf2_rows.specs.declared.row.ConceptRow.{ConceptRow}
use Rattle.rf2_rows.specs.declared.row.DescriptionRow.{DescriptionRow}
use Rattle.rf2_rows.specs.declared.row.RelationshipRow.{RelationshipRow}
use Rattle.rf2_rows.specs.declared.row.ConcreteRow.{ConcreteRow}
use Rattle.rf2_rows.specs.declared.row.MemberRow.{MemberRow}
use Rattle.rf2_rows.specs.declared.row.Row.{Row}
use Rattle.rf2_rows.specs.declared.row.Row.TheVariants.{Concept, Description, Relationship, Concrete, Member}
use Rattle.rf2_rows.specs.declared.value.Value.{Value as LentValue}
use Rattle.rf2_rows.specs.declared.value.Value.TheVariants.{Concept as LentConcept, Decimal as LentDecimal}
use Rattle.rf2_rows.specs.declared.value.Value.TheVariants.{Other as LentOther}
use Rattle.rf2_rows.specs.Columns.{Column, columns_of, cause_of, tab}
use Rattle.numerals.specs.Numbers.{number_of}
use Rattle.text_parts.specs.Parts.{parts_at}
use Rattle.release_model.specs.Release.{Value, concept_value, number_value, text_value}
use Rattle.rf2_rows.specs.Values.{value_of}

-- the fields of a line: the parts between its tabs
abbrev pub fields_of : List ℕ → List (List ℕ)
fields_of line = parts_at tab line

-- the fault of the column `number`, if there is a cause for which its text is not accepted
abbrev pub column_fault : ℕ → Option RowCause → Option RowFault
column_fault number cause = option_map (λ cause. record { cause = cause; column = number }) cause

-- the first fault of `texts` in `columns`, from left to right, or none; `number` is the number of
-- the first of these columns
abbrev pub first_column_fault : ℕ → List Column → List (List ℕ) → Option RowFault
first_column_fault number (column ∷ columns) (text ∷ texts) =
    option_or (column_fault number (cause_of column.format text))
    (first_column_fault (number + 1) columns texts)
first_column_fault number _ _ = None

-- the first fault of a line's fields: first their number, and then the columns from left to right
abbrev pub fields_fault : FileKind → List (List ℕ) → Option RowFault
fields_fault kind fields =
    if length fields == length (columns_of kind) then first_column_fault 1 (columns_of kind) fields
    else Some (record { cause = Fields; column = 0 })

-- the first fault of a line, or none if the line is a row
unfoldable pub row_fault : FileKind → List ℕ → Option RowFault
row_fault kind line = fields_fault kind (fields_of line)

-- the text of the column that the header of a kind of file calls `name`
abbrev pub text_in : FileKind → List (List ℕ) → List ℕ → List ℕ
text_in kind fields name =
    slice_index_or fields (position_or_len (λ column. bytes_eq column.name name) (columns_of kind))
    []

-- the effective time of a row: the number YYYYMMDD of its digits, or none if the text is empty
abbrev pub time_of : List ℕ → Option ℕ
time_of text = if length text == 0 then None else Some (number_of text)

-- whether a row is active: its text is `1`
abbrev pub active_of : List ℕ → Bool
active_of text = bytes_eq text (codes "1")

-- the row of the Concept file that the fields of a line stand for
abbrev pub concept_of : List (List ℕ) → ConceptRow
concept_of fields =
    let text = text_in ConceptFile fields in
    record {
      id = number_of (text (codes "id"));
      effective_time = time_of (text (codes "effectiveTime"));
      active = active_of (text (codes "active"));
      module_id = number_of (text (codes "moduleId"));
      definition_status_id = number_of (text (codes "definitionStatusId"));
    }

-- a row of the Description file, with its texts as bytes
pub record DescriptionText : Type 0 where
  -- the identifier of the description
  pub id : ℕ
  -- the date YYYYMMDD from which the row counts, none if it is unpublished
  pub effective_time : Option ℕ
  -- whether the description is active
  pub active : Bool
  -- the module that the row belongs to
  pub module_id : ℕ
  -- the concept that is described
  pub concept_id : ℕ
  -- the language code of the term
  pub language_code : List ℕ
  -- the kind of description: fully specified name, synonym or definition
  pub type_id : ℕ
  -- the term in UTF-8
  pub term : List ℕ
  -- which letters of the term may change their case
  pub case_significance_id : ℕ

-- a row of the Description file as the program has it, with its borrowed texts as bytes
abbrev pub description_text : DescriptionRow → DescriptionText
description_text row = record {
  id = row.id;
  effective_time = row.effective_time;
  active = row.active;
  module_id = row.module_id;
  concept_id = row.concept_id;
  language_code = row.language_code.now;
  type_id = row.type_id;
  term = row.term.now;
  case_significance_id = row.case_significance_id;
}

-- the row of the Description file that the fields of a line stand for
abbrev pub description_of : List (List ℕ) → DescriptionText
description_of fields =
    let text = text_in DescriptionFile fields in
    record {
      id = number_of (text (codes "id"));
      effective_time = time_of (text (codes "effectiveTime"));
      active = active_of (text (codes "active"));
      module_id = number_of (text (codes "moduleId"));
      concept_id = number_of (text (codes "conceptId"));
      language_code = text (codes "languageCode");
      type_id = number_of (text (codes "typeId"));
      term = text (codes "term");
      case_significance_id = number_of (text (codes "caseSignificanceId"));
    }

-- the row of the Relationship file that the fields of a line stand for
abbrev pub relationship_of : List (List ℕ) → RelationshipRow
relationship_of fields =
    let text = text_in RelationshipFile fields in
    record {
      id = number_of (text (codes "id"));
      effective_time = time_of (text (codes "effectiveTime"));
      active = active_of (text (codes "active"));
      module_id = number_of (text (codes "moduleId"));
      source_id = number_of (text (codes "sourceId"));
      destination_id = number_of (text (codes "destinationId"));
      relationship_group = number_of (text (codes "relationshipGroup"));
      type_id = number_of (text (codes "typeId"));
      characteristic_type_id = number_of (text (codes "characteristicTypeId"));
      modifier_id = number_of (text (codes "modifierId"));
    }

-- a value as the program has it, with its borrowed text as bytes
abbrev pub value_lent : LentValue → Value
value_lent (LentConcept id) = concept_value id
value_lent (LentDecimal decimal) = number_value decimal.0
value_lent (LentOther text) = text_value text.now

-- a row of the Relationship concrete values file, with its value as in a release
pub record ConcreteText : Type 0 where
  -- the identifier of the relationship
  pub id : ℕ
  -- the date YYYYMMDD from which the row counts, none if it is unpublished
  pub effective_time : Option ℕ
  -- whether the relationship is active
  pub active : Bool
  -- the module that the row belongs to
  pub module_id : ℕ
  -- the concept that has the value
  pub source_id : ℕ
  -- the value: a number or a text
  pub value : Value
  -- the relationship group, 0 for none
  pub relationship_group : ℕ
  -- the attribute
  pub type_id : ℕ
  -- whether the row is inferred, stated or other
  pub characteristic_type_id : ℕ
  -- the modifier of the relationship
  pub modifier_id : ℕ

-- a row of the Relationship concrete values file as the program has it, with its borrowed value as
-- bytes
abbrev pub concrete_text : ConcreteRow → ConcreteText
concrete_text row = record {
  id = row.id;
  effective_time = row.effective_time;
  active = row.active;
  module_id = row.module_id;
  source_id = row.source_id;
  value = value_lent row.value;
  relationship_group = row.relationship_group;
  type_id = row.type_id;
  characteristic_type_id = row.characteristic_type_id;
  modifier_id = row.modifier_id;
}

-- the row of the Relationship concrete values file that the fields of a line stand for
abbrev pub concrete_of : List (List ℕ) → ConcreteText
concrete_of fields =
    let text = text_in ConcreteFile fields in
    record {
      id = number_of (text (codes "id"));
      effective_time = time_of (text (codes "effectiveTime"));
      active = active_of (text (codes "active"));
      module_id = number_of (text (codes "moduleId"));
      source_id = number_of (text (codes "sourceId"));
      value = value_of (text (codes "value"));
      relationship_group = number_of (text (codes "relationshipGroup"));
      type_id = number_of (text (codes "typeId"));
      characteristic_type_id = number_of (text (codes "characteristicTypeId"));
      modifier_id = number_of (text (codes "modifierId"));
    }

-- the 16 bytes of a UUID, by its text
abbrev pub uuid_of : List ℕ → List ℕ
uuid_of text = unwrap_or (parsed_hyphenated text) []

-- the row of a simple reference set file that the fields of a line stand for
abbrev pub member_of : List (List ℕ) → MemberRow
member_of fields =
    let text = text_in MemberFile fields in
    record {
      id = uuid_of (text (codes "id"));
      effective_time = time_of (text (codes "effectiveTime"));
      active = active_of (text (codes "active"));
      module_id = number_of (text (codes "moduleId"));
      refset_id = number_of (text (codes "refsetId"));
      referenced_component_id = number_of (text (codes "referencedComponentId"));
    }

-- the row that an accepted line of a Concept file stands for
unfoldable pub concept_row : List ℕ → ConceptRow
concept_row line = concept_of (fields_of line)

-- the row that an accepted line of a Description file stands for
unfoldable pub description_row : List ℕ → DescriptionText
description_row line = description_of (fields_of line)

-- the row that an accepted line of a Relationship file stands for
unfoldable pub relationship_row : List ℕ → RelationshipRow
relationship_row line = relationship_of (fields_of line)

-- the row that an accepted line of a Relationship concrete values file stands for
unfoldable pub concrete_row : List ℕ → ConcreteText
concrete_row line = concrete_of (fields_of line)

-- the row that an accepted line of a simple reference set file stands for
unfoldable pub member_row : List ℕ → MemberRow
member_row line = member_of (fields_of line)

-- `result` is what a function that reads returns: `value` if `fault` is none, and otherwise the
-- fault
abbrev pub IsReading : {T : Type 0} → Option RowFault → T → Result T RowFault → Type 0
IsReading fault value result =
    MatchResult result (λ found. (fault ≡ None) × (found ≡ value)) (λ found. fault ≡ Some found)

-- `result` is what a function that reads borrowed data returns: something whose `view` is `value`
-- if `fault` is none, and otherwise the fault
abbrev pub IsReadingLent : {Lent T : Type 0} → (Lent → T) → Option RowFault → T
    → Result Lent RowFault → Type 0
IsReadingLent view fault value result =
    MatchResult result (λ found. (fault ≡ None) × (view found ≡ value))
    (λ found. fault ≡ Some found)

-- the row is the one that a line of a kind of file stands for
abbrev pub IsRow : FileKind → List ℕ → Row → Type 0
IsRow ConceptFile line (Concept row) = row ≡ concept_row line
IsRow DescriptionFile line (Description row) = description_text row ≡ description_row line
IsRow RelationshipFile line (Relationship row) = row ≡ relationship_row line
IsRow ConcreteFile line (Concrete row) = concrete_text row ≡ concrete_row line
IsRow MemberFile line (Member row) = row ≡ member_row line
IsRow _ line _ = ⊥
