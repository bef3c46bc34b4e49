-- The columns of each kind of file, and what their texts may be (Release File Specification,
-- "Concept file", "Description file", "Relationship file", "Relationship concrete values file" and
-- "Simple reference set").
use Rattle.std.specs.Prelude.{ℕ, Bool, true, false, ◌||◌, ◌==◌, if◌then◌else◌, List, [], ◌∷◌, map, length, codes}
use Rattle.std.specs.Prelude.{bytes_eq, Option, None, Some, option_map}
use Rattle.std.specs.Option.{option_or, is_some}
use Rattle.std.specs.List.{join_with_byte}
use Rattle.std.specs.Str.{is_utf8}
use Rattle.uuid.specs.Text.{parsed_hyphenated}
use Rattle.sctid.specs.Identifier.{fault_of, part_of}
use Rattle.sctid.specs.declared.IdFault.{IdFault}
use Rattle.sctid.specs.declared.IdFault.TheVariants.{Partition}
use Rattle.sctid.specs.declared.Part.{Part}
use Rattle.sctid.specs.declared.Part.TheVariants.{Concept, Description, Relationship}
use Rattle.rf2_rows.specs.declared.kind.FileKind.{FileKind}
use Rattle.rf2_rows.specs.declared.kind.FileKind.TheVariants.{Concept as ConceptFile, Description as DescriptionFile}
use Rattle.rf2_rows.specs.declared.kind.FileKind.TheVariants.{Relationship as RelationshipFile}
use Rattle.rf2_rows.specs.declared.kind.FileKind.TheVariants.{Concrete as ConcreteFile, Member as MemberFile}
use Rattle.rf2_rows.specs.declared.fault.RowCause.{RowCause}
use Rattle.rf2_rows.specs.declared.fault.RowCause.TheVariants.{Fields, Id, Time, Active, Group, Value, Utf8, Uuid}
use Rattle.numerals.specs.Numbers.{is_number}
use Rattle.rf2_rows.specs.Values.{value_cause}

-- the format of a column: what its texts may be
pub data Format : Type 0 where
  -- the identifier of a component of the kind
  id_format : Part → Format
  -- the identifier of a component of any kind
  component_format : Format
  -- a UUID: 36 characters, hexadecimal digits in groups of 8, 4, 4, 4 and 12 with hyphens between
  uuid_format : Format
  -- a date of eight digits, YYYYMMDD, or no byte if the row is not published yet
  time_format : Format
  -- 0 or 1
  active_format : Format
  -- the number of a group, of 1 to 9 digits
  group_format : Format
  -- a text in UTF-8
  text_format : Format
  -- a number after `#`, or another text in UTF-8
  value_format : Format

-- a column: its name in the header, and the format of its texts
pub record Column : Type 0 where
  -- the name of the column in the header
  pub name : List ℕ
  -- the format of the column's texts
  pub format : Format

-- makes a column of a name and a format
abbrev pub column : List ℕ → Format → Column
column name format = record { name = name; format = format }

-- the columns of a kind of file, from left to right
abbrev pub columns_of : FileKind → List Column
columns_of ConceptFile =
    column (codes "id") (id_format Concept)
    ∷ column (codes "effectiveTime") time_format
    ∷ column (codes "active") active_format
    ∷ column (codes "moduleId") (id_format Concept)
    ∷ column (codes "definitionStatusId") (id_format Concept)
    ∷ []
columns_of DescriptionFile =
    column (codes "id") (id_format Description)
    ∷ column (codes "effectiveTime") time_format
    ∷ column (codes "active") active_format
    ∷ column (codes "moduleId") (id_format Concept)
    ∷ column (codes "conceptId") (id_format Concept)
    ∷ column (codes "languageCode") text_format
    ∷ column (codes "typeId") (id_format Concept)
    ∷ column (codes "term") text_format
    ∷ column (codes "caseSignificanceId") (id_format Concept)
    ∷ []
columns_of RelationshipFile =
    column (codes "id") (id_format Relationship)
    ∷ column (codes "effectiveTime") time_format
    ∷ column (codes "active") active_format
    ∷ column (codes "moduleId") (id_format Concept)
    ∷ column (codes "sourceId") (id_format Concept)
    ∷ column (codes "destinationId") (id_format Concept)
    ∷ column (codes "relationshipGroup") group_format
    ∷ column (codes "typeId") (id_format Concept)
    ∷ column (codes "characteristicTypeId") (id_format Concept)
    ∷ column (codes "modifierId") (id_format Concept)
    ∷ []
columns_of ConcreteFile =
    column (codes "id") (id_format Relationship)
    ∷ column (codes "effectiveTime") time_format
    ∷ column (codes "active") active_format
    ∷ column (codes "moduleId") (id_format Concept)
    ∷ column (codes "sourceId") (id_format Concept)
    ∷ column (codes "value") value_format
    ∷ column (codes "relationshipGroup") group_format
    ∷ column (codes "typeId") (id_format Concept)
    ∷ column (codes "characteristicTypeId") (id_format Concept)
    ∷ column (codes "modifierId") (id_format Concept)
    ∷ []
columns_of MemberFile =
    column (codes "id") uuid_format
    ∷ column (codes "effectiveTime") time_format
    ∷ column (codes "active") active_format
    ∷ column (codes "moduleId") (id_format Concept)
    ∷ column (codes "refsetId") (id_format Concept)
    ∷ column (codes "referencedComponentId") component_format
    ∷ []

-- the byte between two fields of a line
abbrev pub tab : ℕ
tab = 9

-- the header of a kind of file: the names of its columns, joined by tabs
unfoldable pub header_of : FileKind → List ℕ
header_of kind = join_with_byte tab (map (λ column. column.name) (columns_of kind))

-- whether two kinds of component are the same
abbrev pub is_part : Part → Part → Bool
is_part Concept Concept = true
is_part Description Description = true
is_part Relationship Relationship = true
is_part _ _ = false

-- the first fault of a text as an identifier of the kind `part`: its own fault if it is no
-- identifier, and the partition if it is an identifier of another kind
abbrev pub fault_for : Part → List ℕ → Option IdFault
fault_for part text = option_or (fault_of text)
    (if is_part (part_of text) part then None else Some Partition)

-- the cause for which a text is not accepted in a column with this format, or none
unfoldable pub cause_of : Format → List ℕ → Option RowCause
cause_of (id_format part) text = option_map Id (fault_for part text)
cause_of component_format text = option_map Id (fault_of text)
cause_of uuid_format text = if is_some (parsed_hyphenated text) then None else Some Uuid
cause_of time_format text = if length text == 0 || is_number 8 8 text then None else Some Time
cause_of active_format text =
    if bytes_eq text (codes "0") || bytes_eq text (codes "1") then None else Some Active
cause_of group_format text = if is_number 1 9 text then None else Some Group
cause_of text_format text = if is_utf8 text then None else Some Utf8
cause_of value_format text = value_cause text

-- the number of a cause, from 1
abbrev pub cause_number : RowCause → ℕ
cause_number Fields = 1
cause_number (Id fault) = 2
cause_number Time = 3
cause_number Active = 4
cause_number Group = 5
cause_number Value = 6
cause_number Utf8 = 7
cause_number Uuid = 8
