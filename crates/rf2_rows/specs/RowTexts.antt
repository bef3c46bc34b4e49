-- A row of any kind, with the bytes of its texts.
use Rattle.std.specs.Prelude.{ℕ, List}
use Rattle.rf2_rows.specs.Rows.{ConcreteText, DescriptionText, concept_row, concrete_row, concrete_text}
use Rattle.rf2_rows.specs.Rows.{description_row, description_text, member_row, relationship_row}
use Rattle.rf2_rows.specs.declared.kind.FileKind.{FileKind}
use Rattle.rf2_rows.specs.declared.kind.FileKind.TheVariants as file
use Rattle.rf2_rows.specs.declared.row.ConceptRow.{ConceptRow}
use Rattle.rf2_rows.specs.declared.row.MemberRow.{MemberRow}
use Rattle.rf2_rows.specs.declared.row.RelationshipRow.{RelationshipRow}
use Rattle.rf2_rows.specs.declared.row.Row.{Row}
use Rattle.rf2_rows.specs.declared.row.Row.TheVariants.{Concept, Concrete, Description, Member, Relationship}

-- a row of any kind of file, with its texts as bytes
pub data RowText : Type 0 where
  of_concept : ConceptRow → RowText
  of_description : DescriptionText → RowText
  of_relationship : RelationshipRow → RowText
  of_concrete : ConcreteText → RowText
  of_member : MemberRow → RowText

-- the row that an accepted line of a kind of file stands for
abbrev pub row_text : FileKind → List ℕ → RowText
row_text file.Concept line = of_concept (concept_row line)
row_text file.Description line = of_description (description_row line)
row_text file.Relationship line = of_relationship (relationship_row line)
row_text file.Concrete line = of_concrete (concrete_row line)
row_text file.Member line = of_member (member_row line)

-- a row as the program has it, with its borrowed texts as bytes
abbrev pub text_in : Row → RowText
text_in (Concept row) = of_concept row
text_in (Description row) = of_description (description_text row)
text_in (Relationship row) = of_relationship row
text_in (Concrete row) = of_concrete (concrete_text row)
text_in (Member row) = of_member row
