-- The first fault of a line's fields, and the row that they stand for, by the texts at the places of the fields.
use Rattle.std.proofs.Common.{◌≡◌, ℕ, ◌-◌, List, length, Option, None, Some, refl, ap, ◌∙◌}
use Rattle.std.specs.Option.{option_or}
use Rattle.sctid.specs.declared.Part.TheVariants.{Concept, Description, Relationship}
use Rattle.rf2_rows.specs.Columns.{Format, active_format, cause_of, component_format, group_format, id_format}
use Rattle.rf2_rows.specs.Columns.{text_format, time_format, uuid_format, value_format}
use Rattle.rf2_rows.specs.Rows.{column_fault, fields_fault}
use Rattle.rf2_rows.specs.inside.SharedColumns.{description_end_fault, end_fault, version_fault}
use Rattle.rf2_rows.specs.declared.fault.RowFault.{RowFault}
use Rattle.rf2_rows.specs.declared.kind.FileKind.TheVariants.{Concept as ConceptFile, Description as DescriptionFile}
use Rattle.rf2_rows.specs.declared.kind.FileKind.TheVariants.{Relationship as RelationshipFile}
use Rattle.rf2_rows.specs.declared.kind.FileKind.TheVariants.{Concrete as ConcreteFile, Member as MemberFile}
use Rattle.rf2_rows.proofs.Columns.{five_texts, nine_texts, six_texts, ten_texts, text_at}

-- the first of four faults is the first of the first three, or else the fourth
three_first : (one two three rest : Option RowFault)
    → option_or one (option_or two (option_or three rest)) ≡ option_or (option_or one (option_or two three)) rest
three_first (Some fault) two three rest = refl
three_first None (Some fault) three rest = refl
three_first None None three rest = refl

-- the first of four faults does not change if a further `None` comes after them
four_last : (one two three four : Option RowFault)
    → option_or one (option_or two (option_or three (option_or four None)))
    ≡ option_or one (option_or two (option_or three four))
four_last (Some fault) two three four = refl
four_last None (Some fault) three four = refl
four_last None None (Some fault) four = refl
four_last None None None (Some fault) = refl
four_last None None None None = refl

module _ (fields : List (List ℕ)) where
  -- the fault of column `number`, whose text has to be in `format`
  abbrev pub fault_at : ℕ → Format → Option RowFault
  fault_at number format = column_fault number (cause_of format (text_at fields (number - 1)))

  -- the faults of columns 2 to 4, one after another, are the fault of the version columns
  versioned : (one rest : Option RowFault)
      → option_or one (option_or (fault_at 2 time_format)
      (option_or (fault_at 3 active_format) (option_or (fault_at 4 (id_format Concept)) rest)))
      ≡ option_or one (option_or (option_or (fault_at 2 time_format)
      (option_or (fault_at 3 active_format) (fault_at 4 (id_format Concept)))) rest)
  versioned one rest = ap (option_or one)
      (three_first (fault_at 2 time_format) (fault_at 3 active_format) (fault_at 4 (id_format Concept)) rest)

  -- the first fault of five fields of a Concept file, in the order in which `read_concept` reads them
  pub concept_fault : length fields ≡ 5
      → fields_fault ConceptFile fields
      ≡ option_or (fault_at 1 (id_format Concept))
      (option_or (version_fault fields) (option_or (fault_at 5 (id_format Concept)) None))
  concept_fault same = rw (five_texts fields same)
      (versioned (fault_at 1 (id_format Concept)) (option_or (fault_at 5 (id_format Concept)) None))

  -- the first fault of the columns 5 to 8 of a description, or else `last`
  abbrev description_end : Option RowFault → Option RowFault
  description_end last =
      option_or (fault_at 5 (id_format Concept))
      (option_or (fault_at 6 text_format) (option_or (fault_at 7 (id_format Concept))
      (option_or (fault_at 8 text_format) last)))

  -- `option_or` with `None` on the right changes nothing
  description_ended : (last : Option RowFault) → option_or last None ≡ last
  description_ended None = refl
  description_ended (Some fault) = refl

  -- the first fault of nine fields of a Description file, in the order in which `read_description` reads them
  pub description_fault : length fields ≡ 9
      → fields_fault DescriptionFile fields
      ≡ option_or (fault_at 1 (id_format Description))
      (option_or (version_fault fields) (description_end_fault fields))
  description_fault same =
      rw (nine_texts fields same)
      (versioned (fault_at 1 (id_format Description))
      (description_end (option_or (fault_at 9 (id_format Concept)) None))
      ∙ ap (λ last. option_or (fault_at 1 (id_format Description)) (option_or
      (option_or (fault_at 2 time_format) (option_or (fault_at 3 active_format) (fault_at 4 (id_format Concept))))
      (description_end last))) (description_ended (fault_at 9 (id_format Concept))))

  -- the first fault of the columns 5 and 6 of a member: of the reference set, and then of the component
  abbrev pub member_end : Option RowFault
  member_end = option_or (fault_at 5 (id_format Concept)) (option_or (fault_at 6 component_format) None)

  -- the first fault of six fields of a simple reference set file, in the order in which `read_member` reads them
  pub member_fault : length fields ≡ 6
      → fields_fault MemberFile fields
      ≡ option_or (fault_at 1 uuid_format) (option_or (version_fault fields) member_end)
  member_fault same = rw (six_texts fields same) (versioned (fault_at 1 uuid_format) member_end)

  -- the first fault of a relationship row whose sixth column has the given format: that of a concept, or of a
  -- concrete value
  abbrev pub relationship_faults : Format → Option RowFault
  relationship_faults value =
      option_or (fault_at 1 (id_format Relationship)) (option_or (version_fault fields)
      (option_or (fault_at 5 (id_format Concept)) (option_or (fault_at 6 value) (end_fault fields))))

  -- the faults of columns 7 to 10, one after another, are the fault of the columns after the value
  ended : (one version source value : Option RowFault)
      → option_or one (option_or version (option_or source (option_or value
      (option_or (fault_at 7 group_format) (option_or (fault_at 8 (id_format Concept))
      (option_or (fault_at 9 (id_format Concept)) (option_or (fault_at 10 (id_format Concept)) None)))))))
      ≡ option_or one (option_or version (option_or source (option_or value
      (option_or (fault_at 7 group_format) (option_or (fault_at 8 (id_format Concept))
      (option_or (fault_at 9 (id_format Concept)) (fault_at 10 (id_format Concept))))))))
  ended one version source value =
      ap (λ end. option_or one (option_or version (option_or source (option_or value end))))
      (four_last (fault_at 7 group_format) (fault_at 8 (id_format Concept)) (fault_at 9 (id_format Concept))
      (fault_at 10 (id_format Concept)))

  -- the first fault of the version columns, from the texts at their places
  abbrev version_at : Option RowFault
  version_at = option_or (fault_at 2 time_format)
      (option_or (fault_at 3 active_format) (fault_at 4 (id_format Concept)))

  -- the first fault of the columns after the value, from the texts at their places
  abbrev end_at : Option RowFault
  end_at =
      option_or (fault_at 7 group_format) (option_or (fault_at 8 (id_format Concept))
      (option_or (fault_at 9 (id_format Concept)) (option_or (fault_at 10 (id_format Concept)) None)))

  -- the first fault of ten columns is that of the first column, the version columns, the source, the value and the
  -- end columns, in this order
  in_relationship : (value : Format)
      → option_or (fault_at 1 (id_format Relationship))
      (option_or (fault_at 2 time_format) (option_or (fault_at 3 active_format)
      (option_or (fault_at 4 (id_format Concept))
      (option_or (fault_at 5 (id_format Concept)) (option_or (fault_at 6 value) end_at)))))
      ≡ option_or (fault_at 1 (id_format Relationship)) (option_or version_at
      (option_or (fault_at 5 (id_format Concept)) (option_or (fault_at 6 value)
      (option_or (fault_at 7 group_format) (option_or (fault_at 8 (id_format Concept))
      (option_or (fault_at 9 (id_format Concept)) (fault_at 10 (id_format Concept))))))))
  in_relationship value =
      versioned (fault_at 1 (id_format Relationship))
      (option_or (fault_at 5 (id_format Concept)) (option_or (fault_at 6 value) end_at))
      ∙ ended (fault_at 1 (id_format Relationship)) version_at (fault_at 5 (id_format Concept)) (fault_at 6 value)

  -- the first fault of ten fields of a Relationship file, in the order in which `read_relationship` reads them
  pub relationship_fault : length fields ≡ 10
      → fields_fault RelationshipFile fields ≡ relationship_faults (id_format Concept)
  relationship_fault same = rw (ten_texts fields same) (in_relationship (id_format Concept))

  -- the first fault of ten fields of a Relationship concrete values file, in the order in which `read_concrete` reads
  -- them
  pub concrete_fault : length fields ≡ 10
      → fields_fault ConcreteFile fields ≡ relationship_faults value_format
  concrete_fault same = rw (ten_texts fields same) (in_relationship value_format)
