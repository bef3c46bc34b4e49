-- Columns that are read together: those that rows of several kinds have in common, and the last
-- ones of a description. For each such run of columns, its first fault and its values.
use Rattle.std.specs.Prelude.{ℕ, List, [], slice_index_or, Option}
use Rattle.std.specs.Option.{option_or}
use Rattle.sctid.specs.declared.Part.TheVariants.{Concept}
use Rattle.rf2_rows.specs.declared.fault.RowFault.{RowFault}
use Rattle.rf2_rows.specs.declared.shared.VersionColumns.{VersionColumns}
use Rattle.rf2_rows.specs.declared.shared.RelationshipEnd.{RelationshipEnd}
use Rattle.rf2_rows.specs.Columns.{active_format, cause_of, group_format, id_format, text_format, time_format}
use Rattle.rf2_rows.specs.Rows.{DescriptionText, active_of, column_fault, time_of}
use Rattle.numerals.specs.Numbers.{number_of}

-- the first fault in the version columns: effective time, active and module
abbrev pub version_fault : List (List ℕ) → Option RowFault
version_fault texts =
    option_or (column_fault 2 (cause_of time_format (slice_index_or texts 1 [])))
    (option_or (column_fault 3 (cause_of active_format (slice_index_or texts 2 [])))
    (column_fault 4 (cause_of (id_format Concept) (slice_index_or texts 3 []))))

-- the values of the version columns: effective time, active and module
abbrev pub version_of : List (List ℕ) → VersionColumns
version_of texts = record {
  effective_time = time_of (slice_index_or texts 1 []);
  active = active_of (slice_index_or texts 2 []);
  module_id = number_of (slice_index_or texts 3 []);
}

-- the first fault in the columns after the destination or the value of a relationship
abbrev pub end_fault : List (List ℕ) → Option RowFault
end_fault texts =
    option_or (column_fault 7 (cause_of group_format (slice_index_or texts 6 [])))
    (option_or (column_fault 8 (cause_of (id_format Concept) (slice_index_or texts 7 [])))
    (option_or (column_fault 9 (cause_of (id_format Concept) (slice_index_or texts 8 [])))
    (column_fault 10 (cause_of (id_format Concept) (slice_index_or texts 9 [])))))

-- the values of the columns after the destination or the value of a relationship
abbrev pub end_of : List (List ℕ) → RelationshipEnd
end_of texts = record {
  relationship_group = number_of (slice_index_or texts 6 []);
  type_id = number_of (slice_index_or texts 7 []);
  characteristic_type_id = number_of (slice_index_or texts 8 []);
  modifier_id = number_of (slice_index_or texts 9 []);
}

-- the first fault in the columns after the module of a description
abbrev pub description_end_fault : List (List ℕ) → Option RowFault
description_end_fault texts =
    option_or (column_fault 5 (cause_of (id_format Concept) (slice_index_or texts 4 [])))
    (option_or (column_fault 6 (cause_of text_format (slice_index_or texts 5 [])))
    (option_or (column_fault 7 (cause_of (id_format Concept) (slice_index_or texts 6 [])))
    (option_or (column_fault 8 (cause_of text_format (slice_index_or texts 7 [])))
    (column_fault 9 (cause_of (id_format Concept) (slice_index_or texts 8 []))))))

-- the description with an identifier, its version columns, and the columns after the module
abbrev pub description_from : ℕ → VersionColumns → List (List ℕ) → DescriptionText
description_from id version texts = record {
  id = id;
  effective_time = version.effective_time;
  active = version.active;
  module_id = version.module_id;
  concept_id = number_of (slice_index_or texts 4 []);
  language_code = slice_index_or texts 5 [];
  type_id = number_of (slice_index_or texts 6 []);
  term = slice_index_or texts 7 [];
  case_significance_id = number_of (slice_index_or texts 8 []);
}
