-- Worked names, headers and lines, for which the definitions compute.
use lib.Utf8.{encode}
use Rattle.std.proofs.Common.{◌≡◌, ℕ, List, [], ◌∷◌, ◌++◌, None, Some, true, false, refl, codes, pos, negsuc}
use Rattle.std.specs.List.{join_with_byte}
use Rattle.std.specs.Str.{chars, is_utf8}
use Rattle.uuid.specs.Text.{by_index}
use Rattle.sctid.specs.declared.IdFault.TheVariants.{Partition, Check}
use Rattle.rf2_rows.specs.declared.kind.FileKind.TheVariants.{Concept, Description, Relationship, Concrete, Member}
use Rattle.rf2_rows.specs.declared.fault.RowCause.TheVariants.{Fields, Id, Time, Value, Utf8, Uuid}
use Rattle.rf2_rows.specs.Files.{file_kind_of}
use Rattle.rf2_rows.specs.Columns.{header_of, cause_of}
use Rattle.release_model.specs.Release.{number_value, text_value}
use Rattle.rf2_rows.specs.Rows.{row_fault, concept_row, description_row, concrete_row, member_row}
use Rattle.numerals.specs.Decimals.{decimal_of}
use Rattle.rf2_rows.specs.Values.{value_cause, value_of}

-- the concepts of an extension, the relationships of a test release, and the files of values and of a simple
-- reference set; no kind has a language reference set, nor a full release
kinds_of_files :
    (file_kind_of (codes "a/sct2_Concept_XYSnapshot_XY_20240101.txt") ≡ Some Concept)
    × (file_kind_of (codes "xsct2_Relationship_Snapshot-en_INT_20240101.txt") ≡ Some Relationship)
    × (file_kind_of (codes "sct2_RelationshipConcreteValues_Snapshot_INT_20240101.txt") ≡ Some Concrete)
    × (file_kind_of (codes "der2_Refset_SimpleSnapshot_INT_20240101.txt") ≡ Some Member)
    × (file_kind_of (codes "der2_cRefset_LanguageSnapshot-en_INT_20240101.txt") ≡ None)
    × (file_kind_of (codes "sct2_Concept_Full_Snapshot.txt") ≡ None)
unfolding file_kind_of
kinds_of_files = (refl, refl, refl, refl, refl, refl)

headers :
    (header_of Concept ≡ join_with_byte 9 (codes "id" ∷ codes "effectiveTime" ∷ codes "active" ∷ codes "moduleId"
    ∷ codes "definitionStatusId" ∷ []))
    × (header_of Member ≡ join_with_byte 9 (codes "id" ∷ codes "effectiveTime" ∷ codes "active" ∷ codes "moduleId"
    ∷ codes "refsetId" ∷ codes "referencedComponentId" ∷ []))
unfolding header_of
headers = (refl, refl)

-- a line: its texts joined by tabs
abbrev line : List (List ℕ) → List ℕ
line texts = join_with_byte 9 texts

published : List ℕ
published = line (codes "100005" ∷ codes "20240101" ∷ codes "1" ∷ codes "900000000000207008"
    ∷ codes "900000000000074008" ∷ [])

its_row : concept_row published
    ≡ record {
      id = 100005;
      effective_time = Some 20240101;
      active = true;
      module_id = 900000000000207008;
      definition_status_id = 900000000000074008;
    }
unfolding concept_row published
its_row = refl

-- no fault; too few fields; of two faults the first counts; another part; and an identifier's own fault before its part
faults_of_concepts :
    (row_fault Concept published ≡ None)
    × (row_fault Concept (line (codes "100005" ∷ [])) ≡ Some (record { cause = Fields; column = 0 }))
    × (row_fault Concept (line (codes "100005" ∷ codes "2024" ∷ codes "2" ∷ codes "100005" ∷ codes "100005" ∷ []))
    ≡ Some (record { cause = Time; column = 2 }))
    × (row_fault Concept (line (codes "100022" ∷ [] ∷ codes "0" ∷ codes "100005" ∷ codes "100005" ∷ []))
    ≡ Some (record { cause = Id Partition; column = 1 }))
    × (row_fault Concept (line (codes "100016" ∷ [] ∷ codes "0" ∷ codes "100005" ∷ codes "100005" ∷ []))
    ≡ Some (record { cause = Id Check; column = 1 }))
unfolding row_fault cause_of published
faults_of_concepts = (refl, refl, refl, refl, refl)

-- a line of the Description file with this term
abbrev described : List ℕ → List ℕ
described term = line (codes "100014" ∷ codes "20240101" ∷ codes "1" ∷ codes "900000000000207008" ∷ codes "100005"
    ∷ codes "en" ∷ codes "900000000000013009" ∷ term ∷ codes "900000000000448009" ∷ [])

-- the letter é of this term takes two bytes
meniere : List ℕ
meniere = codes "M" ++ (195 ∷ 169 ∷ codes "niere")

its_description : description_row (described meniere)
    ≡ record {
      id = 100014;
      effective_time = Some 20240101;
      active = true;
      module_id = 900000000000207008;
      concept_id = 100005;
      language_code = codes "en";
      type_id = 900000000000013009;
      term = meniere;
      case_significance_id = 900000000000448009;
    }
unfolding description_row meniere
its_description = refl

-- a term with only one of the two bytes of é is refused
faults_of_descriptions :
    (row_fault Description (described meniere) ≡ None)
    × (row_fault Description (described (codes "M" ++ (195 ∷ []))) ≡ Some (record { cause = Utf8; column = 8 }))
unfolding row_fault cause_of is_utf8 chars encode meniere
faults_of_descriptions = (refl, refl)

-- values count units of 10^-18, and leading zeros are accepted
values :
    (value_of (codes "#2.5") ≡ number_value (pos 2500000000000000000))
    × (value_of (codes "#-0.5") ≡ number_value (negsuc 499999999999999999))
    × (value_of (codes "#+007") ≡ number_value (pos 7000000000000000000))
    × (value_of (codes "2.5") ≡ text_value (codes "2.5"))
    × (decimal_of (codes "-0.000000000000000001") ≡ Some (negsuc 0))
values = (refl, refl, refl, refl, refl)

-- refused are no digit after the point, two points, nineteen digits, and text that is not UTF-8; after `#` only the
-- number counts
no_values :
    (value_cause (codes "#1.") ≡ Some Value)
    × (value_cause (codes "#1.2.3") ≡ Some Value)
    × (value_cause (codes "#1234567890123456789") ≡ Some Value)
    × (value_cause (255 ∷ []) ≡ Some Utf8)
    × (value_cause (35 ∷ 255 ∷ []) ≡ Some Value)
unfolding is_utf8 chars encode
no_values = (refl, refl, refl, refl, refl)

-- a line of the Relationship concrete values file with this value
abbrev valued : List ℕ → List ℕ
valued value = line (codes "100022" ∷ [] ∷ codes "0" ∷ codes "100005" ∷ codes "101009" ∷ value ∷ codes "7"
    ∷ codes "102002" ∷ codes "103007" ∷ codes "104001" ∷ [])

its_value : concrete_row (valued (codes "#2.5"))
    ≡ record {
      id = 100022;
      effective_time = None;
      active = false;
      module_id = 100005;
      source_id = 101009;
      value = number_value (pos 2500000000000000000);
      relationship_group = 7;
      type_id = 102002;
      characteristic_type_id = 103007;
      modifier_id = 104001;
    }
unfolding concrete_row
its_value = refl

faults_of_values :
    (row_fault Concrete (valued (codes "#2.5")) ≡ None)
    × (row_fault Concrete (valued (codes "#1.")) ≡ Some (record { cause = Value; column = 6 }))
unfolding row_fault cause_of
faults_of_values = (refl, refl)

-- a line of a simple reference set file with this identifier; its component is a description
abbrev listed : List ℕ → List ℕ
listed id = line (id ∷ codes "20240101" ∷ codes "1" ∷ codes "100005" ∷ codes "101009" ∷ codes "100014" ∷ [])

its_member : member_row (listed (codes "80000a05-C6DB-5a02-9b8a-0b1c2d3e4f50"))
    ≡ record {
      id = 128 ∷ 0 ∷ 10 ∷ 5 ∷ 198 ∷ 219 ∷ 90 ∷ 2 ∷ 155 ∷ 138 ∷ 11 ∷ 28 ∷ 45 ∷ 62 ∷ 79 ∷ 80 ∷ [];
      effective_time = Some 20240101;
      active = true;
      module_id = 100005;
      refset_id = 101009;
      referenced_component_id = 100014;
    }
unfolding member_row by_index
its_member = refl

-- an accepted member, one with a letter that is no hexadecimal digit, and one whose UUID has no hyphens
faults_of_members :
    (row_fault Member (listed (codes "80000a05-C6DB-5a02-9b8a-0b1c2d3e4f50")) ≡ None)
    × (row_fault Member (listed (codes "g0000a05-c6db-5a02-9b8a-0b1c2d3e4f50"))
    ≡ Some (record { cause = Uuid; column = 1 }))
    × (row_fault Member (listed (codes "80000a05c6db5a029b8a0b1c2d3e4f50"))
    ≡ Some (record { cause = Uuid; column = 1 }))
unfolding row_fault cause_of by_index
faults_of_members = (refl, refl, refl)
