-- The lists that a load makes of rows yield the release of the definitions, and so the result of the load.
use Rattle.std.proofs.Common.{rules, arith, ℕ, ◌≡◌, ◌&&◌, ◌||◌, ◌==◌, List, [], ◌∷◌, length, map, Option, None, Some}
use Rattle.std.proofs.Common.{Err, sym, ◌∙◌, ap, refl, Bool, true, false, cond, codes, is_some, option_and_then, filter}
use Rattle.std.proofs.Common.{count_by, filter_map, not}
use Rattle.std.proofs.lemmas.Bool.Decides.{nat_tests}
use Rattle.std.proofs.lemmas.Grind.{common_steps}
use Rattle.std.specs.List.{list_any}
use Rattle.std.proofs.lemmas.List.Sums.{length-filter}
use Rattle.std.proofs.Math.Bool.{and-false}
use Rattle.release_files.specs.Source.{FileText}
use Rattle.release_model.specs.Release.{Attribute, Name}
use Rattle.rf2_rows.specs.RowTexts.{RowText}
use Rattle.rf2_rows.specs.Rows.{DescriptionText, concrete_row, fields_of, text_in}
use Rattle.rf2_rows.specs.Values.{value_of}
use Rattle.rf2_rows.specs.declared.kind.FileKind.TheVariants.{Concrete}
use Rattle.rf2_rows.specs.declared.row.ConceptRow.{ConceptRow}
use Rattle.rf2_rows.specs.declared.row.MemberRow.{MemberRow}
use Rattle.rf2_rows.specs.declared.row.RelationshipRow.{RelationshipRow}
use Rattle.snapshot.specs.Load.{contents_of, load_of, loaded_from}
use Rattle.release_rows.specs.Files.{text_of_row, Place, RowAt, is_concept_file, is_concept_kind, has_kind, places_from}
use Rattle.rf2_rows.specs.Files.{file_kind_of}
use Rattle.number_lists.specs.Members.{has}
use Rattle.number_lists.specs.RisingOrder.{rising}
use Rattle.row_lists.specs.InForce.{attribute_in, attributes_in_force, concept_in, concept_rows, concepts_in_force}
use Rattle.row_lists.specs.InForce.{description_in, inactive_concepts, is_in_force, is_member_in_force, is_name}
use Rattle.row_lists.specs.InForce.{isa_in_force, member_in, members_in_force, name_on, names_in_force, relationship_in}
use Rattle.row_lists.specs.InForce.{release_of, rows_among}
use Rattle.release_rows.specs.ReadRows.{IsReadFrom}
use Rattle.held_release.specs.Finished.{attributes_among, contents_from, finished, names_among, release_from}
use Rattle.held_release.specs.ValuesInForce.{is_value_among}
use Rattle.release_rows.specs.Limits.{limits_in_force}
use Rattle.row_lists.specs.ReleaseLists.{ReleaseLists, attribute_listed, concept_listed, inactive_listed, is_isa}
use Rattle.row_lists.specs.ReleaseLists.{isa_listed, listed_of, member_listed, name_listed}
use Rattle.row_lists.specs.Metadata.{is_a}
use Rattle.release_rows.specs.Pieces.{cut_file, listed, text_named}
use Rattle.snapshot.proofs.LimitLemmas.{cut_first_fault, cut_places}
use Rattle.row_lists.specs.declared.fault.LoadFault.TheVariants.{NoConceptFile}
use Rattle.release_rows.specs.declared.limits.Limits.{Limits}

-- an item that passes `keep`, if there is one
abbrev kept : {X : Type 0} → (X → Bool) → Option X → Option X
kept keep item = option_and_then (λ x. cond (keep x) (Some x) None) item

kept-listed : {X : Type 0} (keep : X → Bool) (pick listed : RowText → Option X)
    → ((row : RowAt) → pick (text_of_row row) ≡ kept keep (listed (text_of_row row)))
    → (rows : List RowAt) → filter_map pick (map text_of_row rows)
    ≡ filter keep (filter_map listed (map text_of_row rows))
kept-listed keep pick listed same [] = refl
kept-listed keep pick listed same (row ∷ rows) = grind (arith, same, (kept-listed keep pick listed same rows))

-- the rows of one kind
module _ {Row X : Type 0} (pick : RowText → Option Row) (item : Row → X) where
  abbrev item_of : (Row → Bool) → Option Row → Option X
  item_of test found = option_and_then (λ row. cond (test row) (Some (item row)) None) found

  -- the items of the rows that pass a test are picked row by row
  picked : (test : Row → Bool) (rows : List RowText)
      → map item (filter test (filter_map pick rows)) ≡ filter_map (λ row. item_of test (pick row)) rows
  picked test [] = refl
  picked test (row ∷ rows) = grind (arith, common_steps, nat_tests, (picked test rows))

  -- the items of the rows in force are the listed items that `keep` keeps, if this holds of each row
  in_force : (test listed : Row → Bool) (keep : X → Bool)
      → ((row : Row) → cond (test row) (Some (item row)) None ≡ kept keep (cond (listed row) (Some (item row)) None))
      → (rows : List RowAt) → map item (filter test (filter_map pick (map text_of_row rows)))
      ≡ filter keep (filter_map (λ row. item_of listed (pick row)) (map text_of_row rows))
  in_force test listed keep same rows = grind (arith, common_steps, nat_tests, kept-listed, picked)

-- a value that a text writes is not a concept
value_of-among : (concepts text : List ℕ) → is_value_among concepts (value_of text) ≡ true
value_of-among concepts text = grind (arith, common_steps, nat_tests)

concrete_value-among : (concepts line : List ℕ) → is_value_among concepts (concrete_row line).value ≡ true
unfolding concrete_row
concrete_value-among concepts line = value_of-among concepts (text_in Concrete (fields_of line) (codes "value"))

-- the identifiers of the active concept rows are those that `concept_listed` puts into the list of active concepts
pub concepts-listed : (rows : List RowText)
    → map (λ (row : ConceptRow). row.id) (filter (λ (row : ConceptRow). row.active) (concept_rows rows))
    ≡ filter_map concept_listed rows
concepts-listed rows = picked concept_in (λ (row : ConceptRow). row.id) (λ (row : ConceptRow). row.active) rows

-- the inactive concepts are those that `inactive_listed` puts into the list of inactive concepts, in rising order
pub inactive-listed : (rows : List RowText) → inactive_concepts rows ≡ rising (filter_map inactive_listed rows)
inactive-listed rows =
    ap rising (picked concept_in (λ (row : ConceptRow). row.id) (λ (row : ConceptRow). not row.active) rows)

module _ (concepts : List ℕ) where
  -- the names in force are the listed names of concepts in force
  names_in_force-is : (rows : List RowAt)
      → names_in_force concepts (map text_of_row rows)
      ≡ names_among concepts (filter_map name_listed (map text_of_row rows))
  names_in_force-is rows =
      in_force description_in name_on (λ (row : DescriptionText). is_name row && has concepts row.concept_id) is_name
      (λ (name : Name). has concepts name.concept) (λ row. grind arith) rows

  -- both concepts of a pair are in force
  abbrev between : ℕ × ℕ → Bool
  between pair = has concepts pair.0 && has concepts pair.1

  isa_in_force-is : (rows : List RowAt)
      → isa_in_force concepts (map text_of_row rows)
      ≡ rows_among concepts (filter_map isa_listed (map text_of_row rows))
  isa_in_force-is rows =
      in_force relationship_in (λ (row : RelationshipRow). (row.source_id, row.destination_id))
      (λ (row : RelationshipRow). is_in_force concepts row && (row.type_id == is_a)) is_isa between
      (λ row. grind (arith, and-false)) rows

  members_in_force-is : (rows : List RowAt)
      → members_in_force concepts (map text_of_row rows)
      ≡ rows_among concepts (filter_map member_listed (map text_of_row rows))
  members_in_force-is rows =
      in_force member_in (λ (row : MemberRow). (row.refset_id, row.referenced_component_id))
      (is_member_in_force concepts) (λ (row : MemberRow). row.active) between (λ row. grind arith) rows

  -- the attribute of a row in force is the listed one, if its source and value are in force
  attribute-kept : (row : RowAt) → attribute_in concepts (text_of_row row)
      ≡ kept (λ (attribute : Attribute). has concepts attribute.source && is_value_among concepts attribute.value)
      (attribute_listed (text_of_row row))
  attribute-kept row = search (rules, and-false, concrete_value-among)

  attributes_in_force-is : (rows : List RowAt)
      → attributes_in_force concepts (map text_of_row rows)
      ≡ attributes_among concepts (filter_map attribute_listed (map text_of_row rows))
  attributes_in_force-is rows =
      kept-listed (λ (attribute : Attribute). has concepts attribute.source && is_value_among concepts attribute.value)
      (attribute_in concepts) attribute_listed attribute-kept rows

-- the release that `rows` make is the one made of the lists of these rows
pub release_of-listed : (rows : List RowAt)
    → release_of (map text_of_row rows) ≡ release_from (listed_of (map text_of_row rows))
release_of-listed rows =
    grind (
      arith,
      (concepts-listed (map text_of_row rows)),
      (isa_in_force-is (concepts_in_force (map text_of_row rows)) rows),
      (attributes_in_force-is (concepts_in_force (map text_of_row rows)) rows),
      (members_in_force-is (concepts_in_force (map text_of_row rows)) rows),
      (names_in_force-is (concepts_in_force (map text_of_row rows)) rows),
    )

-- counts of files by their names, for items that stand for files
module _ {Item : Type 0} (file_of : Item → FileText) where
  -- the number of items whose file has a kind is the number of files that have one
  pub kind_count-is : (items : List Item)
      → count_by (λ item. has_kind (file_of item)) items ≡ length (filter has_kind (map file_of items))
  kind_count-is items = grind (arith, common_steps, nat_tests, length-filter, has_kind)

  -- one of the items stands for a Concept file exactly if one of the files is a Concept file
  pub names_concepts-is : (items : List Item) → list_any (λ item. is_concept_file (file_of item)) items
      ≡ list_any is_concept_file (map file_of items)
  names_concepts-is [] = refl
  names_concepts-is (item ∷ items) = ap (λ rest. is_concept_file (file_of item) || rest) (names_concepts-is items)

-- for items with names, taking the first file of each item's name is `listed` for the list of their names
pub listed-named : {Item : Type 0} (known : List FileText) (name_of : Item → List ℕ) (items : List Item)
    → map (λ item. text_named known (name_of item)) items ≡ listed known (map name_of items)
listed-named known name_of [] = refl
listed-named known name_of (item ∷ items) =
    ap (λ rest. text_named known (name_of item) ∷ rest) (listed-named known name_of items)

-- the contents of places without a fault are made of the lists that were read
contents_of-read : (limits : Limits) (language : List ℕ) (kinds : ℕ) (places : List Place) (count : ℕ)
    (listed : ReleaseLists)
    → IsReadFrom limits places count listed
    → contents_of language kinds places ≡ contents_from language kinds count listed
contents_of-read limits language kinds places count listed read =
    grind (arith, common_steps, nat_tests, release_of-listed, inactive-listed)

-- if places have no fault and `listed` was read from them, the result of the load is that of `finished` on these lists
pub loaded_from-read : (limits : Limits) (language : List ℕ) (kinds : ℕ) (places : List Place) (count : ℕ)
    (listed : ReleaseLists)
    → IsReadFrom limits places count listed
    → loaded_from limits language kinds places ≡ finished language kinds count listed
loaded_from-read limits language kinds places count listed read =
    grind (arith, read.clean, (contents_of-read limits language kinds places count listed read))

-- if a file is a Concept file by its name, and `kinds` files have a kind, `load_of` is `loaded_from` with the limits in
-- force and the places of the files
pub load_of-named : (limits : Limits) (language : List ℕ) (files : List FileText) (kinds : ℕ)
    → list_any is_concept_file files ≡ true → kinds ≡ length (filter has_kind files)
    → load_of limits language files ≡ loaded_from (limits_in_force limits) language kinds (places_from 0 files)
load_of-named limits language files kinds named counted = rw (named, counted) refl

-- if no file is a Concept file by its name, `load_of` is the fault `NoConceptFile`
pub load_of-none : (limits : Limits) (language : List ℕ) (files : List FileText)
    → list_any is_concept_file files ≡ false
    → load_of limits language files ≡ Err NoConceptFile
load_of-none limits language files none = rw none refl

-- a load of the files that the items name, cut one byte past the limit
module _ {Item : Type 0} (known : List FileText) (name_of : Item → List ℕ) (items : List Item) where
  -- one of the named files is a Concept file exactly if one of the names is that of a Concept file
  pub names_concepts-listed : list_any is_concept_file (listed known (map name_of items))
      ≡ list_any (λ item. is_concept_kind (file_kind_of (name_of item))) items
  names_concepts-listed = ap (list_any is_concept_file) (sym (listed-named known name_of items))
      ∙ sym (names_concepts-is (λ item. text_named known (name_of item)) items)

  kinds-listed : count_by (λ item. is_some (file_kind_of (name_of item))) items
      ≡ length (filter has_kind (listed known (map name_of items)))
  kinds-listed = kind_count-is (λ item. text_named known (name_of item)) items
      ∙ ap (λ texts. length (filter has_kind texts)) (listed-named known name_of items)

-- if one of the names is that of a Concept file, loading the named files, each cut one byte past the limit in force,
-- has the same result as loading the whole files
pub load_named-is : {Item : Type 0} (limits own : Limits) (language : List ℕ) (known : List FileText)
    (name_of : Item → List ℕ) (items : List Item) (kinds : ℕ) → own ≡ limits_in_force limits
    → list_any (λ item. is_concept_kind (file_kind_of (name_of item))) items ≡ true
    → kinds ≡ count_by (λ item. is_some (file_kind_of (name_of item))) items
    → loaded_from own language kinds (places_from 0 (map (cut_file own.bytes) (listed known (map name_of items))))
    ≡ load_of limits language (listed known (map name_of items))
load_named-is limits own language known name_of items kinds same named counted =
    grind (arith, load_of-named, names_concepts-listed, kinds-listed, cut_first_fault, cut_places)
