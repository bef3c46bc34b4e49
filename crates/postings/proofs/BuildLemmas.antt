-- From the rows by numbers to the rows, and from what the parts of the indexes are to what the indexes keep.
use Rattle.std.proofs.Common.{ℕ, ◌≡◌, ◌<◌, ◌∙◌, List, Some, length, get_or, map, slice_index, sym, ap, subst, arith}
use Rattle.std.specs.List.{slice_get}
use Rattle.std.specs.List.Sorted.{IsStrictlyIncreasing}
use Rattle.std.proofs.lemmas.List.{get_or-map, get_or_default, length-map}
use Rattle.std.proofs.lemmas.Option.{slice_get-get_or}
use Rattle.release_model.specs.Release.{Attribute, Value}
use Rattle.rf2_rows.specs.Rows.{value_lent}
use Rattle.rf2_rows.specs.declared.value.Value.{Value as LentValue}
use Rattle.held_release.specs.AttributesBySource.{attribute_of, with_source}
use Rattle.hierarchy.specs.Hierarchy.{IsWithin}
use Rattle.held_release.specs.Numbering.{row_of_numbers}
use Rattle.ancestor_index.specs.HierarchyLists.{is_child, lists_where}
use Rattle.ancestor_index.proofs.BuildLemmas.{lists_where-agree, same_child}
use Rattle.ancestor_index.proofs.ClosureLemmas.{length-where}
use Rattle.held_release.specs.CodedRows.{row_coded, rows_coded}
use Rattle.postings.specs.Indexed.{value_at}
use Rattle.postings.specs.inside.KeptRows.{rows_kept}
use Rattle.postings.specs.inside.RowIndexes.{AreRowIndexes}
use Rattle.postings.specs.declared.row_indexes.RowIndexes.{RowIndexes}
use Rattle.held_release.specs.declared.coded_rows.CodedRow.{CodedRow}

-- ---- a row by its numbers
module _ (concepts types ids : List ℕ) (values : List Value) (coded : List CodedRow) (n : ℕ) (row : CodedRow)
    (below : n < length coded)
    (is : row ≡ get_or coded n row) where
  -- decoding the numbers of coded row `n` (its type by `ids`, its value by `values`) gives attribute row `n`
  pub row_told : (id : ℕ) (value : LentValue) → ids ≡ types → row.type_place < length types
      → id ≡ get_or ids row.type_place id
      → value_lent value ≡ value_at values row.value
      → slice_get (map (row_coded concepts types values) coded) n
      ≡ Some (with_source concepts (attribute_of
      (record { source = row.source; type_id = id; group = row.group; value = value })))
  row_told id value same type_place typed valued =
      let stands : Attribute = row_coded concepts types values row in
      let named : get_or types row.type_place 0 ≡ id = get_or_default types row.type_place 0 id type_place
      ∙ (λ i. get_or (sym same i) row.type_place id) ∙ sym typed in
      slice_get-get_or (map (row_coded concepts types values) coded) n stands
      (omega (arith, below, length-map coded (row_coded concepts types values)))
      ∙ ap (λ (found : Attribute). Some found) (
      get_or-map (row_coded concepts types values) coded n row stands below
      ∙ ap (row_coded concepts types values) (sym is)
      ∙ (λ i. record {
        source = slice_index concepts row.source;
        type_id = named i;
        group = row.group;
        value = sym valued i;
      })
      )

-- ---- the rows that the indexes stand for
-- decoding the rows that the indexes of `rows` keep gives `rows`
pub rows_told : (concepts all : List ℕ) (rows : List Attribute) (indexes : RowIndexes) → all ≡ concepts
    → AreRowIndexes concepts rows indexes
    → rows_coded all indexes.types.numbers indexes.values (rows_kept indexes) ≡ rows
rows_told concepts all rows indexes same are =
    ap (λ (ids : List ℕ). rows_coded ids indexes.types.numbers indexes.values (rows_kept indexes)) same
    ∙ are.coded.stand_for

-- indexes built from `rows` are also the indexes of the rows that they encode
pub indexes_of_own : (concepts all : List ℕ) (rows : List Attribute) (indexes : RowIndexes) → all ≡ concepts
    → AreRowIndexes concepts rows indexes
    → AreRowIndexes all (rows_coded all indexes.types.numbers indexes.values (rows_kept indexes)) indexes
indexes_of_own concepts all rows indexes same are =
    subst (λ (found : List Attribute). AreRowIndexes all found indexes)
    (sym (rows_told concepts all rows indexes same are))
    (subst (λ (ids : List ℕ). AreRowIndexes ids rows indexes) (sym same) are)

-- ---- the members
-- lists by reference set, made for each of `count` concepts, are as many as the concepts
pub length-members : (concepts all : List ℕ) (count : ℕ) (rows : List (ℕ × ℕ)) (lists : List (List ℕ)) → all ≡ concepts
    → count ≡ length concepts → lists ≡ lists_where count (is_child rows)
    → length lists ≡ length all
length-members concepts all count rows lists same counted are =
    ap (λ (found : List (List ℕ)). length found) are ∙ length-where count (is_child rows) ∙ counted
    ∙ ap (λ (ids : List ℕ). length ids) (sym same)

-- if the pairs `rows` of concept numbers encode `members`, lists of components by the numbers in `rows` are the lists
-- by the identifiers in `members`
pub members_told : (concepts : List ℕ) (count : ℕ) (rows members : List (ℕ × ℕ)) (lists : List (List ℕ))
    → IsStrictlyIncreasing concepts → count ≡ length concepts
    → IsWithin (length concepts) rows → map (row_of_numbers concepts) rows ≡ members
    → lists ≡ lists_where count (is_child rows)
    → lists ≡ lists_where (length concepts) (λ refset component. is_child members (slice_index concepts refset)
    (slice_index concepts component))
members_told concepts count rows members lists rises counted within named are =
    are
    ∙ (λ i. lists_where (counted i) (is_child rows))
    ∙ lists_where-agree (length concepts) (is_child rows)
    (λ refset component. is_child members (slice_index concepts refset) (slice_index concepts component))
    (λ a b near far. same_child concepts rows members rises within named a b near far)
