-- The lists of rows by type and by value, with their columns.
use Rattle.std.proofs.Common.{ℕ, ◌-◌, ◌≡◌, ◌≤◌, ◌<◌, ◌^◌, ◌∙◌, [], Bool, true, List, length, get_or}
use Rattle.std.proofs.Common.{map, refl, sym, ap, subst, arith}
use Rattle.std.specs.Prelude.{All}
use Rattle.std.specs.List.{concat, range_with_len}
use Rattle.std.specs.List.Sorted.{IsStrictlyIncreasing}
use Rattle.std.proofs.lemmas.List.{length-map}
use Rattle.std.proofs.lemmas.List.Elements.{All-map, All-weaker}
use Rattle.std.proofs.lemmas.Simd.{map-map}
use Rattle.release_model.specs.Release.{Attribute, Release, Value}
use Rattle.held_release.specs.AttributesBySource.{attributes_by_source}
use Rattle.number_lists.specs.KeyedLists.{list_of}
use Rattle.held_release.specs.CodedRows.{AreCodedRows, IsCoded, row_coded}
use Rattle.postings.specs.inside.Coded.{AreRowMarks}
use Rattle.postings.specs.inside.Cells.{AreOfOneLength, AreRowLists, IsColumn, cells_of}
use Rattle.postings.specs.Columns.{AreGroups, AreSources, AreTypes, AreValues, Flagged}
use Rattle.postings.specs.Entries.{Entry, entries_of, entries_where}
use Rattle.postings.specs.Groups.{ConceptGroup, all_groups, rows_alone}
use Rattle.postings.specs.Indexed.{types_of, value_at}
use Rattle.postings.specs.Places.{places_by, places_where}
use Rattle.postings.specs.inside.RowIndexes.{AreByType, AreByValue, AreGroupLists, AreListsBy, has_type, has_value}
use Rattle.held_release.specs.CodedRows.{values_in}
use Rattle.postings.specs.declared.columns.RowsByKey.{RowsByKey}
use Rattle.postings.specs.declared.groups.RowMarks.{RowMarks}
use Rattle.postings.specs.declared.row_indexes.GroupLists.{GroupLists}
use Rattle.held_release.specs.declared.coded_rows.CodedRow.{CodedRow}
use Rattle.held_release.specs.declared.coded_rows.CodedRows.{CodedRows}
use Rattle.postings.proofs.CellLemmas.{groups_at, long_cells, sources_at, types_at, values_at}
use Rattle.postings.proofs.IndexLemmas.{list_at, rows_of_entries}
use Rattle.postings.proofs.RowIndexLemmas.{by_type_are, by_value_are, few_codes, few_groups, group_rows_are, groups_are}
use Rattle.postings.proofs.RowIndexLemmas.{length-group_marks, length-source_marks, sources_are, starts_are}
use Rattle.postings.proofs.RowIndexLemmas.{starts_last}

module _ (release : Release) (rises : IsStrictlyIncreasing release.concepts) (coded : CodedRows)
    (are : AreCodedRows release.concepts (attributes_by_source release) coded) where
  abbrev rows : List Attribute
  rows = attributes_by_source release

  abbrev codes : List CodedRow
  codes = coded.rows.items

  abbrev types : List ℕ
  types = coded.types.items

  abbrev all : List Value
  all = values_in release.concepts coded.values

  abbrev groups : List ConceptGroup
  groups = all_groups (rows_alone release.concepts rows)

  -- if `f` of a row of numbers is `g` of its attribute row, `f` of all rows of numbers is `g` of the rows of the
  -- entries
  field_of : {X : Type 0} (f : CodedRow → X) (g : Attribute → X)
      → ((row : CodedRow) → f row ≡ g (row_coded release.concepts types all row))
      → map f codes ≡ map (λ (entry : Entry). g entry.row) (entries_of rows)
  field_of f g tells =
      (λ i. map (λ row. tells row i) codes)
      ∙ sym (map-map g (row_coded release.concepts types all) codes)
      ∙ ap (map g) (are.stand_for ∙ sym (rows_of_entries [] rows))
      ∙ map-map g (λ (entry : Entry). entry.row) (entries_of rows)

  values_told : AreValues all (entries_of rows) (map (λ (row : CodedRow). row.value) codes)
  values_told = record {
    within = All-map (λ number. number < length all) (λ (row : CodedRow). row.value) codes
        (All-weaker (IsCoded release.concepts types all) (λ (row : CodedRow). row.value < length all)
        (λ row is. is.value) codes
        are.within);
    values = map-map (value_at all) (λ (row : CodedRow). row.value) codes
        ∙ field_of (λ row. value_at all row.value) (λ row. row.value) (λ row. refl);
  }

  types_told : AreTypes (types_of rows) (entries_of rows) (map (λ (row : CodedRow). row.type_place) codes)
  types_told = subst (λ (xs : List ℕ). AreTypes xs (entries_of rows) (map (λ (row : CodedRow). row.type_place) codes))
      are.types
      (record {
        within = All-map (λ place. place < length types) (λ (row : CodedRow). row.type_place) codes
            (All-weaker (IsCoded release.concepts types all) (λ (row : CodedRow). row.type_place < length types)
            (λ row is. is.type_place)
            codes are.within);
        types = map-map (λ place. get_or types place 0) (λ (row : CodedRow). row.type_place) codes
            ∙ field_of (λ row. get_or types row.type_place 0) (λ row. row.type_id) (λ row. refl);
      })

  -- the place of each row's type is below the number of types
  pub type_places_below : (count : ℕ) → count ≡ length types
      → All (λ place. place < count) (map (λ (row : CodedRow). row.type_place) codes)
  type_places_below count same =
      All-map (λ place. place < count) (λ (row : CodedRow). row.type_place) codes
      (All-weaker (IsCoded release.concepts types all) (λ (row : CodedRow). row.type_place < count)
      (λ row is. omega (arith, is.type_place, same)) codes are.within)

  module _ (marks : RowMarks) (marked : AreRowMarks (length release.concepts) codes marks) where
    marks_told : AreSources release.concepts (entries_of rows) marks.sources.items
    marks_told = subst (AreSources release.concepts (entries_of rows)) (sym marked.sources)
        (sources_are release rises coded are)

    groups_told : AreGroups groups (entries_of rows) marks.groups.items
    groups_told = subst (AreGroups groups (entries_of rows)) (sym marked.groups) (groups_are release rises coded are)

    -- columns of keys, of other cells and of marks made from the coded rows are equally long
    pub of_one_length : (keys cells : List ℕ) (key cell : CodedRow → ℕ) → keys ≡ map key codes → cells ≡ map cell codes
        → AreOfOneLength keys cells marks
    of_one_length keys cells key cell keys_are cells_are =
        let long : length keys ≡ length codes = ap (λ (xs : List ℕ). length xs) keys_are ∙ length-map codes key in
        record {
          few = omega (arith, long, few_codes release rises coded are);
          others = ap (λ (xs : List ℕ). length xs) cells_are ∙ length-map codes cell ∙ sym long;
          sources = omega (
            arith,
            long,
            ap (λ (xs : List Flagged). length xs) marked.sources,
            length-source_marks
                release rises coded are,
          );
          groups = omega (
            arith,
            long,
            ap (λ (xs : List Flagged). length xs) marked.groups,
            length-group_marks release
                rises coded are,
          );
        }

    module _ (lists : RowsByKey) (count : ℕ) (keys others : List ℕ) (made : AreRowLists count keys others marks lists)
      where
        cells_with : {X : Type 0} (cells column : List X) → IsColumn cells (concat (places_by count keys)) column
            → IsColumn cells (concat lists.rows) column
        cells_with cells column told d =
            told d ∙ ap (λ (all : List (List ℕ)). map (λ place. get_or cells place d) (concat all)) (sym made.rows)

        source_cells : IsColumn marks.sources.items (concat lists.rows) lists.sources.items
        source_cells = cells_with marks.sources.items lists.sources.items made.sources

        other_cells : IsColumn others (concat lists.rows) lists.others.items
        other_cells = cells_with others lists.others.items made.others

        group_cells : IsColumn marks.groups.items (concat lists.rows) lists.groups.items
        group_cells = cells_with marks.groups.items lists.groups.items made.groups

        mark : Flagged
        mark = record { number = 0; is_first = true }

        -- lists that have for each key the rows that pass its test are lists by that test, with their columns
        lists_told : (n : ℕ) (test : ℕ → Attribute → Bool) (AreOthers : List Entry → List ℕ → Type 0)
            → lists.rows ≡ map (λ key. places_where (test key) rows) (range_with_len 0 n)
            → ((key : ℕ) → key < length lists.rows → list_of lists.rows key ≡ places_where (test key) rows
            → AreOthers (entries_where (test key) rows) (cells_of lists.rows lists.others.items key))
            → AreListsBy release.concepts rows n test AreOthers lists
        lists_told n test AreOthers each others_are = record {
          long = record {
            sources = long_cells lists.rows marks.sources.items lists.sources.items source_cells mark;
            others = long_cells lists.rows others lists.others.items other_cells 0;
            groups = long_cells lists.rows marks.groups.items lists.groups.items group_cells mark;
          };
          each = each;
          sources = λ key less.
              let here = at key less in
              sources_at rows (test key) lists.rows key here.0 here.1 release.concepts marks.sources.items
              lists.sources.items
              marks_told source_cells;
          others = λ key less. others_are key (at key less).0 (at key less).1;
          groups = λ key less.
              let here = at key less in
              groups_at rows (test key) lists.rows key here.0 here.1 groups marks.groups.items lists.groups.items
              groups_told group_cells;
        }
          where
            at : (key : ℕ) → key < n
                → (key < length lists.rows) × (list_of lists.rows key ≡ places_where (test key) rows)
            at key less = list_at lists.rows (λ key. places_where (test key) rows) n key each less

        -- lists of rows by the places of their types, with the values as the other column, are the lists by type
        pub by_type_told : count ≡ length types → keys ≡ map (λ (row : CodedRow). row.type_place) codes
            → others ≡ map (λ (row : CodedRow). row.value) codes → AreByType release.concepts all rows lists
        by_type_told count_is keys_are others_are =
            lists_told (length (types_of rows)) (has_type (types_of rows)) (AreValues all)
            (made.rows ∙ (λ i. places_by (count_is i) (keys_are i))
            ∙ by_type_are release rises coded are
            ∙ ap (λ (xs : List ℕ). map (λ place. places_where (has_type xs place) rows) (range_with_len 0 (length xs)))
            are.types)
            (λ key within here.
            values_at rows (has_type (types_of rows) key) lists.rows key within here all others lists.others.items
            (subst (AreValues all (entries_of rows)) (sym others_are) values_told) other_cells)

        -- lists of rows by the numbers of their values, with the types as the other column, are the lists by value
        pub by_value_told : count ≡ length release.concepts → keys ≡ map (λ (row : CodedRow). row.value) codes
            → others ≡ map (λ (row : CodedRow). row.type_place) codes → AreByValue release.concepts rows lists
        by_value_told count_is keys_are others_are =
            lists_told (length release.concepts) (has_value release.concepts) (AreTypes (types_of rows))
            (made.rows ∙ (λ i. places_by (count_is i) (keys_are i)) ∙ by_value_are release rises coded are)
            (λ key within here.
            types_at rows (has_value release.concepts key) lists.rows key within here (types_of rows) others
            lists.others.items
            (subst (AreTypes (types_of rows) (entries_of rows)) (sym others_are) types_told) other_cells)

    -- the groups of the rows
    module _ (lists : GroupLists)
        (numbers_len : length lists.numbers.items ≡ get_or marks.starts.items (length marks.starts.items - 1) 0)
        (starts_is : lists.starts.items ≡ marks.starts.items)
        (rows_is : lists.rows ≡ places_by (get_or marks.starts.items (length marks.starts.items - 1) 0)
        (map (λ (mark : Flagged). mark.number) marks.groups.items)) where
      -- lists of rows by the group numbers of the marks, with the starts of the marks, are the lists by group
      pub group_lists_told : AreGroupLists release.concepts rows lists
      group_lists_told =
          record {
            few = smaller (length groups) (length codes) (few_groups release rises coded are marks marked)
                (few_codes release rises coded are);
            numbers_len = numbers_len ∙ starts_last release rises coded are marks marked;
            starts_len = ap (λ (xs : List ℕ). length xs) starts_is ∙ omega (arith, marked.starts_len);
            starts = λ concept near.
                ap (λ (xs : List ℕ). get_or xs concept 0) starts_is
                ∙ starts_are release rises coded are marks marked concept near;
            each = rows_is ∙ ap (λ (xs : List Flagged). places_by
                (get_or marks.starts.items (length marks.starts.items - 1) 0)
                (map (λ (mark : Flagged). mark.number) xs)) marked.groups
                ∙ group_rows_are release rises coded are marks marked;
          }
        where
          smaller : (a b : ℕ) → a ≤ b → b < 2 ^ 31 → a < 2 ^ 31
          smaller a b le less = omega arith
