-- What the look-ups by type and by value find.
use Rattle.std.proofs.Common.{ℕ, ◌+◌, ◌==◌, ◌≡◌, ◌≤◌, ◌<◌, ◌^◌, ◌∙◌, [], false, List, Some, length, nat_eq, slice_index}
use Rattle.std.proofs.Common.{take}
use Rattle.std.proofs.Common.{refl, sym, ap, subst, arith}
use Rattle.std.specs.List.{concat, list_any, position, slice_range}
use Rattle.std.proofs.lemmas.List.{length-map, take_all}
use Rattle.std.proofs.lemmas.List.FromFn.{length-map-range_with_len}
use Rattle.release_model.specs.Release.{Attribute, Release}
use Rattle.number_lists.specs.KeyedLists.{list_of}
use Rattle.postings.specs.inside.Cells.{cells_of}
use Rattle.postings.specs.Columns.{AreGroups, AreSources, AreTypes, AreValues, Flagged}
use Rattle.postings.specs.Entries.{Entry, entries_with_type, entries_with_value}
use Rattle.postings.specs.Groups.{ConceptGroup, all_groups, groups_among, groups_in, is_in_group, rows_alone}
use Rattle.postings.specs.inside.IndexInside.{AreIndexed, indexed_in}
use Rattle.postings.specs.Indexed.{Indexed, rows_by_source, rows_by_type, rows_by_value, types_of, values_of}
use Rattle.postings.specs.inside.KeptRows.{rows_between}
use Rattle.postings.specs.Places.{places_where}
use Rattle.postings.specs.RowColumns.{AreTypeColumns, AreValueColumns}
use Rattle.postings.specs.inside.RowIndexes.{has_source, has_type, has_value, rows_by_sources}
use Rattle.postings.specs.declared.columns.RowsByKey.{RowsByKey}
use Rattle.postings.specs.declared.columns.TypeColumns.{TypeColumns}
use Rattle.postings.specs.declared.columns.ValueColumns.{ValueColumns}
use Rattle.postings.specs.declared.index.Indexes.TheInside.{Inside}
use Rattle.postings.proofs.CellLemmas.{span_list}
use Rattle.postings.proofs.IndexLemmas.{few_types, list_at, none_by_type, none_with_type, type_place_below, type_there}
use Rattle.postings.proofs.KeyLemmas.{groups_at}
use Rattle.postings.proofs.SpanLemmas.{blocks_rise}

module _ (inside : Inside) (are : AreIndexed inside) (now : Indexed) (same : indexed_in inside ≡ now) where
  abbrev rows : List Attribute
  rows = (indexed_in inside).rows

  abbrev types : List ℕ
  types = types_of rows

  abbrev by_type : RowsByKey
  by_type = inside.rows.by_type

  abbrev by_value : RowsByKey
  by_value = inside.rows.by_value

  -- ---- a type that rows have
  module _ (id place : ℕ) (found : position (nat_eq id) inside.rows.types.numbers ≡ Some place) where
    below : place < length types
    below = type_place_below inside.rows.types.numbers rows id place are.rows.coded.types found

    named : slice_index types place ≡ id
    named = type_there inside.rows.types.numbers rows id place are.rows.coded.types found

    -- the place of a type in the table is below 2^31
    pub few_places : place < 2 ^ 31
    few_places = omega (arith, below, few_types rows, are.rows.coded.few)

    listed : (place < length by_type.rows) × (list_of by_type.rows place ≡ places_where (has_type types place) rows)
    listed = list_at by_type.rows (λ key. places_where (has_type types key) rows) (length types) place
        are.rows.by_type.each below

    -- there is a list of rows at the place of each type in the table
    pub type_listed : place < length by_type.rows
    type_listed = listed.0

    -- the list at the place of the type `id` has the numbers of the rows with this type
    pub rows_with_type : list_of by_type.rows place ≡ rows_by_type now id
    rows_with_type =
        listed.1
        ∙ ap (λ (id : ℕ). places_where (λ (row : Attribute). row.type_id == id) rows) named
        ∙ ap (λ (indexed : Indexed). rows_by_type indexed id) same

    -- the columns at the place of the type `id` are those of the rows with this type
    pub columns_with_type : (columns : TypeColumns)
        → columns.sources.now ≡ cells_of by_type.rows by_type.sources.items place
        → columns.values.now ≡ cells_of by_type.rows by_type.others.items place
        → columns.groups.now ≡ cells_of by_type.rows by_type.groups.items place → AreTypeColumns now id columns
    columns_with_type columns sources values groups =
        subst (λ (indexed : Indexed). AreTypeColumns indexed id columns) same (record {
          sources = subst (λ (marks : List Flagged). AreSources inside.concepts.items (entries_with_type rows id) marks)
              (sym sources)
              (subst (λ (id : ℕ). AreSources inside.concepts.items (entries_with_type rows id)
              (cells_of by_type.rows by_type.sources.items place)) named (are.rows.by_type.sources place below));
          values = subst (λ (numbers : List ℕ). AreValues (values_of (indexed_in inside)) (entries_with_type rows id)
              numbers)
              (sym values)
              (subst (λ (id : ℕ). AreValues (values_of (indexed_in inside)) (entries_with_type rows id)
              (cells_of by_type.rows by_type.others.items place)) named (are.rows.by_type.others place below));
          groups = subst (λ (marks : List Flagged). AreGroups (groups_in (indexed_in inside))
              (entries_with_type rows id) marks) (sym groups)
              (subst (λ (id : ℕ). AreGroups (groups_in (indexed_in inside)) (entries_with_type rows id)
              (cells_of by_type.rows by_type.groups.items place)) named (are.rows.by_type.groups place below));
        })

  -- ---- a type that no row has
  module _ (id : ℕ) (missing : list_any (nat_eq id) inside.rows.types.numbers ≡ false) where
    none : list_any (nat_eq id) types ≡ false
    none = ap (λ (types : List ℕ). list_any (nat_eq id) types) (sym are.rows.coded.types) ∙ missing

    -- if `id` is not in the table of types, no row has this type
    pub no_rows_with_type : [] ≡ rows_by_type now id
    no_rows_with_type = sym (none_by_type rows id none) ∙ ap (λ (indexed : Indexed). rows_by_type indexed id) same

    -- if `id` is not in the table of types, empty columns are those of the rows with this type
    pub no_columns_with_type : (columns : TypeColumns) → columns.sources.now ≡ [] → columns.values.now ≡ []
        → columns.groups.now ≡ []
        → AreTypeColumns now id columns
    no_columns_with_type columns sources values groups =
        let no_entries = none_with_type rows id none in
        subst (λ (indexed : Indexed). AreTypeColumns indexed id columns) same (record {
          sources = subst (λ (marks : List Flagged). AreSources inside.concepts.items (entries_with_type rows id) marks)
              (sym sources)
              (subst (λ (entries : List Entry). AreSources inside.concepts.items entries []) (sym no_entries)
              (record { within = λ k d inside. absurd (omega (arith, inside)); sources = refl; firsts = refl }));
          values = subst (λ (numbers : List ℕ). AreValues (values_of (indexed_in inside)) (entries_with_type rows id)
              numbers)
              (sym values)
              (subst (λ (entries : List Entry). AreValues (values_of (indexed_in inside)) entries []) (sym no_entries)
              (record { within = λ k d inside. absurd (omega (arith, inside)); values = refl }));
          groups = subst (λ (marks : List Flagged). AreGroups (groups_in (indexed_in inside))
              (entries_with_type rows id) marks) (sym groups)
              (subst (λ (entries : List Entry). AreGroups (groups_in (indexed_in inside)) entries []) (sym no_entries)
              (record { groups = refl; firsts = refl }));
        })

  -- ---- a concept
  module _ (concept : ℕ) (inside_now : concept < length now.concepts) where
    near : concept < length inside.concepts.items
    near = subst (λ (n : ℕ). concept < n) (ap (λ (indexed : Indexed). length indexed.concepts) (sym same)) inside_now

    -- each concept has a list by value, which has the rows whose value it is
    with_value : (concept < length by_value.rows)
        × (list_of by_value.rows concept ≡ places_where (has_value inside.concepts.items concept) rows)
    with_value =
        list_at by_value.rows (λ key. places_where (has_value inside.concepts.items key) rows)
        (length inside.concepts.items) concept
        are.rows.by_value.each near

    -- there is a list of rows by value for each concept
    pub value_listed : concept < length by_value.rows
    value_listed = with_value.0

    -- the list of `concept` by value has the numbers of the rows whose value it is
    pub rows_with_value : list_of by_value.rows concept ≡ rows_by_value now concept
    rows_with_value = with_value.1 ∙ ap (λ (indexed : Indexed). rows_by_value indexed concept) same

    -- the columns of `concept` by value are those of the rows whose value it is
    pub columns_with_value : (columns : ValueColumns)
        → columns.sources.now ≡ cells_of by_value.rows by_value.sources.items concept
        → columns.types.now ≡ cells_of by_value.rows by_value.others.items concept
        → columns.groups.now ≡ cells_of by_value.rows by_value.groups.items concept
        → AreValueColumns now concept columns
    columns_with_value columns sources places groups =
        let id = slice_index inside.concepts.items concept in
        subst (λ (indexed : Indexed). AreValueColumns indexed concept columns) same (record {
          sources = subst (λ (marks : List Flagged). AreSources inside.concepts.items (entries_with_value rows id)
              marks) (sym sources)
              (are.rows.by_value.sources concept near);
          types = subst (λ (places : List ℕ). AreTypes types (entries_with_value rows id) places) (sym places)
              (are.rows.by_value.others concept near);
          groups = subst (λ (marks : List Flagged). AreGroups (groups_in (indexed_in inside))
              (entries_with_value rows id) marks) (sym groups)
              (are.rows.by_value.groups concept near);
        })

    -- the numbers of the rows of each source
    abbrev sources : List (List ℕ)
    sources = rows_by_sources inside.concepts.items rows

    abbrev starts : List ℕ
    starts = inside.rows.groups.starts.items

    abbrev alone : Release
    alone = rows_alone inside.concepts.items rows

    many_groups : length inside.rows.groups.rows ≡ length (all_groups alone)
    many_groups = ap (λ (lists : List (List ℕ)). length lists) are.rows.groups.each
        ∙ length-map (all_groups alone) (λ (group : ConceptGroup). places_where (is_in_group group) rows)

    all_told : length (groups_among alone (take (length inside.concepts.items) inside.concepts.items))
        ≡ length (all_groups alone)
    all_told = ap (λ (concepts : List ℕ). length (groups_among alone concepts))
        (take_all (length inside.concepts.items) inside.concepts.items (omega arith))

    -- the starts of groups have an entry for `concept` and one after it
    pub starts_within : concept + 1 < length starts
    starts_within = omega (arith, near, are.rows.groups.starts_len)

    -- the first group of a concept is at most the first group of the next concept
    pub starts_rise : slice_index starts concept ≤ slice_index starts (concept + 1)
    starts_rise =
        omega (
          arith,
          are.rows.groups.starts concept (omega (arith, near)),
          are.rows.groups.starts (concept + 1) (omega (arith, near)),
          blocks_rise (groups_at alone) inside.concepts.items concept (concept + 1) (omega arith),
        )

    -- the groups of a concept end at most at the number of all groups
    pub starts_end : slice_index starts (concept + 1) ≤ length inside.rows.groups.rows
    starts_end =
        omega (
          arith,
          many_groups,
          are.rows.groups.starts (concept + 1) (omega (arith, near)),
          blocks_rise (groups_at alone) inside.concepts.items (concept + 1) (length inside.concepts.items)
              (omega (arith, near)),
          all_told,
        )

    -- the list of row numbers is as long as the lists of rows of all groups together
    pub long_numbers : length inside.rows.row_numbers.items ≡ length (concat inside.rows.groups.rows)
    long_numbers =
        let count : ℕ = length inside.concepts.items in
        let last : slice_index starts count ≡ length inside.rows.groups.rows =
        omega (arith, are.rows.groups.starts count (omega arith), all_told, many_groups) in
        ap (λ (xs : List ℕ). length xs) are.rows.row_numbers
        ∙ ap (λ (lists : List (List ℕ)). length (concat lists)) (sym (take_all count sources
        (omega (
          arith,
          length-map-range_with_len
              (λ concept. places_where (has_source inside.concepts.items concept) rows) 0 count,
        ))))
        ∙ sym (are.rows.ahead count (omega arith))
        ∙ ap (λ (n : ℕ). length (concat (take n inside.rows.groups.rows))) last
        ∙ ap (λ (lists : List (List ℕ)). length (concat lists))
        (take_all (length inside.rows.groups.rows) inside.rows.groups.rows (omega arith))

    -- the slice of the row numbers that belongs to the groups of `concept` has the numbers of the concept's rows
    pub rows_with_source : rows_between inside.rows concept ≡ rows_by_source now concept
    rows_with_source =
        let there = list_at sources (λ key. places_where (has_source inside.concepts.items key) rows)
        (length inside.concepts.items)
        concept refl near in
        (λ i. slice_range (are.rows.row_numbers i) (are.rows.ahead concept (omega (arith, near)) i)
        (are.rows.ahead (concept + 1) (omega (arith, near)) i))
        ∙ span_list sources concept there.0
        ∙ there.1
        ∙ ap (λ (indexed : Indexed). rows_by_source indexed concept) same
