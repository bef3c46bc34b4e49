-- The rows that the indexes keep are the rows by numbers.
use Rattle.std.proofs.Common.{ℕ, ℤ, ◌+◌, ◌-◌, ◌==◌, ◌≡◌, ◌≢◌, ◌<◌, ◌∙◌, [], ⊎_elim, Bool, true, false, cond, List, Some}
use Rattle.std.proofs.Common.{length, get_or, map, set, refl, sym, ap, subst, arith, zero-add}
use Rattle.std.specs.Prelude.{All, slice_get, slice_index, slice_index_or}
use Rattle.std.specs.List.{concat, range_with_len}
use Rattle.std.specs.List.Sorted.{IsStrictlyIncreasing}
use Rattle.std.proofs.lemmas.Bool.{cases_eq, eqb-true}
use Rattle.std.proofs.lemmas.List.{get_or_default, get_or-map, get_or-set_other, get_or-set_same, length-map}
use Rattle.std.proofs.lemmas.List.FromFn.{get_or-map-range_with_len, length-map-range_with_len}
use Rattle.std.proofs.lemmas.Option.{slice_get_within}
use Rattle.release_model.specs.Release.{Attribute, Release, Value}
use Rattle.held_release.specs.AttributesBySource.{attributes_by_source}
use Rattle.number_lists.proofs.ListLemmas.{same_maps}
use Rattle.held_release.specs.CodedRows.{AreCoded, AreCodedRows, IsCoded, row_coded, values_among, values_in}
use Rattle.postings.specs.inside.Coded.{AreRowMarks, has_same_pair, of_source}
use Rattle.postings.specs.inside.Coded.{source_marks}
use Rattle.postings.specs.inside.Cells.{AreRowLists}
use Rattle.postings.specs.Columns.{AreGroups, AreSources, Flagged}
use Rattle.postings.specs.Entries.{entries_of}
use Rattle.postings.specs.Groups.{ConceptGroup, GroupKey, all_groups, group_of, key_of, numbered, rows_alone, ungrouped}
use Rattle.postings.specs.inside.KeptRows.{AreNumbersOf, HaveOneNumber, IsKept, groups_kept, mark_at, row_kept}
use Rattle.postings.specs.inside.KeptRows.{rows_kept, sources_kept, group_kept}
use Rattle.postings.specs.Places.{places_by}
use Rattle.held_release.specs.CodedRows.{values_among, values_in}
use Rattle.held_release.specs.RowValues.{AreTablesOf}
use Rattle.postings.specs.declared.groups.RowMarks.{RowMarks}
use Rattle.postings.specs.declared.row_indexes.RowIndexes.{RowIndexes}
use Rattle.held_release.specs.declared.coded_rows.CodedRow.{CodedRow}
use Rattle.held_release.specs.declared.coded_rows.CodedRows.{CodedRows}
use Rattle.held_release.specs.declared.values.Values.{Values}
use Rattle.number_lists.proofs.BlockLemmas.{blocks-same, items_by_place, map-flat_map}
use Rattle.postings.proofs.CellLemmas.{long_cells}
use Rattle.postings.proofs.EntryLemmas.{numbers_of_marks}
use Rattle.postings.proofs.IndexLemmas.{group_at}
use Rattle.postings.proofs.InverseLemmas.{cell_back, column_back, place_within}
use Rattle.postings.proofs.RowIndexLemmas.{groups_are, is_sorted, length-codes, length-group_marks, length-source_marks}
use Rattle.postings.proofs.RowIndexLemmas.{sources_are, starts_last}

-- ---- the numbers of groups, row by row
-- `numbers` has for the group of each of the first `bound` rows the group number of the row
abbrev pub AreNumbered : List Flagged → List CodedRow → ℕ → List ℕ → Type 0
AreNumbered marks rows bound numbers =
    (n : ℕ) (mark : Flagged) (row : CodedRow) → n < bound
    → slice_index numbers (slice_index_or marks n mark).number ≡ (slice_index_or rows n row).group

-- if `numbers` has the right group numbers for the groups of the first `k` rows, then setting the entry of row `k`'s
-- group to row `k`'s group number makes it right for the first `k + 1`
pub numbered_more : (marks : List Flagged) (rows : List CodedRow) (numbers : List ℕ) (k : ℕ) (some : Flagged)
    (none : CodedRow)
    → k < length rows → length marks ≡ length rows → HaveOneNumber marks rows
    → (get_or marks k some).number < length numbers
    → AreNumbered marks rows k numbers
    → AreNumbered marks rows (k + 1) (set numbers (get_or marks k some).number (get_or rows k none).group)
numbered_more marks rows numbers k some none within long one room so_far n mark row below =
    ⊎_elim own other (cases_eq (get_or marks n mark).number unit)
  where
    unit : ℕ
    unit = (get_or marks k some).number

    group : ℕ
    group = (get_or rows k none).group

    now : get_or marks k some ≡ get_or marks k mark
    now = get_or_default marks k some mark (omega (arith, within, long))

    own : (get_or marks n mark).number ≡ unit → get_or (set numbers unit group) (get_or marks n mark).number 0
        ≡ (get_or rows n row).group
    own same =
        ap (λ (u : ℕ). get_or (set numbers unit group) u 0) same
        ∙ get_or-set_same numbers unit group 0 room
        ∙ ap (λ (found : CodedRow). found.group) (get_or_default rows k none row within)
        ∙ sym (one n k mark row (omega (arith, below, within)) within (same
        ∙ ap (λ (found : Flagged). found.number) now))

    other : (get_or marks n mark).number ≢ unit
        → get_or (set numbers unit group) (get_or marks n mark).number 0 ≡ (get_or rows n row).group
    other apart =
        get_or-set_other numbers unit (get_or marks n mark).number group 0 apart
        ∙ so_far n mark row (⊎_elim
        (λ (same : n ≡ k). absurd (apart (ap (λ (m : ℕ). (get_or marks m mark).number) same
        ∙ ap (λ (found : Flagged). found.number) (sym now))))
        (λ (before : n ≢ k). omega (arith, below, before)) (cases_eq n k))

-- ---- the number of a row's group by the group
key_number : GroupKey → ℕ
key_number (numbered number) = number
key_number (ungrouped pair) = 0

number_of_own : (row : Attribute) → key_number (key_of row) ≡ row.group
unfolding key_number
number_of_own row = by (row.group == 0) refl
  where
    by : (b : Bool) → (row.group == 0) ≡ b
        → key_number (cond b (ungrouped (record { type_id = row.type_id; value = row.value })) (numbered row.group))
        ≡ row.group
    by true is = sym (eqb-true row.group 0 is)
    by false is = refl

same_number : (row other : Attribute) → group_of row ≡ group_of other → row.group ≡ other.group
same_number row other same =
    sym (number_of_own row) ∙ ap (λ (group : ConceptGroup). key_number group.key) same ∙ number_of_own other

-- ---- the row with a number
-- there are as many kept rows as places of types
pub length-kept : (indexes : RowIndexes) → length (rows_kept indexes) ≡ length indexes.type_places.items
length-kept indexes = length-map-range_with_len (row_kept indexes) 0 (length indexes.type_places.items)

-- item `n` of the kept rows is the kept row with the number `n`
pub kept_at : (indexes : RowIndexes) (n : ℕ) (d : CodedRow) → n < length indexes.type_places.items
    → get_or (rows_kept indexes) n d ≡ row_kept indexes n
kept_at indexes n d below =
    get_or-map-range_with_len (row_kept indexes) 0 (length indexes.type_places.items) n n d below (zero-add n)

-- coded rows encode the same attribute rows by tables with the same values
same_tables : (concepts : List ℕ) (rows : List Attribute) (types : List ℕ) (copy own : Values)
    (coded : List CodedRow)
    → copy.decimals.items ≡ own.decimals.items → copy.texts ≡ own.texts
    → AreCoded concepts rows types own coded
    → AreCoded concepts rows types copy coded
same_tables concepts rows types copy own coded decimals texts are =
    let same : values_in concepts copy ≡ values_in concepts own =
    λ i. values_among concepts (decimals i) (texts i) in
    record {
      stand_for = (λ i. map (row_coded concepts types (same i)) coded) ∙ are.stand_for;
      within = subst (λ (values : List Value). All (IsCoded concepts types values) coded) (sym same) are.within;
      types = are.types;
      tables = subst (λ (found : List ℤ). AreTablesOf rows found copy.texts) (sym decimals)
          (subst (AreTablesOf rows own.decimals.items) (sym texts) are.tables);
      few = are.few;
      few_values = omega (arith, ap (λ (values : List Value). length values) same, are.few_values);
    }

-- ---- the rows by numbers
module _ (release : Release) (rises : IsStrictlyIncreasing release.concepts) (coded : CodedRows)
    (are : AreCodedRows release.concepts (attributes_by_source release) coded) (marks : RowMarks)
    (marked : AreRowMarks (length release.concepts) coded.rows.items marks) where
  abbrev rows : List Attribute
  rows = attributes_by_source release

  abbrev codes : List CodedRow
  codes = coded.rows.items

  abbrev groups : List ConceptGroup
  groups = all_groups (rows_alone release.concepts rows)

  a_mark : Flagged
  a_mark = record { number = 0; is_first = true }

  a_row : CodedRow
  a_row = record { source = 0; type_place = 0; group = 0; value = 0 }

  groups_told : AreGroups groups (entries_of rows) marks.groups.items
  groups_told = subst (AreGroups groups (entries_of rows)) (sym marked.groups) (groups_are release rises coded are)

  -- there is one mark with a group for each coded row
  pub many_groups : length marks.groups.items ≡ length codes
  many_groups = ap (λ (xs : List Flagged). length xs) marked.groups ∙ length-group_marks release rises coded are

  many_sources : length marks.sources.items ≡ length codes
  many_sources = ap (λ (xs : List Flagged). length xs) marked.sources ∙ length-source_marks release rises coded are

  -- the marks by source have the sources of the rows
  sources_marked : map (λ (mark : Flagged). mark.number) marks.sources.items
      ≡ map (λ (row : CodedRow). row.source) codes
  sources_marked =
      ap (map (λ (mark : Flagged). mark.number)) marked.sources
      ∙ map-flat_map (λ (mark : Flagged). mark.number) (λ source. source_marks (of_source codes source))
      (range_with_len 0 (length release.concepts))
      ∙ blocks-same (λ source. map (λ (mark : Flagged). mark.number) (source_marks (of_source codes source)))
      (λ source. map (λ (row : CodedRow). row.source) (of_source codes source)) 0 (length release.concepts)
      (λ k below. numbers_of_marks has_same_pair (λ (row : CodedRow). row.source) [] (of_source codes k))
      ∙ sym (map-flat_map (λ (row : CodedRow). row.source) (of_source codes)
      (range_with_len 0 (length release.concepts)))
      ∙ ap (map (λ (row : CodedRow). row.source)) (sym (is_sorted release rises coded are))

  -- the mark of row `n` has the number of that row's group
  pub group_marked : (n : ℕ) (mark : Flagged) (row : Attribute) → n < length codes
      → slice_get groups (get_or marks.groups.items n mark).number ≡ Some (group_of (get_or rows n row))
  group_marked n mark row below =
      group_at groups rows marks.groups.items groups_told n row mark
      (omega (arith, below, length-codes release rises coded are))

  -- the number of each mark with a group is below the last of the starts, which is the number of groups
  pub groups_below : All (λ (mark : Flagged). mark.number < get_or marks.starts.items (length marks.starts.items - 1) 0)
      marks.groups.items
  groups_below n mark inside =
      let row : Attribute = row_coded release.concepts coded.types.items (values_in release.concepts coded.values)
      a_row in
      omega (
        arith,
        slice_get_within groups (get_or marks.groups.items n mark).number (group_of (get_or rows n row))
            (group_marked n mark row (omega (arith, inside, many_groups))),
        starts_last release rises coded are marks marked,
      )

  -- all rows of one group have the same group number
  pub one_number : HaveOneNumber marks.groups.items codes
  one_number m n mark row near far same =
      let stands : CodedRow → Attribute =
      row_coded release.concepts coded.types.items (values_in release.concepts coded.values) in
      let at : (k : ℕ) → k < length codes → get_or rows k (stands row) ≡ stands (get_or codes k row) =
      λ k below. ap (λ (xs : List Attribute). get_or xs k (stands row)) (sym are.stand_for)
      ∙ get_or-map stands codes k row (stands row) below in
      let alike : Some (group_of (get_or rows m (stands row))) ≡ Some (group_of (get_or rows n (stands row))) =
      sym (group_marked m mark (stands row) near)
      ∙ ap (slice_get groups) same
      ∙ group_marked n mark (stands row) far in
      let one : group_of (get_or rows m (stands row)) ≡ group_of (get_or rows n (stands row)) = cc in
      ap (λ (found : Attribute). found.group) (sym (at m near))
      ∙ same_number (get_or rows m (stands row)) (get_or rows n (stands row)) one
      ∙ ap (λ (found : Attribute). found.group) (at n far)

  -- the indexes with the columns by type and the places among them
  module _ (indexes : RowIndexes) (count : ℕ)
      (type_places : indexes.type_places.items ≡ map (λ (row : CodedRow). row.type_place) codes)
      (by_type : AreRowLists count indexes.type_places.items (map (λ (row : CodedRow). row.value) codes) marks
      indexes.by_type)
      (places_len : length indexes.places.items ≡ length codes)
      (found : (n : ℕ) → n < length codes → slice_get (concat indexes.by_type.rows) (slice_index indexes.places.items n)
      ≡ Some n)
      (numbers_len : length indexes.groups.numbers.items ≡ length groups)
      (numbers : AreNumbersOf marks.groups.items codes indexes.groups.numbers.items) where
    abbrev flat : List ℕ
    flat = concat indexes.by_type.rows

    follows : {X : Type 0} (cells column : List X)
        → ((d : X) → column ≡ map (λ place. slice_index_or cells place d)
        (concat (places_by count indexes.type_places.items)))
        → (d : X) → column ≡ map (λ place. slice_index_or cells place d) flat
    follows cells column told d =
        told d ∙ ap (λ (all : List (List ℕ)). map (λ place. get_or cells place d) (concat all)) (sym by_type.rows)

    many_values : length (map (λ (row : CodedRow). row.value) codes) ≡ length codes
    many_values = length-map codes (λ (row : CodedRow). row.value)

    long : length indexes.type_places.items ≡ length codes
    long = ap (λ (xs : List ℕ). length xs) type_places ∙ length-map codes (λ (row : CodedRow). row.type_place)

    -- each row has a cell in a column by type
    in_column : {X : Type 0} (cells column : List X)
        → ((d : X) → column ≡ map (λ place. slice_index_or cells place d)
        (concat (places_by count indexes.type_places.items)))
        → (d : X) (n : ℕ) → n < length codes → get_or indexes.places.items n 0 < length column
    in_column cells column told d n below =
        omega (
          arith,
          place_within flat indexes.places.items (length codes) places_len found n below,
          long_cells indexes.by_type.rows cells column (follows cells column told) d,
        )

    -- the kept row with the number `n` is row `n` of the rows by numbers
    row_is : (n : ℕ) → n < length codes → row_kept indexes n ≡ get_or codes n a_row
    unfolding a_mark
    row_is n below =
        let source : (mark_at indexes.by_type.sources.items (get_or indexes.places.items n 0)).number
        ≡ (get_or codes n a_row).source =
        ap (λ (mark : Flagged). mark.number)
        (cell_back flat indexes.places.items (length codes) places_len found marks.sources.items
        indexes.by_type.sources.items many_sources
        (follows marks.sources.items indexes.by_type.sources.items by_type.sources) n below a_mark)
        ∙ sym (get_or-map (λ (mark : Flagged). mark.number) marks.sources.items n a_mark 0
        (omega (arith, below, many_sources)))
        ∙ ap (λ (xs : List ℕ). get_or xs n 0) sources_marked
        ∙ get_or-map (λ (row : CodedRow). row.source) codes n a_row 0 below in
        let type_place : get_or indexes.type_places.items n 0 ≡ (get_or codes n a_row).type_place =
        ap (λ (xs : List ℕ). get_or xs n 0) type_places
        ∙ get_or-map (λ (row : CodedRow). row.type_place) codes n a_row 0 below in
        let group : get_or indexes.groups.numbers.items (group_kept indexes n) 0 ≡ (get_or codes n a_row).group =
        ap (λ (u : ℕ). get_or indexes.groups.numbers.items u 0) (group_is n below) ∙ numbers n a_mark a_row below in
        let value : get_or indexes.by_type.others.items (get_or indexes.places.items n 0) 0
        ≡ (get_or codes n a_row).value =
        cell_back flat indexes.places.items (length codes) places_len found (map (λ (row : CodedRow). row.value) codes)
        indexes.by_type.others.items many_values
        (follows (map (λ (row : CodedRow). row.value) codes) indexes.by_type.others.items by_type.others) n below 0
        ∙ get_or-map (λ (row : CodedRow). row.value) codes n a_row 0 below in
        λ i. record { source = source i; type_place = type_place i; group = group i; value = value i }
      where
        group_is : (n : ℕ) → n < length codes → group_kept indexes n ≡ (get_or marks.groups.items n a_mark).number
        group_is n below =
            ap (λ (mark : Flagged). mark.number)
            (cell_back flat indexes.places.items (length codes) places_len found marks.groups.items
            indexes.by_type.groups.items many_groups
            (follows marks.groups.items indexes.by_type.groups.items by_type.groups) n below a_mark)

    -- the kept rows are the coded rows
    pub rows_are : rows_kept indexes ≡ codes
    rows_are =
        ap (λ (n : ℕ). map (row_kept indexes) (range_with_len 0 n)) long
        ∙ same_maps (row_kept indexes) (λ n. get_or codes n a_row) 0 (length codes)
        (λ n from below. row_is n (omega (arith, below)))
        ∙ sym (items_by_place codes a_row)

    -- the kept marks of groups are the marks of the rows with their groups
    marks_are : groups_kept indexes ≡ marks.groups.items
    unfolding a_mark
    marks_are = column_back flat indexes.places.items (length codes) places_len found marks.groups.items
        indexes.by_type.groups.items
        many_groups (follows marks.groups.items indexes.by_type.groups.items by_type.groups) a_mark

    -- the kept marks of groups are a column of groups for the attribute rows
    pub group_numbers_are : AreGroups groups (entries_of rows) (groups_kept indexes)
    group_numbers_are = subst (AreGroups groups (entries_of rows)) (sym marks_are) groups_told

    -- the kept marks of sources are the marks of the rows with their sources
    sources_marks_are : sources_kept indexes ≡ marks.sources.items
    unfolding a_mark
    sources_marks_are = column_back flat indexes.places.items (length codes) places_len found marks.sources.items
        indexes.by_type.sources.items
        many_sources (follows marks.sources.items indexes.by_type.sources.items by_type.sources) a_mark

    -- the kept marks of sources are a column of sources for the attribute rows
    pub marked_are : AreSources release.concepts (entries_of rows) (sources_kept indexes)
    marked_are = subst (AreSources release.concepts (entries_of rows)) (sym (sources_marks_are ∙ marked.sources))
        (sources_are release rises coded are)

    -- the kept rows, with their tables of types and values, encode the attribute rows
    pub coded_kept : indexes.types.numbers ≡ coded.types.items
        → indexes.values.decimals.items ≡ coded.values.decimals.items
        → indexes.values.texts ≡ coded.values.texts
        → AreCoded release.concepts rows indexes.types.numbers indexes.values (rows_kept indexes)
    coded_kept types decimals texts =
        subst (λ (found : List ℕ). AreCoded release.concepts rows found indexes.values (rows_kept indexes))
        (sym types)
        (same_tables release.concepts rows coded.types.items indexes.values coded.values (rows_kept indexes) decimals
        texts
        (subst (λ (found : List CodedRow). AreCoded release.concepts rows coded.types.items coded.values found)
        (sym rows_are) are))

    -- the indexes keep each row: for each `n` below the number of rows, `IsKept` holds
    pub each_kept : (n : ℕ) → n < length rows → IsKept indexes n
    unfolding a_mark
    each_kept n within =
        let below : n < length codes = omega (arith, within, length-codes release rises coded are) in
        let row : Attribute = row_coded release.concepts coded.types.items (values_in release.concepts coded.values)
        a_row in
        record {
          type_place = omega (arith, below, long);
          place = omega (arith, below, places_len);
          source = in_column marks.sources.items indexes.by_type.sources.items by_type.sources a_mark n below;
          value = in_column (map (λ (row : CodedRow). row.value) codes) indexes.by_type.others.items by_type.others 0 n
              below;
          unit = in_column marks.groups.items indexes.by_type.groups.items by_type.groups a_mark n below;
          group = omega (
            arith,
            numbers_len,
            slice_get_within groups (group_kept indexes n) (group_of (get_or rows n row))
                (ap (λ (mark : Flagged). slice_get groups mark.number)
                (cell_back flat indexes.places.items (length codes) places_len found
                marks.groups.items indexes.by_type.groups.items many_groups
                (follows marks.groups.items indexes.by_type.groups.items by_type.groups) n below a_mark)
                ∙ group_marked n a_mark row below),
          );
        }
