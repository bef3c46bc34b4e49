-- What the indexes of attribute rows hold.
use Rattle.std.specs.Prelude.{ℕ, ◌+◌, ◌==◌, ◌≡◌, ◌≤◌, ◌<◌, ◌^◌, Bool, List, length, map, slice_index}
use Rattle.std.specs.Prelude.{take}
use Rattle.std.specs.List.{concat, range_with_len}
use Rattle.release_model.specs.Pairs.{value_eq}
use Rattle.release_model.specs.Release.{Attribute, Value, concept_value}
use Rattle.held_release.specs.CodedRows.{AreCoded}
use Rattle.postings.specs.inside.Cells.{AreColumns, cells_of}
use Rattle.postings.specs.Columns.{AreGroups, AreSources, AreTypes, AreValues}
use Rattle.postings.specs.Entries.{Entry, entries_of, entries_where}
use Rattle.postings.specs.Groups.{all_groups, groups_among, is_in_group, rows_alone}
use Rattle.postings.specs.Indexed.{types_of}
use Rattle.postings.specs.inside.KeptRows.{IsKept, groups_kept, rows_ahead, rows_kept, sources_kept}
use Rattle.postings.specs.Places.{places_where}
use Rattle.held_release.specs.CodedRows.{values_in}
use Rattle.postings.specs.declared.columns.RowsByKey.{RowsByKey}
use Rattle.postings.specs.declared.row_indexes.GroupLists.{GroupLists}
use Rattle.postings.specs.declared.row_indexes.RowIndexes.{RowIndexes}

-- `lists` has, for each of `count` keys, the rows that pass the test of the key, with their
-- columns; `AreOthers` says what the column `others` has
pub record AreListsBy (concepts : List ℕ) (rows : List Attribute) (count : ℕ) (test : ℕ → Attribute
    → Bool)
    (AreOthers : List Entry → List ℕ → Type 0) (lists : RowsByKey) : Type 0 where
  -- each column has a cell for each listed row
  pub long : AreColumns lists
  -- the list of each key has the numbers of the rows that pass its test
  pub each : lists.rows ≡ map (λ key. places_where (test key) rows) (range_with_len 0 count)
  -- the column of sources has, for each key, the sources of these rows
  pub sources : (key : ℕ) → key < count
      → AreSources concepts (entries_where (test key) rows)
      (cells_of lists.rows lists.sources.items key)
  -- the column `others` has, for each key, the other cells of these rows
  pub others : (key : ℕ) → key < count
      → AreOthers (entries_where (test key) rows) (cells_of lists.rows lists.others.items key)
  -- the column of groups has, for each key, the groups of these rows
  pub groups : (key : ℕ) → key < count
      → AreGroups (all_groups (rows_alone concepts rows)) (entries_where (test key) rows)
      (cells_of lists.rows lists.groups.items key)

-- whether a row has the type at `place` in `types`
abbrev pub has_type : List ℕ → ℕ → Attribute → Bool
has_type types place row = row.type_id == slice_index types place

-- whether a row has the concept with the number `concept` as its value
abbrev pub has_value : List ℕ → ℕ → Attribute → Bool
has_value concepts concept row = value_eq row.value (concept_value (slice_index concepts concept))

-- whether a row has the concept with the number `concept` as its source
abbrev pub has_source : List ℕ → ℕ → Attribute → Bool
has_source concepts concept row = row.source == slice_index concepts concept

-- for each concept, the numbers of the rows with this concept as source
abbrev pub rows_by_sources : List ℕ → List Attribute → List (List ℕ)
rows_by_sources concepts rows =
    map (λ concept. places_where (has_source concepts concept) rows)
    (range_with_len 0 (length concepts))

-- `lists` has, for each type, its rows with columns of sources, values and groups
abbrev pub AreByType : List ℕ → List Value → List Attribute → RowsByKey → Type 0
AreByType concepts values rows lists =
    AreListsBy concepts rows (length (types_of rows)) (has_type (types_of rows)) (AreValues values)
    lists

-- `lists` has, for each concept, the rows with this value, with columns of sources, types and
-- groups
abbrev pub AreByValue : List ℕ → List Attribute → RowsByKey → Type 0
AreByValue concepts rows lists =
    AreListsBy concepts rows (length concepts) (has_value concepts) (AreTypes (types_of rows)) lists

-- `lists` has the groups of `rows`: their group numbers, the first group of each concept, and the
-- rows of each group
pub record AreGroupLists (concepts : List ℕ) (rows : List Attribute) (lists : GroupLists) : Type 0
  where
    -- there are fewer than 2^31 groups
    pub few : length (all_groups (rows_alone concepts rows)) < 2 ^ 31
    -- there is a group number (or 0) for each group
    pub numbers_len : length lists.numbers.items ≡ length (all_groups (rows_alone concepts rows))
    -- there is a start for each concept, and one at the end
    pub starts_len : length lists.starts.items ≡ length concepts + 1
    -- the start of a concept is the number of groups of the concepts before it
    pub starts : (concept : ℕ) → concept ≤ length concepts
        → slice_index lists.starts.items concept
        ≡ length (groups_among (rows_alone concepts rows) (take concept concepts))
    -- the list of each group has the numbers of its rows
    pub each : lists.rows ≡ map (λ group. places_where (is_in_group group) rows)
        (all_groups (rows_alone concepts rows))

-- `indexes` are the indexes of the attribute rows `rows`, which are ordered by source, of
-- `concepts`
pub record AreRowIndexes (concepts : List ℕ) (rows : List Attribute) (indexes : RowIndexes) : Type 0
  where
    -- the stored rows, with their tables, encode the attribute rows
    pub coded : AreCoded concepts rows indexes.types.numbers indexes.values (rows_kept indexes)
    -- the list of type identifiers is the table of types
    pub ids : indexes.types.ids.items ≡ indexes.types.numbers
    -- the indexes store each row
    pub kept : (n : ℕ) → n < length rows → IsKept indexes n
    -- the stored marks of groups are a column of groups for the rows
    pub units : AreGroups (all_groups (rows_alone concepts rows)) (entries_of rows)
        (groups_kept indexes)
    -- the stored marks of sources are a column of sources for the rows
    pub marked : AreSources concepts (entries_of rows) (sources_kept indexes)
    -- the list of row numbers has the rows of each source, one source after the other
    pub row_numbers : indexes.row_numbers.items ≡ concat (rows_by_sources concepts rows)
    -- the groups of the concepts before `concept` have together as many rows as these concepts
    pub ahead : (concept : ℕ) → concept ≤ length concepts
        → rows_ahead indexes (slice_index indexes.groups.starts.items concept)
        ≡ length (concat (take concept (rows_by_sources concepts rows)))
    -- the lists by type are right for the rows
    pub by_type : AreByType concepts (values_in concepts indexes.values) rows indexes.by_type
    -- the lists by value are right for the rows
    pub by_value : AreByValue concepts rows indexes.by_value
    -- the lists by group are right for the rows
    pub groups : AreGroupLists concepts rows indexes.groups
