-- How the indexes store the attribute rows. For each row they store the place of its type, and the
-- row's place in the columns by type, which have its source, its value and its group. For a source
-- they store no list of rows: its rows are a slice of the list of all row numbers.
use Rattle.std.specs.Prelude.{ℕ, ◌+◌, ◌≡◌, ◌<◌, true, List, length, map, slice_index, slice_index_or, slice_range, take}
use Rattle.std.specs.List.{concat, range_with_len}
use Rattle.postings.specs.Columns.{Flagged}
use Rattle.postings.specs.declared.row_indexes.RowIndexes.{RowIndexes}
use Rattle.held_release.specs.declared.coded_rows.CodedRow.{CodedRow}

-- the mark at a place of a column
abbrev pub mark_at : List Flagged → ℕ → Flagged
mark_at marks place = slice_index_or marks place (record { number = 0; is_first = true })

-- the number of the group of row `n`
abbrev pub group_kept : RowIndexes → ℕ → ℕ
group_kept indexes n = (mark_at indexes.by_type.groups.items
    (slice_index indexes.places.items n)).number

-- the row with the number `n`, gathered from the columns; its group number is that of its group
abbrev pub row_kept : RowIndexes → ℕ → CodedRow
row_kept indexes n = record {
  source = (mark_at indexes.by_type.sources.items (slice_index indexes.places.items n)).number;
  type_place = slice_index indexes.type_places.items n;
  group = slice_index indexes.groups.numbers.items (group_kept indexes n);
  value = slice_index indexes.by_type.others.items (slice_index indexes.places.items n);
}

-- all rows, gathered from the columns, in the order of their numbers
abbrev pub rows_kept : RowIndexes → List CodedRow
rows_kept indexes = map (row_kept indexes) (range_with_len 0 (length indexes.type_places.items))

-- for each row its mark in the column of groups
abbrev pub groups_kept : RowIndexes → List Flagged
groups_kept indexes = map (mark_at indexes.by_type.groups.items) indexes.places.items

-- for each row its mark in the column of sources
abbrev pub sources_kept : RowIndexes → List Flagged
sources_kept indexes = map (mark_at indexes.by_type.sources.items) indexes.places.items

-- how many rows the groups with numbers below `unit` have
abbrev pub rows_ahead : RowIndexes → ℕ → ℕ
rows_ahead indexes unit = length (concat (take unit indexes.groups.rows))

-- the slice of the row numbers that belongs to the groups of `concept`
abbrev pub rows_between : RowIndexes → ℕ → List ℕ
rows_between indexes concept =
    let starts = indexes.groups.starts.items in
    slice_range indexes.row_numbers.items (rows_ahead indexes (slice_index starts concept))
    (rows_ahead indexes (slice_index starts (concept + 1)))

-- the indexes store the row with the number `n`: each of its cells exists
pub record IsKept (indexes : RowIndexes) (n : ℕ) : Type 0 where
  -- there is a place of the row's type
  pub type_place : n < length indexes.type_places.items
  -- there is a place of the row in the columns by type
  pub place : n < length indexes.places.items
  -- the column of sources has a cell at the row's place
  pub source : slice_index indexes.places.items n < length indexes.by_type.sources.items
  -- the column of values has a cell at the row's place
  pub value : slice_index indexes.places.items n < length indexes.by_type.others.items
  -- the column of groups has a cell at the row's place
  pub unit : slice_index indexes.places.items n < length indexes.by_type.groups.items
  -- there is a group number (or 0) for the row's group
  pub group : group_kept indexes n < length indexes.groups.numbers.items

-- rows whose marks have the same group have the same relationship group number
abbrev pub HaveOneNumber : List Flagged → List CodedRow → Type 0
HaveOneNumber marks rows =
    (m n : ℕ) (mark : Flagged) (row : CodedRow) → m < length rows → n < length rows
    → (slice_index_or marks m mark).number ≡ (slice_index_or marks n mark).number
    → (slice_index_or rows m row).group ≡ (slice_index_or rows n row).group

-- `numbers` has, for the group of each row, the relationship group number of the row
abbrev pub AreNumbersOf : List Flagged → List CodedRow → List ℕ → Type 0
AreNumbersOf marks rows numbers =
    (n : ℕ) (mark : Flagged) (row : CodedRow) → n < length rows
    → slice_index numbers (slice_index_or marks n mark).number ≡ (slice_index_or rows n row).group
