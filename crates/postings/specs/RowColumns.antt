-- What the columns of the rows of a type or of a value hold, and the cells of one row.
use Rattle.std.specs.Prelude.{ℕ, ◌≡◌, ◌<◌, length, slice_index}
use Rattle.postings.specs.Columns.{AreGroups, AreSources, AreTypes, AreValues}
use Rattle.postings.specs.Entries.{Entry, entries_with_type, entries_with_value}
use Rattle.postings.specs.Groups.{groups_in}
use Rattle.postings.specs.Indexed.{Indexed, types_of, value_at, values_of}
use Rattle.postings.specs.declared.index.RowCells.{RowCells}
use Rattle.postings.specs.declared.columns.TypeColumns.{TypeColumns}
use Rattle.postings.specs.declared.columns.ValueColumns.{ValueColumns}

-- `columns` has the sources, values and groups of the rows whose type is `id`
pub record AreTypeColumns (indexed : Indexed) (id : ℕ) (columns : TypeColumns) : Type 0 where
  -- the column of sources is that of the rows with the type
  pub sources : AreSources indexed.concepts (entries_with_type indexed.rows id) columns.sources.now
  -- the column of values is that of the rows with the type
  pub values : AreValues (values_of indexed) (entries_with_type indexed.rows id) columns.values.now
  -- the column of groups is that of the rows with the type
  pub groups : AreGroups (groups_in indexed) (entries_with_type indexed.rows id) columns.groups.now

-- `columns` has the sources, types and groups of the rows whose value is the concept with the
-- number `concept`
pub record AreValueColumns (indexed : Indexed) (concept : ℕ) (columns : ValueColumns) : Type 0 where
  -- the column of sources is that of the rows with the value
  pub sources :
      AreSources indexed.concepts
      (entries_with_value indexed.rows (slice_index indexed.concepts concept))
      columns.sources.now
  -- the column of types is that of the rows with the value
  pub types :
      AreTypes (types_of indexed.rows)
      (entries_with_value indexed.rows (slice_index indexed.concepts concept)) columns.types.now
  -- the column of groups is that of the rows with the value
  pub groups :
      AreGroups (groups_in indexed)
      (entries_with_value indexed.rows (slice_index indexed.concepts concept))
      columns.groups.now

-- `cells` has the type, the value and the flags of the row of `entry`
pub record AreRowCells (indexed : Indexed) (cells : RowCells) (entry : Entry) : Type 0 where
  -- the place of the type is below the number of types
  pub type_within : cells.type_place < length (types_of indexed.rows)
  -- the type at this place is the row's type
  pub type_is : slice_index (types_of indexed.rows) cells.type_place ≡ entry.row.type_id
  -- the value with the number `cells.value` is the row's value
  pub value_is : value_at (values_of indexed) cells.value ≡ entry.row.value
  -- the flag says whether the row is the first with its pair in its concept
  pub first_is : cells.is_first ≡ entry.is_first
  -- the flag says whether the row is the first with its pair in its group
  pub first_in_group_is : cells.is_first_in_group ≡ entry.is_first_in_group
