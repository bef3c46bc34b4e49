-- Columns that belong to lists by key: the cells of all listed items, one list after the other.
use Rattle.std.specs.Prelude.{ℕ, ◌+◌, ◌≡◌, ◌<◌, ◌^◌, List, length, map, slice_index_or, slice_range, take, vec_len}
use Rattle.std.specs.List.{concat}
use Rattle.postings.specs.Places.{places_by}
use Rattle.postings.specs.declared.columns.RowsByKey.{RowsByKey}
use Rattle.postings.specs.declared.groups.RowMarks.{RowMarks}

-- the part of the column `cells` that belongs to the list of `key`
abbrev pub cells_of : {X : Type 0} → List (List ℕ) → List X → ℕ → List X
cells_of lists cells key =
    slice_range cells (length (concat (take key lists))) (length (concat (take (key + 1) lists)))

-- each column has a cell for each listed row
pub record AreColumns (lists : RowsByKey) : Type 0 where
  -- the column of sources has a cell for each listed row
  pub sources : length lists.sources.items ≡ length (concat lists.rows)
  -- the column of other cells has a cell for each listed row
  pub others : length lists.others.items ≡ length (concat lists.rows)
  -- the column of groups has a cell for each listed row
  pub groups : length lists.groups.items ≡ length (concat lists.rows)

-- `column` has, in the order of `places`, the cell of `cells` at each of these places
abbrev pub IsColumn : {X : Type 0} → List X → List ℕ → List X → Type 0
IsColumn {X} cells places column =
    (default : X) → column ≡ map (λ place. slice_index_or cells place default) places

-- there is a key, another cell, a mark with the source and a mark with the group for each row
pub record AreOfOneLength (keys cells : List ℕ) (marks : RowMarks) : Type 0 where
  -- there are fewer than 2^32 rows
  pub few : length keys < 2 ^ 32
  -- there is another cell for each row
  pub others : length cells ≡ length keys
  -- there is a mark with the source for each row
  pub sources : vec_len marks.sources ≡ length keys
  -- there is a mark with the group for each row
  pub groups : vec_len marks.groups ≡ length keys

-- `lists` has the rows of each of `count` keys, with columns: `keys` has the key of each row,
-- `cells` its cell in the column `others`, and `marks` its source and group
pub record AreRowLists (count : ℕ) (keys cells : List ℕ) (marks : RowMarks) (lists : RowsByKey) :
    Type 0 where
  -- the list of each key has the numbers of the rows with this key
  pub rows : lists.rows ≡ places_by count keys
  -- the column of sources has the marks of the listed rows, list by list
  pub sources : IsColumn marks.sources.items (concat (places_by count keys)) lists.sources.items
  -- the column of other cells has the cells of the listed rows, list by list
  pub others : IsColumn cells (concat (places_by count keys)) lists.others.items
  -- the column of groups has the marks of the listed rows, list by list
  pub groups : IsColumn marks.groups.items (concat (places_by count keys)) lists.groups.items
