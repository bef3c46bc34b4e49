-- What the fields of a `Rows` hold.
use Rattle.release_rows.specs.inside.RowStore.{RowStore}
use Rattle.row_lists.specs.ListsRead.{listed_in}
use Rattle.release_rows.specs.declared.rows.Rows.{Rows}

-- the keys, the remaining limits and the lists that `rows` holds
abbrev pub kept_in : Rows → RowStore
kept_in rows = record { keyed = rows.keys; left = rows.left; listed = listed_in rows.lists }
