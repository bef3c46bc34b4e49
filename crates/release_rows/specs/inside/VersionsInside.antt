-- The versions and the table that the fields of `VersionRows` and `Versions` hold, and the
-- invariants of these fields.
use Rattle.std.specs.Prelude.{◌≡◌, ◌≤◌, ◌<◌, ℕ, ◌/◌, ◌^◌, List, All, length, map, None}
use Rattle.std.specs.List.Sorted.{IsStrictlyIncreasing}
use Rattle.rf2_rows.specs.Rows.{row_fault}
use Rattle.release_rows.specs.inside.KeyedRows.{KeyedRow}
use Rattle.row_lists.specs.Spans.{IsSpanOf, text_at}
use Rattle.release_rows.specs.inside.VersionTable.{VersionTable, Version}
use Rattle.release_rows.specs.declared.versions.NotedRow.{NotedRow}
use Rattle.release_rows.specs.declared.versions.VersionRow.{VersionRow}
use Rattle.release_rows.specs.declared.versions.VersionRows.TheInside.{Inside as RowsInside}
use Rattle.release_rows.specs.declared.versions.Versions.TheInside.{Inside}

-- the row with key that a `NotedRow` of the program means
abbrev pub noted : NotedRow → KeyedRow
noted row = record { key = row.key; time = row.time; kind = row.kind; text = row.text.now }

-- the version that a stored row means; `lines` is the buffer with its line
abbrev pub version_in : List ℕ → VersionRow → Version
version_in lines row = record {
  code = row.code;
  place = row.place;
  kind = row.kind;
  text = text_at lines row.line;
}

-- the versions that `inside` holds
abbrev pub versions_in : RowsInside → List Version
versions_in inside = map (version_in inside.lines.items) inside.rows.items

-- the line of a version is within the buffer and is a row of its kind
pub record IsLineOf (lines : List ℕ) (row : VersionRow) : Type 0 where
  -- the line is within the buffer
  pub placed : IsSpanOf lines row.line
  -- the line is a row of its kind without a fault
  pub accepted : row_fault row.kind (text_at lines row.line) ≡ None

-- the line of each version is within the buffer and is a row of its kind
abbrev pub AreLines : RowsInside → Type 0
AreLines inside = All (IsLineOf inside.lines.items) inside.rows.items

-- the table of versions that `inside` holds
abbrev pub taken_in : Inside → VersionTable
taken_in inside = record {
  repeated = inside.repeated;
  codes = inside.seen;
  versions = inside.versions;
  chosen = inside.chosen.items;
}

-- the key of a version is one of the first `keys` keys, and its first row is one of the first
-- `rows` rows
pub record IsPlacedAmong (keys rows : ℕ) (version : Version) : Type 0 where
  -- the index of the version's key is below `keys`
  pub key : version.code / 2 ^ 32 < keys
  -- the index of the version's first row is below `rows`
  pub row : version.place < rows

-- the invariant of the table of versions: its lists fit together
pub record AreKept (taken : VersionTable) : Type 0 where
  -- the repeated keys rise strictly
  pub rising : IsStrictlyIncreasing taken.repeated
  -- there are fewer than 2^32 repeated keys
  pub few : length taken.repeated < 2 ^ 32
  -- there are at least as many versions as codes
  pub each : length taken.codes ≤ length taken.versions
  -- each version has a repeated key, and a first row that the table was given
  pub placed : All (IsPlacedAmong (length taken.repeated) (length taken.chosen)) taken.versions

-- `AreKept` holds of the table that `inside` holds
abbrev pub AreKeptIn : Inside → Type 0
AreKeptIn inside = AreKept (taken_in inside)
