-- The table of the rows that the second pass has met, with the versions of components that have
-- several rows.
use Rattle.std.specs.Prelude.{◌≡◌, ◌<◌, ℕ, ◌+◌, ◌*◌, ◌/◌, ◌^◌, ◌==◌, ◌&&◌, Bool, false, not, nat_lt, IsTrue, IfSome}
use Rattle.std.specs.Prelude.{List, [], ◌∷◌, ◌++◌, All, Contains, length, map, slice_index, Option, unwrap_or}
use Rattle.std.specs.List.{list_any}
use Rattle.rf2_rows.specs.Versions.{same_row}
use Rattle.rf2_rows.specs.declared.kind.FileKind.{FileKind}
use Rattle.number_lists.specs.Members.{has}
use Rattle.release_rows.specs.inside.KeyedRows.{KeyedRow, is_repeated}

-- a version of a component, with its first row
pub record Version : Type 0 where
  -- the code of the version
  pub code : ℕ
  -- the index of its first row among all rows
  pub place : ℕ
  -- the kind of its first row
  pub kind : FileKind
  -- the line of its first row
  pub text : List ℕ

-- the table of the rows that the second pass has met
pub record VersionTable : Type 0 where
  -- the keys of components that have several rows
  pub repeated : List ℕ
  -- the codes of the versions, in the order of their first rows
  pub codes : List ℕ
  -- the versions, in the order of their first rows
  pub versions : List Version
  -- for each row, whether it is the first of its version
  pub chosen : List Bool

-- the code of an effective time: that of a later time is greater, and that of no time is above all
-- times of eight digits
abbrev pub time_code : Option ℕ → ℕ
time_code time = unwrap_or time 100000000

-- `code` is the code of the row's version: the index of its key among the repeated ones, times
-- 2^32, plus the code of its time
pub record IsCodeOf (repeated : List ℕ) (row : KeyedRow) (code : ℕ) : Type 0 where
  -- the index of the row's key
  pub place : ℕ
  -- the index is within the repeated keys
  pub within : place < length repeated
  -- the repeated key at the index is the row's
  pub key : slice_index repeated place ≡ row.key
  -- the time of the row, if it has one, has at most eight digits
  pub eight_digits : IfSome row.time (λ time. time < 100000000)
  -- the code is made of the index and the time
  pub is : code ≡ place * 2 ^ 32 + time_code row.time

-- `version` is the version of one of `rows`, and of no row before that one
pub record IsVersionAmong (repeated : List ℕ) (rows : List KeyedRow) (version : Version) : Type 0
  where
    -- the rows before the version's first row
    pub before : List KeyedRow
    -- the version's first row
    pub row : KeyedRow
    -- the rows after the version's first row
    pub following : List KeyedRow
    -- the rows are those before the first row, that row, and those after it
    pub stands : rows ≡ before ++ row ∷ following
    -- the version's index is that of its first row
    pub place : version.place ≡ length before
    -- the version's code is that of its first row
    pub code : IsCodeOf repeated row version.code
    -- the version's kind is that of its first row
    pub kind : version.kind ≡ row.kind
    -- the version's line is that of its first row
    pub text : version.text ≡ row.text
    -- no earlier row has the key and the time of the first row
    pub first : is_repeated before row ≡ false

-- a row is of a version, and equals its first row in all columns
pub record AgreesWith (repeated : List ℕ) (row : KeyedRow) (version : Version) : Type 0 where
  -- the version's code is that of the row
  pub code : IsCodeOf repeated row version.code
  -- the row equals the version's first row in all columns
  pub same : IsTrue (same_row row.kind version.text row.text)

-- if the key of `row` is repeated, `row` agrees with one of `versions`
abbrev pub IsOfVersion : List ℕ → List Version → KeyedRow → Type 0
IsOfVersion repeated versions row =
    IsTrue (has repeated row.key) → (version : Version) × Contains versions version
    × AgreesWith repeated row version

-- for each row of the last list, whether it is the first of its version; the rows `earlier` come
-- before that list. A row whose key is not repeated always is.
abbrev pub firsts : List ℕ → List KeyedRow → List KeyedRow → List Bool
firsts repeated earlier [] = []
firsts repeated earlier (row ∷ later) =
    not (has repeated row.key && is_repeated earlier row) ∷ firsts repeated (earlier ++ row ∷ [])
    later

-- `taken` is the table after the rows `rows`; no two of these of one component and one effective
-- time differ
pub record HasTaken (taken : VersionTable) (rows : List KeyedRow) : Type 0 where
  -- the codes are those of the versions
  pub codes : taken.codes ≡ map (λ (version : Version). version.code) taken.versions
  -- each version is that of one of the rows
  pub versions : All (IsVersionAmong taken.repeated rows) taken.versions
  -- each row whose key is repeated agrees with a version
  pub agree : All (IsOfVersion taken.repeated taken.versions) rows
  -- the marks say which rows are the first of their versions
  pub chosen : taken.chosen ≡ firsts taken.repeated [] rows

-- whether one of `versions` is of the component of `code` and has a later effective time
abbrev pub is_outdated : List Version → ℕ → Bool
is_outdated versions code =
    list_any (λ (version : Version). (version.code / 2 ^ 32 == code / 2 ^ 32)
    && nat_lt code version.code) versions

-- whether the row at index `place` is the first of a version that is not the latest of its
-- component
abbrev pub is_older : List Version → ℕ → Bool
is_older versions place =
    list_any (λ (version : Version). is_outdated versions version.code && (version.place == place))
    versions

-- the marks, but cleared where `leaves` is true of the index; the first mark has the index `place`
abbrev pub without : (ℕ → Bool) → ℕ → List Bool → List Bool
without leaves place [] = []
without leaves place (mark ∷ marks) =
    (mark && not (leaves place)) ∷ without leaves (place + 1) marks
