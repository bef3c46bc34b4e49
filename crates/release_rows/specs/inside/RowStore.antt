-- What the first pass of a load keeps of the rows that it has read.
use Rattle.std.specs.Prelude.{◌≡◌, ℕ, nat_le, true, false, ⊤, if◌then◌else◌, [], Option, None, Some, option_and_then}
use Rattle.rf2_rows.specs.RowTexts.{RowText}
use Rattle.rf2_rows.specs.Rows.{row_fault}
use Rattle.rf2_rows.specs.declared.kind.FileKind.{FileKind}
use Rattle.release_rows.specs.Files.{Place, RowAt, row_at, text_of_row}
use Rattle.release_rows.specs.Faults.{fault_here, first_of}
use Rattle.release_rows.specs.inside.Keys.{IsShort, Keyed, keyed_after, no_keys}
use Rattle.release_rows.specs.Limits.{left_after, row_limit}
use Rattle.row_lists.specs.ReleaseLists.{ReleaseLists, listed_of}
use Rattle.row_lists.specs.ChosenLists.{listed_after}
use Rattle.row_lists.specs.declared.fault.LoadFault.{LoadFault}
use Rattle.row_lists.specs.declared.fault.LoadFault.TheVariants.{TooMany}
use Rattle.release_rows.specs.declared.limits.Limits.{Limits}

-- what the first pass keeps of the rows that it has read
pub record RowStore : Type 0 where
  -- the UUIDs and keys of the rows
  pub keyed : Keyed
  -- how many more rows of each kind are allowed, and the limit of bytes
  pub left : Limits
  -- the lists made of the rows
  pub listed : ReleaseLists

-- what the first pass keeps before it reads a row
abbrev pub nothing_kept : Limits → RowStore
nothing_kept limits = record { keyed = no_keys; left = limits; listed = listed_of [] }

-- what the first pass keeps after a row of `kind` with the columns `text`
abbrev pub kept_text : RowStore → FileKind → RowText → RowStore
kept_text kept kind text = record {
  keyed = keyed_after kept.keyed text;
  left = left_after kept.left kind;
  listed = listed_after kept.listed text;
}

-- what the first pass keeps after the row `row`
abbrev pub kept_following : RowStore → RowAt → RowStore
kept_following kept row = kept_text kept row.kind (text_of_row row)

-- what the first pass keeps after the row of a place, if it has one
abbrev pub kept_after : RowStore → Option RowAt → RowStore
kept_after kept None = kept
kept_after kept (Some row) = kept_following kept row

-- the fault of `row` if no more rows of its kind are allowed
abbrev pub fault_of_room : Limits → RowAt → Option LoadFault
fault_of_room left row =
    if nat_le (row_limit left row.kind) 0 then Some (TooMany row.file row.line) else None

-- the fault at a place, other than a conflict; `left` are the limits that remain
abbrev pub plain_fault : Limits → Place → Option LoadFault
plain_fault left place =
    first_of (fault_here left place) (option_and_then (fault_of_room left) (row_at place))

-- the row at a place, if there is one, has an identifier of at most 18 digits and no fault by
-- itself
abbrev pub IsShortAt : Option RowAt → Type 0
IsShortAt None = ⊤
IsShortAt (Some row) = IsShort (text_of_row row) × (row_fault row.kind row.text ≡ None)

-- a row of `kind` with the columns `text` was added, and its kind had not reached the limit
pub record IsAdded (old : RowStore) (kind : FileKind) (text : RowText) (new : RowStore) : Type 0
  where
    -- there was room for one more row of the kind
    pub room : nat_le (row_limit old.left kind) 0 ≡ false
    -- the row is kept
    pub kept : new ≡ kept_text old kind text
    -- the row's identifier is short
    pub short : IsShort text

-- a row of `kind` with the columns `text` was added although its kind had reached the limit, which
-- is `fault`
pub record IsCrowded (file line : ℕ) (old : RowStore) (kind : FileKind) (text : RowText)
    (new : RowStore) (fault : LoadFault) : Type 0 where
  -- the fault says that there are too many rows
  pub is : fault ≡ TooMany file line
  -- the kind had reached its limit
  pub room : nat_le (row_limit old.left kind) 0 ≡ true
  -- the row is kept
  pub kept : new ≡ kept_text old kind text
  -- the row's identifier is short
  pub short : IsShort text

-- the first pass read a place that has no fault other than perhaps a conflict, and kept its row
pub record IsRead (old : RowStore) (place : Place) (new : RowStore) : Type 0 where
  -- the place has no fault other than perhaps a conflict
  pub clean : plain_fault old.left place ≡ None
  -- the row of the place is kept, if there is one
  pub kept : new ≡ kept_after old (row_at place)
  -- the row of the place has a short identifier and no fault by itself
  pub short : IsShortAt (row_at place)

-- the first pass stopped at a place with `fault`, which is no conflict; if the place has no fault
-- by itself, its row was kept
pub record IsStopped (old : RowStore) (place : Place) (new : RowStore) (fault : LoadFault) : Type 0
  where
    -- the place has this fault
    pub there : plain_fault old.left place ≡ Some fault
    -- if the place has no fault by itself, its row is kept, and the row's identifier is short
    pub kept : (fault_here old.left place ≡ None) → (new ≡ kept_after old (row_at place))
        × IsShortAt (row_at place)
    -- if the fault is that of the place by itself, nothing changes
    pub none : (fault_here old.left place ≡ Some fault) → new ≡ old
