-- The rows that the first pass of a load has read, and what follows for the first fault of the
-- files.
use Rattle.std.specs.Prelude.{◌≡◌, ◌≤◌, ◌+◌, ⊤, ℕ, Bool, List, [], ◌∷◌, ◌++◌, length, Option, None, Some}
use Rattle.rf2_rows.specs.Rows.{row_fault}
use Rattle.release_rows.specs.Chosen.{choices}
use Rattle.release_rows.specs.Files.{text_of_row, Place, RowAt, rows_of}
use Rattle.release_rows.specs.Faults.{conflict_after, first_fault, first_of}
use Rattle.release_rows.specs.ReadRows.{HasFirstFault, IsReadFrom}
use Rattle.release_rows.specs.inside.RowStore.{RowStore, kept_following, nothing_kept}
use Rattle.release_rows.specs.inside.Keys.{IsShort, Keyed, key_in, uuids_following}
use Rattle.release_rows.specs.Limits.{row_total}
use Rattle.row_lists.specs.ReleaseLists.{ReleaseLists}
use Rattle.release_rows.specs.Traversal.{OfFiles}
use Rattle.row_lists.specs.declared.fault.LoadFault.{LoadFault}
use Rattle.release_rows.specs.declared.limits.Limits.{Limits}

-- the UUIDs of members after the given rows, if `uuids` were met before these
abbrev pub uuids_after : List ℕ → List RowAt → List ℕ
uuids_after uuids [] = uuids
uuids_after uuids (row ∷ rows) = uuids_after (uuids_following uuids (text_of_row row)) rows

-- the keys of the given rows, if `uuids` were met before these
abbrev pub keys_after : List ℕ → List RowAt → List ℕ
keys_after uuids [] = []
keys_after uuids (row ∷ rows) =
    key_in uuids (text_of_row row) ∷ keys_after (uuids_following uuids (text_of_row row)) rows

-- what the first pass keeps after the given rows
abbrev pub kept_rows : RowStore → List RowAt → RowStore
kept_rows kept [] = kept
kept_rows kept (row ∷ rows) = kept_rows (kept_following kept row) rows

-- each row has an identifier of at most 18 digits, and no fault by itself
abbrev pub AreShort : List RowAt → Type 0
AreShort [] = ⊤
AreShort (row ∷ rows) = (IsShort (text_of_row row) × (row_fault row.kind row.text ≡ None))
    × AreShort rows

-- the first conflict of a row of the last list with an earlier row; the rows `earlier` come before
-- that list
abbrev pub first_conflict : List RowAt → List RowAt → Option LoadFault
first_conflict earlier [] = None
first_conflict earlier (row ∷ rows) =
    first_of (conflict_after earlier row) (first_conflict (earlier ++ row ∷ []) rows)

-- the first pass read some rows and kept `kept`; the first fault of the places is the first
-- conflict of these rows, or else `fault`, with which the pass ended
pub record IsSeen (limits : Limits) (places : List Place) (kept : RowStore)
    (fault : Option LoadFault) : Type 0 where
  -- the rows that the first pass read
  pub seen : List RowAt
  -- what is kept is that of these rows
  pub kept_is : kept ≡ kept_rows (nothing_kept limits) seen
  -- the rows have short identifiers and no fault by themselves
  pub short : AreShort seen
  -- the first fault is the first conflict, or else the one at which the pass ended
  pub first : first_fault limits [] places ≡ first_of (first_conflict [] seen) fault
  -- the rows that the first pass did not reach
  pub beyond : List RowAt
  -- the places have the rows that were read, and then the others
  pub front : rows_of places ≡ seen ++ beyond
  -- if the pass did not end at a fault, it read all rows
  pub whole : fault ≡ None → seen ≡ rows_of places
  -- the pass read at most one row more than the limits allow
  pub few : length seen ≤ row_total limits + 1
  -- if the pass did not end at a fault, it read no more rows than the limits allow
  pub room : fault ≡ None → length seen ≤ row_total limits

-- the first pass read the rows `seen` at the front of the places, and `keyed` holds their keys
pub record AreSeen (keyed : Keyed) (places : List Place) (seen beyond : List RowAt) : Type 0 where
  -- the places have the rows that were read, and then the others
  pub front : rows_of places ≡ seen ++ beyond
  -- the UUIDs are those of the rows that were read
  pub uuids : keyed.uuids ≡ uuids_after [] seen
  -- the keys are those of the rows that were read
  pub keys : keyed.keys ≡ keys_after [] seen
  -- the rows have short identifiers and no fault by themselves
  pub short : AreShort seen

-- `fault` is the first fault of the places if the first pass kept `keyed` and ended at the fault
-- `ended`
abbrev pub IsFirstAfter : Keyed → LoadFault → List Place → LoadFault → Type 0
IsFirstAfter keyed ended places fault =
    (limits : Limits) (kept : RowStore) → row_total limits ≤ 68000000 → kept.keyed ≡ keyed
    → OfFiles ended (IsSeen limits places kept (Some ended)) → HasFirstFault limits places fault

-- `fault` is the first fault of the places if the first pass kept all their rows
abbrev pub IsFirstOfKept : RowStore → List Place → LoadFault → Type 0
IsFirstOfKept kept places fault =
    (limits : Limits) → row_total limits ≤ 68000000 → IsSeen limits places kept None
    → HasFirstFault limits places fault

-- `count` is the number of rows and `listed` is made of the chosen ones, if the first pass kept all
-- rows of the places
abbrev pub AreChosenOfKept : RowStore → List Place → ℕ → ReleaseLists → Type 0
AreChosenOfKept kept places count listed =
    (limits : Limits) → IsSeen limits places kept None → IsReadFrom limits places count listed

-- `fault` is the first conflict among the rows that the first pass read, which have the keys of
-- `keyed`
abbrev pub IsFirstConflict : Keyed → List Place → LoadFault → Type 0
IsFirstConflict keyed places fault =
    (seen beyond : List RowAt) → AreSeen keyed places seen beyond
    → first_conflict [] seen ≡ Some fault

-- no row that the first pass read conflicts with an earlier one; the rows have the keys of `keyed`
abbrev pub HaveNoConflict : Keyed → List Place → Type 0
HaveNoConflict keyed places =
    (seen beyond : List RowAt) → AreSeen keyed places seen beyond → first_conflict [] seen ≡ None

-- no row that the first pass read conflicts with an earlier one, and `chosen` says for each whether
-- it is chosen; the rows have the keys of `keyed`
abbrev pub AreChoicesAmong : Keyed → List Place → List Bool → Type 0
AreChoicesAmong keyed places chosen =
    (seen beyond : List RowAt) → AreSeen keyed places seen beyond
    → (first_conflict [] seen ≡ None) × (chosen ≡ choices seen [] seen)
