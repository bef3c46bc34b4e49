-- The second pass over the files, which compares the rows of components that have several.
use Rattle.std.specs.Prelude.{◌≡◌, ◌&&◌, ℕ, Bool, true, false, List, [], ◌∷◌, ◌++◌, Option, None, Some}
use Rattle.std.specs.List.{list_any}
use Rattle.rf2_rows.specs.RowTexts.{row_text}
use Rattle.rf2_rows.specs.Rows.{row_fault}
use Rattle.rf2_rows.specs.Versions.{time_on}
use Rattle.rf2_rows.specs.declared.kind.FileKind.{FileKind}
use Rattle.release_rows.specs.Files.{Place, RowAt, row_at}
use Rattle.number_lists.specs.Members.{has}
use Rattle.release_rows.specs.inside.Keys.{IsMet, key_in}
use Rattle.release_rows.specs.inside.KeyedRows.{AreOfItsKind, KeyedRow, conflicts}
use Rattle.release_rows.specs.inside.VersionTable.{HasTaken, VersionTable}
use Rattle.release_rows.specs.declared.comparing.Comparing.{Comparing}
use Rattle.row_lists.specs.declared.fault.LoadFault.{LoadFault}
use Rattle.row_lists.specs.declared.fault.LoadFault.TheVariants.{Conflict}

-- the state of the second pass, which compares rows
pub record Comparison : Type 0 where
  -- the UUIDs of the members that the first pass met, each once
  pub uuids : List ℕ
  -- the table of the rows that the second pass has met
  pub taken : VersionTable
  -- the keys of the rows that the second pass has not met yet
  pub left : List ℕ

-- the state of the second pass that the fields of a `Comparing` hold
abbrev pub compared_in : Comparing → Comparison
compared_in comparing = record {
  uuids = comparing.keys.now.uuids;
  taken = comparing.versions;
  left = comparing.left.now;
}

-- the row of `kind` with the line `text`, with its key
abbrev pub noted_on : List ℕ → FileKind → List ℕ → KeyedRow
noted_on uuids kind text =
    record {
      key = key_in uuids (row_text kind text);
      time = time_on kind text;
      kind = kind;
      text = text;
    }

-- the row `row` with its key
abbrev pub noted_of : List ℕ → RowAt → KeyedRow
noted_of uuids row = noted_on uuids row.kind row.text

-- the key of `row` is repeated, and `row` conflicts with one of `rows`
abbrev pub clashes : VersionTable → List KeyedRow → KeyedRow → Bool
clashes taken rows row =
    has taken.repeated row.key && list_any (λ earlier. conflicts earlier row) rows

-- the next row of the second pass, `text`, is the one that the first pass read with `key`, and
-- `rows` are those before it
pub record IsExpected (compared : Comparison) (rows : List KeyedRow) (key : ℕ) (kind : FileKind)
    (text : List ℕ) : Type 0 where
  -- the second pass has compared the rows before it
  pub taken : HasTaken compared.taken rows
  -- the rows before it that have its key are of its kind
  pub kinds : AreOfItsKind rows (noted_on compared.uuids kind text)
  -- the first pass met the row
  pub met : IsMet compared.uuids (row_text kind text)
  -- the row has no fault by itself
  pub accepted : row_fault kind text ≡ None
  -- the row has the key that it had in the first pass
  pub same_key : key_in compared.uuids (row_text kind text) ≡ key

-- the second pass accepted the line `text` as the row that had `key` in the first pass
pub record IsTaken (old : Comparison) (key : ℕ) (kind : FileKind) (text : List ℕ)
    (new : Comparison) : Type 0 where
  -- the UUIDs stay as they were
  pub uuids : new.uuids ≡ old.uuids
  -- the repeated keys stay as they were
  pub repeated : new.taken.repeated ≡ old.taken.repeated
  -- the keys still to come stay as they were
  pub left : new.left ≡ old.left
  -- if `key` is repeated, the row still has it
  pub same_key : has old.taken.repeated key ≡ true → key_in old.uuids (row_text kind text) ≡ key
  -- the expected row does not clash with an earlier one
  pub fits : (rows : List KeyedRow) → IsExpected old rows key kind text
      → clashes old.taken rows (noted_on old.uuids kind text) ≡ false
  -- the expected row has been compared after the earlier ones
  pub taken : (rows : List KeyedRow) → IsExpected old rows key kind text
      → HasTaken new.taken (rows ++ noted_on old.uuids kind text ∷ [])

-- the second pass refused a row: if it is the expected one, it conflicts with an earlier one
abbrev pub IsRefused : Comparison → ℕ → ℕ → ℕ → FileKind → List ℕ → LoadFault → Type 0
IsRefused old file line key kind text fault =
    (rows : List KeyedRow) → IsExpected old rows key kind text
    → (fault ≡ Conflict file line) × (clashes old.taken rows (noted_on old.uuids kind text) ≡ true)

-- the row of a place, if there is one, was accepted for the first key of `left`; without a row or
-- without a key nothing changes
abbrev pub IsComparedRow : Comparison → List ℕ → Option RowAt → Comparison → Type 0
IsComparedRow old left None new = new ≡ old
IsComparedRow old [] (Some row) new = new ≡ old
IsComparedRow old (key ∷ left) (Some row) new =
    IsTaken (record old { left = left }) key row.kind row.text new

-- the row of `place`, if there is one, was accepted for the first key that is left
abbrev pub IsCompared : Comparison → Place → Comparison → Type 0
IsCompared old place new = IsComparedRow old old.left (row_at place) new

-- the row of a place was refused; the first key of `left` is its key
abbrev pub IsDeniedRow : Comparison → List ℕ → Option RowAt → LoadFault → Type 0
IsDeniedRow old left None fault = ⊥
IsDeniedRow old [] (Some row) fault = ⊥
IsDeniedRow old (key ∷ left) (Some row) fault =
    IsRefused (record old { left = left }) row.file row.line key row.kind row.text fault

-- the row of `place` was refused; the first key that is left is its key
abbrev pub IsDenied : Comparison → Place → LoadFault → Type 0
IsDenied old place fault = IsDeniedRow old old.left (row_at place) fault
