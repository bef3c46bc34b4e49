-- The rows of components that have several, found by keys: which of them conflict, and which row of
-- each component is chosen (Release File Specification, "effectiveTime").
use Rattle.std.specs.Prelude.{◌≡◌, ◌≤◌, ℕ, Bool, not, ◌==◌, ◌&&◌, ◌||◌, List, [], ◌∷◌, ◌++◌, Contains, count_by, Option}
use Rattle.std.specs.List.{list_any}
use Rattle.rf2_rows.specs.Versions.{same_row, same_time}
use Rattle.rf2_rows.specs.declared.kind.FileKind.{FileKind}
use Rattle.release_rows.specs.Chosen.{is_later}

-- a row with the key of its component
pub record KeyedRow : Type 0 where
  -- the key of the row's component
  pub key : ℕ
  -- the row's effective time, if it has one
  pub time : Option ℕ
  -- the kind of the row's file
  pub kind : FileKind
  -- the bytes of the row's line
  pub text : List ℕ

-- whether two rows have one key and one effective time
abbrev pub same_version : KeyedRow → KeyedRow → Bool
same_version one other = (one.key == other.key) && same_time one.time other.time

-- whether two rows of one key and one effective time differ in some column
abbrev pub conflicts : KeyedRow → KeyedRow → Bool
conflicts one other = same_version one other && not (same_row one.kind one.text other.text)

-- whether one of `rows` has the key of `row` and a later effective time
abbrev pub is_superseded : List KeyedRow → KeyedRow → Bool
is_superseded rows row =
    list_any (λ other. (other.key == row.key) && is_later other.time row.time) rows

-- whether one of the `earlier` rows has the key and the effective time of `row`
abbrev pub is_repeated : List KeyedRow → KeyedRow → Bool
is_repeated earlier row = list_any (λ other. same_version other row) earlier

-- for each row of the last list, whether it is chosen among `rows`: it has the latest effective
-- time of its key, and is the first of equal rows; `earlier` are the rows of `rows` before that
-- list
abbrev pub choices : List KeyedRow → List KeyedRow → List KeyedRow → List Bool
choices rows earlier [] = []
choices rows earlier (row ∷ later) =
    not (is_superseded rows row || is_repeated earlier row) ∷ choices rows (earlier ++ row ∷ [])
    later

-- `repeated` contains each key that occurs at least twice in `keys`
abbrev pub Covers : List ℕ → List ℕ → Type 0
Covers repeated keys = (key : ℕ) → 2 ≤ count_by (λ other. other == key) keys → Contains repeated key

-- each of the `earlier` rows that has the key of `row` is of its kind
abbrev pub AreOfItsKind : List KeyedRow → KeyedRow → Type 0
AreOfItsKind earlier row = (other : KeyedRow) → Contains earlier other → other.key ≡ row.key
    → other.kind ≡ row.kind
