-- The first fault of a list of files.
use Rattle.std.specs.Prelude.{◌≡◌, ◌↔◌, ℕ, bytes_eq, count_by, nat_lt, nat_le, if◌then◌else◌, List, [], ◌∷◌, ◌++◌}
use Rattle.std.specs.Prelude.{Option, None, Some, option_and_then, option_map}
use Rattle.std.specs.List.{list_any}
use Rattle.rf2_rows.specs.Columns.{header_of}
use Rattle.rf2_rows.specs.Rows.{row_fault}
use Rattle.rf2_rows.specs.declared.kind.FileKind.{FileKind}
use Rattle.release_files.specs.Lines.{LineText}
use Rattle.release_rows.specs.Chosen.{conflicts, same_kind}
use Rattle.release_rows.specs.Files.{Place, RowAt, no_line, first_line, later_line, row_at, rows_of}
use Rattle.release_rows.specs.Limits.{row_limit}
use Rattle.row_lists.specs.declared.fault.LoadFault.{LoadFault}
use Rattle.row_lists.specs.declared.fault.LoadFault.TheVariants.{Header, Row, Conflict, TooMany}
use Rattle.release_rows.specs.declared.limits.Limits.{Limits}

-- the fault of the first line of a file: it ends past the limit of bytes, or is not the header of
-- the kind
abbrev pub fault_of_first : Limits → ℕ → FileKind → LineText → Option LoadFault
fault_of_first limits file kind line =
    if nat_lt limits.bytes line.end then Some (TooMany file line.number)
    else if bytes_eq line.bytes (header_of kind) then None
    else Some (Header file)

-- the fault of the text of a line after the header; an empty line has none
abbrev pub fault_of_text : ℕ → ℕ → FileKind → List ℕ → Option LoadFault
fault_of_text file line kind [] = None
fault_of_text file line kind (byte ∷ bytes) =
    option_map (λ fault. Row file line fault) (row_fault kind (byte ∷ bytes))

-- the fault that a place has by itself, whatever the places before it are
abbrev pub fault_here : Limits → Place → Option LoadFault
fault_here limits (no_line file kind) = Some (Header file)
fault_here limits (first_line file kind line) = fault_of_first limits file kind line
fault_here limits (later_line file kind line) =
    if nat_lt limits.bytes line.end then Some (TooMany file line.number) else fault_of_text file
    line.number kind line.bytes

-- how many rows are of a kind
abbrev pub count_of_kind : FileKind → List RowAt → ℕ
count_of_kind kind rows = count_by (λ row. same_kind row.kind kind) rows

-- the conflict of `row`, if it conflicts with one of the `earlier` rows
abbrev pub conflict_after : List RowAt → RowAt → Option LoadFault
conflict_after earlier row =
    if list_any (λ other. conflicts other row) earlier then Some (Conflict row.file row.line)
    else None

-- the fault of `row` if the `earlier` rows of its kind already reach the limit
abbrev pub crowd_after : Limits → List RowAt → RowAt → Option LoadFault
crowd_after limits earlier row =
    if nat_le (row_limit limits row.kind) (count_of_kind row.kind earlier) then Some
    (TooMany row.file row.line) else None

-- the first argument if it is a fault, otherwise the second
abbrev pub first_of : Option LoadFault → Option LoadFault → Option LoadFault
first_of (Some fault) later = Some fault
first_of None later = later

-- the fault of `row` if the rows `earlier` come before it: a conflict with one of them, or else
-- more rows of its kind than the limit allows
abbrev pub fault_after : Limits → List RowAt → RowAt → Option LoadFault
fault_after limits earlier row =
    first_of (conflict_after earlier row) (crowd_after limits earlier row)

-- the fault at `place` if the places `before` come before it: its own fault, or else that of its
-- row
abbrev pub fault_at : Limits → List Place → Place → Option LoadFault
fault_at limits before place =
    first_of (fault_here limits place)
    (option_and_then (fault_after limits (rows_of before)) (row_at place))

-- the first fault of the places of the last list, if the places `before` come before that list
abbrev pub first_fault : Limits → List Place → List Place → Option LoadFault
first_fault limits before [] = None
first_fault limits before (place ∷ later) =
    first_of (fault_at limits before place) (first_fault limits (before ++ place ∷ []) later)

-- no place has a fault
abbrev pub HasNoFault : Limits → List Place → Type 0
HasNoFault limits places =
    (before : List Place) (place : Place) (later : List Place) → places ≡ before ++ place ∷ later
    → fault_at limits before place ≡ None

-- `fault` is the first fault of `places`: one place has it, and no earlier place has a fault
pub record IsFirstFault (limits : Limits) (places : List Place) (fault : LoadFault) : Type 0 where
  -- the places before the fault
  pub before : List Place
  -- the place of the fault
  pub place : Place
  -- the places after the fault
  pub later : List Place
  -- `places` are these three parts, joined
  pub cut : places ≡ before ++ place ∷ later
  -- the place has this fault
  pub here : fault_at limits before place ≡ Some fault
  -- no earlier place has a fault
  pub none_before : HasNoFault limits before

-- `first_fault` is the first fault of any places, and is none exactly if no place has one
abbrev pub NamesFirstFault : Type 0
NamesFirstFault =
    (limits : Limits) (places : List Place)
    → ((fault : LoadFault) → (first_fault limits [] places ≡ Some fault) ↔ IsFirstFault limits
    places fault)
    × ((first_fault limits [] places ≡ None) ↔ HasNoFault limits places)
