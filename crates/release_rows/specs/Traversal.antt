-- Passes over places: a visitor takes one place after another, and may refuse one with a fault.
use Rattle.std.specs.Prelude.{◌≡◌, ◌≢◌, ℕ, false, List, [], ◌∷◌, ◌++◌, IfErr, IfSome, Option, Result}
use Rattle.release_files.specs.Lines.{line_text}
use Rattle.rf2_rows.specs.declared.kind.FileKind.{FileKind}
use Rattle.release_rows.specs.Files.{Place, first_line, later_line, no_line}
use Rattle.row_lists.specs.declared.fault.LoadFault.{LoadFault}
use Rattle.row_lists.specs.declared.fault.LoadFault.TheVariants.{Memory}
use Rattle.release_rows.specs.declared.places.Met.{Met}
use Rattle.release_rows.specs.declared.places.Met.TheVariants.{NoLine, First, Later}
use Rattle.release_rows.specs.DeviceFaults.{is_device}

-- the place in the file with the index `file` that a value of `Met` describes
abbrev pub place_of : ℕ → FileKind → Met → Place
place_of file kind NoLine = no_line file kind
place_of file kind (First line) = first_line file kind (line_text line)
place_of file kind (Later line) = later_line file kind (line_text line)

-- the visitor takes all places one after another, and so goes from the first state to the last;
-- `takes` relates the states before and after one place
pub data TakesAll {Held : Type 0} (takes : Held → Place → Held → Type 0) : Held → List Place → Held
    → Type 0 where
  taken : (held : Held) → TakesAll takes held [] held
  next : (old middle new : Held) (place : Place) (places : List Place) → takes old place middle
      → TakesAll takes middle places new → TakesAll takes old (place ∷ places) new

-- the visitor takes the first places, and refuses the next one with `fault`
pub record StopsAt {Held : Type 0} (takes : Held → Place → Held → Type 0)
    (refuses : Held → Place → Held → LoadFault → Type 0) (old : Held) (places : List Place)
    (new : Held)
    (fault : LoadFault) : Type 0 where
  -- the places that were taken
  pub before : List Place
  -- the place that was refused
  pub place : Place
  -- the places after the refused one
  pub later : List Place
  -- the state before the refused place
  pub middle : Held
  -- `places` are the taken ones, the refused one and the later ones, joined
  pub cut : places ≡ before ++ place ∷ later
  -- the places before the refused one were taken
  pub taken_before : TakesAll takes old before middle
  -- the place was refused with `fault`
  pub refused : refuses middle place new fault

-- `said` holds, unless `fault` is want of memory or a failure of the device
abbrev pub OfFiles : LoadFault → Type 0 → Type 0
OfFiles fault said = fault ≢ Memory → is_device fault ≡ false → said

-- if the source tells its places and the result is a fault other than want of memory or a failure
-- of the device, `is` holds of the places and the fault
abbrev pub FaultOf : {T : Type 0} → Option (List Place) → (List Place → LoadFault → Type 0)
    → Result T LoadFault → Type 0
FaultOf told is result =
    IfSome told (λ places. IfErr result (λ fault. OfFiles fault (is places fault)))
