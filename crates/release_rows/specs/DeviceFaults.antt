-- The file that a fault of a load names, and failures of the device: a source counts them, and says
-- at which file they occurred.
use Rattle.std.specs.List.{slice_get}
use Rattle.std.specs.Prelude.{◌≡◌, ◌<◌, ◌≤◌, ℕ, List, length, max, Bool, true, false, ⊤, IfErr, IfSome, Option, None}
use Rattle.std.specs.Prelude.{Some, Result, Ok, Err}
use Rattle.release_files.specs.Source.{History, IsRaised}
use Rattle.row_lists.specs.declared.fault.LoadFault.{LoadFault}
use Rattle.row_lists.specs.declared.fault.LoadFault.TheVariants.{Conflict, Device, Header, Row, TooMany}

-- whether the fault is a failure of the device: a file, or the list of files, could not be read
abbrev pub is_device : LoadFault → Bool
is_device (Device file) = true
is_device other = false

-- the source's count of failures stays the same, unless the result is a failure of the device
abbrev pub RaisesOnlyAtDevice : {T : Type 0} → Result T LoadFault → History → History → Type 0
RaisesOnlyAtDevice (Ok done) old new = new.failures ≡ old.failures
RaisesOnlyAtDevice (Err fault) old new = is_device fault ≡ false → new.failures ≡ old.failures

-- the device failed at one of the files `names`, and the source counted one failure; if the source
-- tells which file failed, it is that one
abbrev pub FailsAtOneOf : List (List ℕ) → History → History → LoadFault → Type 0
FailsAtOneOf names old new fault =
    (file : ℕ) × (file < length names) × (fault ≡ Device (Some file)) × IsRaised old new
    × IfSome new.failed (λ name. slice_get names file ≡ Some name)

-- if the result is a failure of the device, it is one at one of the files `names` (`FailsAtOneOf`)
abbrev pub FailsOnlyAt : {T : Type 0} → List (List ℕ) → Result T LoadFault → History → History
    → Type 0
FailsOnlyAt names result old new =
    IfErr result (λ fault. is_device fault ≡ true → FailsAtOneOf names old new fault)

-- the source took at most `most` bytes of each file that it opened, and did not list the files
-- again
abbrev pub ReadsWithin : ℕ → History → History → Type 0
ReadsWithin most old new = (new.most ≤ max old.most most) × (new.unlisted ≡ old.unlisted)

-- the files that a load reads: their names, and how many bytes of each it reads at most
pub record AskedFiles : Type 0 where
  -- the names of the files
  pub names : List (List ℕ)
  -- how many bytes of each file are read at most
  pub most : ℕ

-- if the device failed at a file, `reads` is true of the index of that file
abbrev pub FailsAtRead : (ℕ → Bool) → LoadFault → Type 0
FailsAtRead reads (Device (Some file)) = reads file ≡ true
FailsAtRead reads other = ⊤

-- the index of the file that a fault names, if it names one
abbrev pub file_of : LoadFault → Option ℕ
file_of (Header file) = Some file
file_of (Row file line fault) = Some file
file_of (Conflict file line) = Some file
file_of (TooMany file line) = Some file
file_of (Device file) = file
file_of other = None

-- `holds` is true of the index of the file that a fault names, if it names one
abbrev pub FileIs : (ℕ → Type 0) → LoadFault → Type 0
FileIs holds fault = IfSome (file_of fault) holds
