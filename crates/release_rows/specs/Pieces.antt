-- Passes over files that a source reads in pieces, and the faults by which they end.
use Rattle.std.specs.List.{slice_get}
use Rattle.rf2_rows.specs.Files.{file_kind_of}
use Rattle.std.specs.Prelude.{Bool, true, is_some, option_and_then, ◌≡◌, ◌≢◌, ◌⊎◌, ℕ, ◌+◌, IfErr, IfSome, List, [], map}
use Rattle.std.specs.Prelude.{take, IsPermutation, Option, None, Some, unwrap_or, Result, Ok, Err}
use Rattle.std.specs.Cmp.Lexicographic.{slice_cmp}
use Rattle.std.specs.Ordering.{nat_cmp}
use Rattle.std.specs.List.Sorted.{IsSorted}
use Rattle.release_files.specs.Source.{FileText, History, IsRaised, bytes_of}
use Rattle.release_files.specs.declared.source.SourceFault.{SourceFault}
use Rattle.release_files.specs.declared.source.SourceFault.TheVariants as source
use Rattle.release_rows.specs.Files.{Place}
use Rattle.release_rows.specs.Traversal.{StopsAt, TakesAll}
use Rattle.release_rows.specs.DeviceFaults.{FailsAtOneOf, is_device}
use Rattle.row_lists.specs.declared.fault.LoadFault.{LoadFault}
use Rattle.row_lists.specs.declared.fault.LoadFault.TheVariants.{Device, Memory}

-- the first file called `name`; if there is none, a file without bytes
abbrev pub text_named : List FileText → List ℕ → FileText
text_named known name = record { name = name; bytes = unwrap_or (bytes_of name known) [] }

-- for each of `names`, in order, the first file of `known` with this name
abbrev pub listed : List FileText → List (List ℕ) → List FileText
listed known names = map (text_named known) names

-- the front of a file, up to one byte past `limit`
abbrev pub cut_file : ℕ → FileText → FileText
cut_file limit file = record { name = file.name; bytes = take (limit + 1) file.bytes }

-- `names` are the names of the `known` files in byte order
pub record AreInOrder (known : List FileText) (names : List (List ℕ)) : Type 0 where
  -- the names are those of the files, in some order
  pub same : IsPermutation (map (λ (file : FileText). file.name) known) names
  -- the names rise in byte order
  pub rising : IsSorted (slice_cmp nat_cmp) names

-- the load failed because the source could not list its files: the device failed, or memory was
-- refused; so there are no `names`
abbrev pub IsUnlisted : {X : Type 0} → Result X LoadFault → List (List ℕ) → History → Type 0
IsUnlisted (Ok loaded) names now = ⊥
IsUnlisted (Err fault) names now =
    (names ≡ []) × (now.unlisted ≡ true) × ((fault ≡ Device None) ⊎ (fault ≡ Memory))

-- the device failed while the source listed its files, and the source counted one failure
pub record FailsToList (old new : History) (names : List (List ℕ)) (fault : LoadFault) : Type 0
  where
    -- the fault names no file
    pub at_no_file : fault ≡ Device None
    -- no names were listed
    pub no_names : names ≡ []
    -- the source counted one failure
    pub raised : IsRaised old new
    -- the source has not listed the files
    pub unlisted : new.unlisted ≡ true

-- if the result is a failure of the device, the source failed either while it listed its files or
-- while it read one of `files`, and counted one failure; `name` gives the name of a file
abbrev pub FailsAtFiles : {X T : Type 0} → (X → List ℕ) → List X → Result T LoadFault → History
    → History → Type 0
FailsAtFiles name files result old new =
    IfErr result (λ fault. is_device fault ≡ true → FailsToList old new (map name files) fault
    ⊎ FailsAtOneOf (map name files) old new fault)

-- the outcome of listing: with `Ok`, `names` are the names of the files in byte order, if the
-- source tells the files, and no failure was counted. With `Err` there are no names: the device
-- failed and one failure was counted, or memory was refused.
abbrev pub ListsNames : {T : Type 0} → Option (List FileText) → Result T LoadFault → List (List ℕ)
    → History → History → Type 0
ListsNames told (Ok done) names old new = IfSome told (λ known. AreInOrder known names)
    × (new.failures ≡ old.failures)
ListsNames told (Err fault) names old new =
    FailsToList old new names fault
    ⊎ (fault ≡ Memory) × (names ≡ []) × (new.unlisted ≡ true) × (new.failures ≡ old.failures)

-- the fault of a load whose source fails while it lists the files
abbrev pub listing_fault : SourceFault → LoadFault
listing_fault source.Device = Device None
listing_fault source.Memory = Memory

-- the fault of a load whose source fails at the file with the index `file`
abbrev pub fault_of : ℕ → SourceFault → LoadFault
fault_of file source.Device = Device (Some file)
fault_of file source.Memory = Memory

-- the device failed at the file with the index `file`, and the source counted one failure
abbrev pub FailsAt : ℕ → History → History → LoadFault → Type 0
FailsAt file old new fault = (fault ≡ Device (Some file)) × IsRaised old new

-- the device failed at some file, and the source counted one failure
abbrev pub FailsAtFile : History → History → LoadFault → Type 0
FailsAtFile old new fault = (file : ℕ) × FailsAt file old new fault

-- the outcome of a pass over `places`: with `Ok`, all of them were taken; with a fault other than
-- `Memory`, either the device failed (`fails`), or a place was refused, and those before it were
-- taken
abbrev pub GoesOver : {Held : Type 0} (takes : Held → Place → Held → Type 0) (refuses : Held → Place
    → Held → LoadFault → Type 0) (fails : LoadFault → Type 0)
    → Held → List Place → Result (Unit {0}) LoadFault → Held → Type 0
GoesOver takes refuses fails old places (Ok done) new = TakesAll takes old places new
GoesOver takes refuses fails old places (Err fault) new = fault ≢ Memory
    → fails fault ⊎ StopsAt takes refuses old places new fault

-- whether `names` has at the index `file` the name of a Snapshot file of some kind
abbrev pub has_kind_at : List (List ℕ) → ℕ → Bool
has_kind_at names file = is_some (option_and_then file_kind_of (slice_get names file))
