-- A source of the files of a release: its files, and what its calls return and record.
use Rattle.std.specs.Prelude.{◌≡◌, ℕ, ◌+◌, ◌-◌, ◌^◌, ◌<◌, ◌≤◌, if◌then◌else◌, Bool, true, List, [], ◌∷◌, IfSome, OnErr}
use Rattle.std.specs.Prelude.{bytes_eq, length, max, min, take, ⊤, Option, None, Some, Result, Ok, Err, MatchResult}
use Rattle.std.specs.Io.KnownBytes.{Consumes, IsAtEnd}
use Rattle.release_files.specs.declared.source.SourceFault.{SourceFault}
use Rattle.release_files.specs.declared.source.SourceFault.TheVariants.{Device, Memory}
use Rattle.release_files.specs.declared.NamedBytes.{NamedBytes}

-- the number of a fault of a source
abbrev pub source_fault_number : SourceFault → ℕ
source_fault_number Device = 1
source_fault_number Memory = 2

-- a file of a release
pub record FileText : Type 0 where
  -- the path of the file below the folder of the release
  pub name : List ℕ
  -- the contents of the file
  pub bytes : List ℕ

-- the file that a `NamedBytes` of the program describes
abbrev pub file_text : NamedBytes → FileText
file_text file = record { name = file.name.now; bytes = file.bytes.now }

-- the bytes of the first file called `name`, if there is one
abbrev pub bytes_of : List ℕ → List FileText → Option (List ℕ)
bytes_of name [] = None
bytes_of name (file ∷ files) =
    if bytes_eq file.name name then Some file.bytes else bytes_of name files

-- if the source tells its files, it opened the first one called `name`: there is one, all its bytes
-- are still to be read, and they are fewer than 2^64
abbrev pub Opens : Option (List FileText) → List ℕ → Option (List ℕ) → Type 0
Opens None name rest = ⊤
Opens (Some files) name rest = (bytes : List ℕ) × (bytes_of name files ≡ Some bytes)
    × (rest ≡ Some bytes) × (length bytes < 2 ^ 64)

-- a read put the next bytes of the file into `buffer`; it gives none only at the end of the file or
-- if `buffer` is empty. After a failed read no byte is left.
abbrev pub ReadsNext : Option (List ℕ) → Option (List ℕ) → Result ℕ SourceFault → List ℕ → Type 0
ReadsNext old new result buffer =
    MatchResult result (λ count. Consumes old new (take count buffer)
    × (count ≡ 0 → 0 < length buffer → IsAtEnd new)) (λ _. IsAtEnd new)

-- what a source has done. A source need not record all of it: what it leaves out appears as no
-- name, no bytes and a failed listing.
pub record History : Type 0 where
  -- how many calls failed with `Device`, at most u64::MAX
  pub failures : ℕ
  -- the name that was opened last
  pub opened : Option (List ℕ)
  -- the name of the file at which the device failed last
  pub failed : Option (List ℕ)
  -- how many bytes were read since the last opening
  pub taken : ℕ
  -- the greatest number of bytes that were read between two openings
  pub most : ℕ
  -- whether the last listing failed
  pub unlisted : Bool

-- the source counted one more failure; the count stops at u64::MAX
abbrev pub IsRaised : History → History → Type 0
IsRaised old new = new.failures ≡ max old.failures (min (old.failures + 1) (2 ^ 64 - 1))

-- a call that fails with `Device` counts one more failure; no other call counts any
abbrev pub CountsFailures : {T : Type 0} → Result T SourceFault → History → History → Type 0
CountsFailures (Ok _) old new = new.failures ≡ old.failures
CountsFailures (Err Memory) old new = new.failures ≡ old.failures
CountsFailures (Err Device) old new = IsRaised old new

-- a call that fails with `Device` counts one more failure, and names the file that was opened last
-- as the failed one; no other call counts any
abbrev pub FailsAtOpened : {T : Type 0} → Result T SourceFault → History → History → Type 0
FailsAtOpened (Ok _) old new = new.failures ≡ old.failures
FailsAtOpened (Err Memory) old new = new.failures ≡ old.failures
FailsAtOpened (Err Device) old new = IsRaised old new × (new.failed ≡ old.opened)

-- if the source tells a name at all, it is `name`
abbrev pub IsToldAs : Option (List ℕ) → List ℕ → Type 0
IsToldAs told name = IfSome told (λ one. one ≡ name)

-- a call that fails with `Device` counts one more failure, and names `name` as the failed file, if
-- it names one; no other call counts any
abbrev pub FailsAtName : {T : Type 0} → List ℕ → Result T SourceFault → History → History → Type 0
FailsAtName name (Ok _) old new = new.failures ≡ old.failures
FailsAtName name (Err Memory) old new = new.failures ≡ old.failures
FailsAtName name (Err Device) old new = IsRaised old new × IsToldAs new.failed name

-- what a call that lists the files records, whether or not it failed
pub record IsListing {T : Type 0} (result : Result T SourceFault) (old new : History) : Type 0 where
  -- the file that was opened last is the same
  pub opened : new.opened ≡ old.opened
  -- the greatest number of bytes read between two openings has not grown
  pub most : new.most ≤ old.most
  -- if the listing failed, the source says so
  pub unlisted : OnErr result (new.unlisted ≡ true)

-- what a call that opens the file `name` records, whether or not it failed
pub record IsOpening (name : List ℕ) (old new : History) : Type 0 where
  -- if the source tells the name that it opened last, it is `name`
  pub opened : IsToldAs new.opened name
  -- no byte of the file was read yet
  pub taken : new.taken ≡ 0
  -- the greatest number of bytes read between two openings has not grown
  pub most : new.most ≤ old.most
  -- the outcome of the last listing is the same
  pub unlisted : new.unlisted ≡ old.unlisted

-- how many bytes a read gave: 0 if it failed
abbrev pub given : Result ℕ SourceFault → ℕ
given (Ok count) = count
given (Err _) = 0

-- what a call that reads the open file records, whether or not it failed
pub record IsReading (result : Result ℕ SourceFault) (old new : History) : Type 0 where
  -- the file that was opened last is the same
  pub opened : new.opened ≡ old.opened
  -- the count of bytes grew by no more than the read gave
  pub taken : new.taken ≤ old.taken + given result
  -- the greatest number of bytes read between two openings is at most what it was, or what was read
  -- of this file
  pub most : new.most ≤ max old.most (old.taken + given result)
  -- the outcome of the last listing is the same
  pub unlisted : new.unlisted ≡ old.unlisted
