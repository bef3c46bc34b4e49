-- Sources of files in folders: which file they open, how they report a failure of the system, and
-- which bytes of the open file are still to be read.
use Rattle.std.specs.Prelude.{◌≡◌, ◌≢◌, ℕ, ◌+◌, ◌==◌, Bool, true, List, [], ◌∷◌, ◌++◌, Option, None, Some, Result, Err}
use Rattle.std.specs.Prelude.{length, slice_get, string_bytes}
use Rattle.std.specs.List.{after_first, before_first}
use Rattle.std.specs.Str.Parse.{digits_value, without_leading_plus}
use Rattle.std.specs.declared.string.String.{String}
use Rattle.std.specs.declared.io.ErrorKind.{ErrorKind}
use Rattle.std.specs.declared.io.ErrorKind.TheVariants.{OutOfMemory}
use Rattle.release_files.specs.declared.source.SourceFault.{SourceFault}
use Rattle.release_files.specs.declared.source.SourceFault.TheVariants.{Device, Memory}
use Rattle.release_files.specs.Source.{History, IsRaised}

-- the history of a source of folders: it records the number of its failures, and nothing else
abbrev pub failed_so_often : ℕ → History
failed_so_often failures =
    record {
      failures = failures;
      opened = None;
      failed = None;
      taken = 0;
      most = 0;
      unlisted = true;
    }

-- how a source reports a failure of the system of the given kind: if memory was refused, as
-- `Memory`, which it does not count; otherwise as `Device`, which it counts
abbrev pub AnswersFault : {T : Type 0} → ErrorKind → Result T SourceFault → History → History
    → Type 0
AnswersFault kind result old new =
    (kind ≡ OutOfMemory → (result ≡ Err Memory) × (new.failures ≡ old.failures))
    × (kind ≢ OutOfMemory → (result ≡ Err Device) × IsRaised old new)

-- the bytes of the open file that were not read yet, none if no file is open; `remaining` tells
-- those of a file
abbrev pub rest_of : {F : Type 0} → (F → Option (List ℕ)) → Option F → Option (List ℕ)
rest_of remaining None = Some []
rest_of remaining (Some file) = remaining file

-- whether the byte is `/`, which separates the parts of a path
abbrev pub is_slash : ℕ → Bool
is_slash byte = byte == 47

-- the path of `below` within `folder`: the two joined by `/`; if `below` is empty, the path is
-- `folder` as it is
abbrev pub path_below : List ℕ → List ℕ → List ℕ
path_below folder [] = folder
path_below folder (byte ∷ bytes) = folder ++ 47 ∷ byte ∷ bytes

-- `folder` is the folder at the index `index` of the list, counted from 0
abbrev pub IsFolderAt : {A : Type 0} → List (String A) → ℕ → List ℕ → Type 0
IsFolderAt folders index folder = (text : String _) × (slice_get folders index ≡ Some text)
    × (folder ≡ string_bytes text)

-- `name` is the number of `folder` in the list, counted from 1, then `/`, and then `below`
abbrev pub IsNumbered : {A : Type 0} → List (String A) → List ℕ → List ℕ → List ℕ → Type 0
IsNumbered folders name folder below = (index : ℕ)
    × IsFolderAt folders index folder
    × (digits_value 10 (without_leading_plus (before_first is_slash name)) ≡ index + 1)
    × (below ≡ after_first is_slash name)

-- the file called `name` is in `folder` at the path `below`: if there is one folder, `name` is that
-- path; otherwise `name` begins with the number of the folder
abbrev pub IsPlace : {A : Type 0} → List (String A) → List ℕ → List ℕ → List ℕ → Type 0
IsPlace folders name folder below =
    (length folders ≡ 1 → IsFolderAt folders 0 folder × (below ≡ name))
    × (length folders ≢ 1 → IsNumbered folders name folder below)

-- `file` was opened at the path of the file called `name`
abbrev pub IsOpenedBy : {A F : Type 0} → (List ℕ → F → Type 0) → List (String A) → List ℕ → F
    → Type 0
IsOpenedBy opens folders name file =
    (folder : List ℕ) × (below : List ℕ) × IsPlace folders name folder below
    × opens (path_below folder below) file
