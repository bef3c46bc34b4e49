-- The files below a folder, if the system tells its tree: those that a traversal of the folder and
-- its subfolders finds, level by level, and in each folder in the byte order of the names. The
-- traversal follows links, but enters each folder once.
use Rattle.std.specs.Prelude.{◌≡◌, ◌≢◌, length, ◌⊎◌, ℕ, suc, ◌+◌, Bool, true, false, List, [], ◌∷◌, ◌++◌, Option, None}
use Rattle.std.specs.Prelude.{Some, Result, Ok, Err, IsPermutation, is_some, if◌then◌else◌, map, nat_eq}
use Rattle.std.specs.Prelude.{option_and_then, string_bytes}
use Rattle.std.specs.Cmp.Lexicographic.{slice_cmp}
use Rattle.std.specs.IoError.{error_kind}
use Rattle.std.specs.List.{list_any}
use Rattle.std.specs.List.Sorted.{IsSorted}
use Rattle.std.specs.Ordering.{nat_cmp}
use Rattle.std.specs.declared.string.String.{String}
use Rattle.std.specs.Fmt.{decimal}
use Rattle.std.specs.declared.io.Error.{Error}
use Rattle.std.specs.declared.io.ErrorKind.{ErrorKind}
use Rattle.std.specs.declared.io.ErrorKind.TheVariants.{FilesystemLoop, NotADirectory, NotFound, OutOfMemory}
use Rattle.rf2_rows.specs.Files.{file_kind_of}
use Rattle.streams.specs.Folders.{IsFolderAt, path_below}
use Rattle.streams.specs.declared.system.Standing.{Standing}
use Rattle.streams.specs.declared.system.Standing.TheVariants.{File, Folder, Other}

-- the folders and files of a system, or for each path the kind of failure
pub record FolderTree : Type 0 where
  -- what each path leads to, after links are followed
  pub at : List ℕ → Result Standing ErrorKind
  -- the names in each folder, in any order
  pub names : List ℕ → Result (List (List ℕ)) ErrorKind

-- a call returns what is `so`, value or failure, or fails because memory was refused; `view` turns
-- the returned value into the one in the tree
abbrev pub Tells : {A T : Type 0} → (T → A) → Result A ErrorKind → Result T Error → Type 0
Tells view so (Ok found) = so ≡ Ok (view found)
Tells view so (Err error) = (error_kind error ≡ OutOfMemory) ⊎ (so ≡ Err (error_kind error))

-- whether the failure is that of a link to nothing
abbrev pub leads_nowhere : ErrorKind → Bool
leads_nowhere NotFound = true
leads_nowhere NotADirectory = true
leads_nowhere FilesystemLoop = true
leads_nowhere kind = false

-- the files and folders that a traversal has found until now
pub record Found : Type 0 where
  -- the paths of the files, below the folder that is traversed
  pub files : List (List ℕ)
  -- the paths of the folders of the next level, each with a `/` at its end
  pub folders : List (List ℕ)

-- `found` with one more file
abbrev pub with_file : List ℕ → Found → Found
with_file path found = record { files = found.files ++ path ∷ []; folders = found.folders }

-- `found` with one more folder, whose path gets a `/` at its end
abbrev pub with_folder : List ℕ → Found → Found
with_folder path found =
    record { files = found.files; folders = found.folders ++ (path ++ 47 ∷ []) ∷ [] }

-- what was found after a look at `path`, or `None` if the traversal fails: a plain file or a folder
-- is added, and anything else is ignored. If the system cannot tell what the path leads to, it is
-- added as a file if its name is that of a Snapshot file, so that opening it fails; otherwise a
-- link to nothing is ignored, and any other failure fails the traversal.
abbrev pub found_at : Result Standing ErrorKind → List ℕ → Found → Option Found
found_at (Ok File) path found = Some (with_file path found)
found_at (Ok (Folder number)) path found = Some (with_folder path found)
found_at (Ok Other) path found = Some found
found_at (Err kind) path found =
    if is_some (file_kind_of path) then Some (with_file path found)
    else if leads_nowhere kind then Some found
    else None

-- what was found after a look at all `names` in the folder `below`, or `None` if the traversal
-- fails
abbrev pub found_in : FolderTree → List ℕ → List ℕ → List (List ℕ) → Found → Option Found
found_in tree folder below [] found = Some found
found_in tree folder below (name ∷ names) found =
    option_and_then (found_in tree folder below names)
    (found_at (tree.at (path_below folder (below ++ name))) (below ++ name) found)

-- `names` are the names in the folder at `path`, in byte order
pub record AreNamesIn (tree : FolderTree) (path : List ℕ) (names : List (List ℕ)) : Type 0 where
  -- the names in the order in which the system gives them
  pub given : List (List ℕ)
  -- the tree tells these names
  pub told : tree.names path ≡ Ok given
  -- the names are those that the system gives, in some order
  pub same : IsPermutation given names
  -- the names rise in byte order
  pub rising : IsSorted (slice_cmp nat_cmp) names

-- a traversal comes to the folder `below`: if it has not entered that folder before, it adds what
-- is in it; otherwise nothing changes. The states are the numbers of the folders that were entered,
-- and what was found.
pub data Enters (tree : FolderTree) (folder below : List ℕ) : List ℕ → Found → List ℕ → Found
    → Type 0 where
  again : (number : ℕ) (entered : List ℕ) (found : Found)
      → tree.at (path_below folder below) ≡ Ok (Folder number)
      → list_any (nat_eq number) entered ≡ true
      → Enters tree folder below entered found entered found
  first : (number : ℕ) (entered : List ℕ) (old new : Found) (names : List (List ℕ))
      → tree.at (path_below folder below) ≡ Ok (Folder number)
      → list_any (nat_eq number) entered ≡ false → AreNamesIn tree (path_below folder below) names
      → found_in tree folder below names old ≡ Some new
      → Enters tree folder below entered old (entered ++ number ∷ []) new

-- a traversal comes to the folders of a level, one after another
pub data EntersAll (tree : FolderTree) (folder : List ℕ) : List (List ℕ) → List ℕ → Found → List ℕ
    → Found → Type 0 where
  no_more : (entered : List ℕ) (found : Found)
      → EntersAll tree folder [] entered found entered found
  one_more : (below : List ℕ) (level : List (List ℕ)) (first middle last : List ℕ)
      (old between new : Found)
      → Enters tree folder below first old middle between
      → EntersAll tree folder level middle between last new
      → EntersAll tree folder (below ∷ level) first old last new

-- a traversal goes through a number of levels; each level has the folders that were found in the
-- level above it
pub data Descends (tree : FolderTree) (folder : List ℕ) : ℕ → List (List ℕ) → List ℕ → List (List ℕ)
    → List (List ℕ) → Type 0 where
  ended : (level : List (List ℕ)) (entered : List ℕ) (files : List (List ℕ))
      → Descends tree folder 0 level entered files files
  deeper : (levels : ℕ) (level : List (List ℕ)) (first last : List ℕ) (files all : List (List ℕ))
      (found : Found)
      → EntersAll tree folder level first (record { files = files; folders = [] }) last found
      → Descends tree folder levels found.folders last found.files all
      → Descends tree folder (suc levels) level first files all

-- the files below a folder: those in the folder itself and in 16 levels of subfolders
abbrev pub AreFilesBelow : FolderTree → List ℕ → List (List ℕ) → Type 0
AreFilesBelow tree folder names = Descends tree folder 17 ([] ∷ []) [] [] names

-- the name of a file if there are several folders: the number of its folder, `/`, and its path
-- there
abbrev pub numbered_name : ℕ → List ℕ → List ℕ
numbered_name number path = decimal number ++ 47 ∷ path

-- `names` are those of the files of `folders`, folder by folder, if the first folder has the number
-- `number`
abbrev pub AreFilesOfAll : {A : Type 0} → FolderTree → ℕ → List (String A) → List (List ℕ) → Type 0
AreFilesOfAll tree number [] names = names ≡ []
AreFilesOfAll tree number (folder ∷ folders) names =
    (own : List (List ℕ)) × (others : List (List ℕ))
    × AreFilesBelow tree (string_bytes folder) own × AreFilesOfAll tree (number + 1) folders others
    × (names ≡ map (numbered_name number) own ++ others)

-- `names` are those of the files of `folders`: paths if there is one folder; otherwise each path
-- has the number of its folder, from 1, and `/` in front
abbrev pub AreFilesOf : {A : Type 0} → FolderTree → List (String A) → List (List ℕ) → Type 0
AreFilesOf tree folders names =
    (length folders ≡ 1 → (folder : List ℕ) × IsFolderAt folders 0 folder
    × AreFilesBelow tree folder names)
    × (length folders ≢ 1 → AreFilesOfAll tree 1 folders names)
