-- What a folder adds to what was found: the paths of some names as files, those of others as folders.
use Rattle.std.proofs.Common.{◌≡◌, ◌∙◌, ℕ, ◌++◌, List, [], ◌∷◌, Bool, true, false, None, Some, Result, Ok, Err}
use Rattle.std.proofs.Common.{ap, cond, map, refl, subst, sym}
use Rattle.std.proofs.lemmas.List.{append-nil, append_assoc, map-append}
use Rattle.std.proofs.lemmas.Option.{option_and_then_some}
use Rattle.std.specs.List.{filter}
use Rattle.std.specs.Prelude.{is_some}
use Rattle.std.specs.declared.io.ErrorKind.{ErrorKind}
use Rattle.rf2_rows.specs.Files.{file_kind_of}
use Rattle.streams.specs.Folders.{path_below}
use Rattle.streams.specs.Traversal.{FolderTree, Found, found_at, found_in, leads_nowhere, with_file, with_folder}
use Rattle.streams.specs.declared.system.Standing.{Standing}
use Rattle.streams.specs.declared.system.Standing.TheVariants.{File, Folder, Other}

-- whether the traversal lists `path` as a file, if the path leads to the given thing
abbrev pub is_file : Result Standing ErrorKind → List ℕ → Bool
is_file (Ok File) path = true
is_file (Ok (Folder number)) path = false
is_file (Ok Other) path = false
is_file (Err kind) path = is_some (file_kind_of path)

-- whether the path leads to a folder
abbrev pub is_folder : Result Standing ErrorKind → Bool
is_folder (Ok File) = false
is_folder (Ok (Folder number)) = true
is_folder (Ok Other) = false
is_folder (Err kind) = false

-- the path of a folder with `/` at its end, as it is in front of the names in the folder
abbrev pub with_slash : List ℕ → List ℕ
with_slash path = path ++ 47 ∷ []

-- `new` has the files and folders of `old`, followed by `files` and `folders`
pub record Adds (old new : Found) (files folders : List (List ℕ)) : Type 0 where
  -- the files are those before and then `files`
  pub files_are : new.files ≡ old.files ++ files
  -- the folders are those before and then `folders`, each with a `/` at its end
  pub folders_are : new.folders ≡ old.folders ++ map with_slash folders

-- if nothing changes, no file and no folder was added
pub adds_none : (found : Found) → Adds found found [] []
adds_none found = record { files_are = sym (append-nil found.files); folders_are = sym (append-nil found.folders) }

-- two steps add what the first adds, and then what the second adds
pub adds_more : (old middle new : Found) (files more folders below : List (List ℕ)) → Adds old middle files folders
    → Adds middle new more below → Adds old new (files ++ more) (folders ++ below)
adds_more old middle new files more folders below one two = record {
  files_are =
      two.files_are ∙ ap (λ (list : List (List ℕ)). list ++ more) one.files_are
      ∙ append_assoc old.files files more;
  folders_are =
      two.folders_are ∙ ap (λ (list : List (List ℕ)). list ++ map with_slash below) one.folders_are
      ∙ append_assoc old.folders (map with_slash folders) (map with_slash below)
      ∙ ap (λ (list : List (List ℕ)). old.folders ++ list) (sym (map-append with_slash folders below));
}

-- the path of `name` within `below`
abbrev pub path_of : List ℕ → List ℕ → List ℕ
path_of below name = below ++ name

-- a list of `path` alone if it is listed, otherwise the empty list
abbrev one_if : Bool → List ℕ → List (List ℕ)
one_if listed path = cond listed (path ∷ []) []

-- if a path is either listed as a file or passed over, it is added to the files exactly if it is listed
choice_adds : (listed nowhere : Bool) (path : List ℕ) (old new : Found)
    → cond listed (Some (with_file path old)) (cond nowhere (Some old) None) ≡ Some new
    → Adds old new (one_if listed path) []
choice_adds true nowhere path old new found =
    let is : with_file path old ≡ new = cc in
    subst (λ (last : Found). Adds old last (path ∷ []) []) is
    (record { files_are = refl; folders_are = sym (append-nil old.folders) })
choice_adds false true path old new found =
    let is : old ≡ new = cc in subst (λ (last : Found). Adds old last [] []) is (adds_none old)
choice_adds false false path old new found = absurd (cc)

-- looking at a path adds it to the files, to the folders, or to neither
at_adds : (what : Result Standing ErrorKind) (path : List ℕ) (old new : Found) → found_at what path old ≡ Some new
    → Adds old new (one_if (is_file what path) path) (one_if (is_folder what) path)
at_adds (Ok File) path old new found = choice_adds true true path old new found
at_adds (Ok (Folder number)) path old new found =
    let is : with_folder path old ≡ new = cc in
    subst (λ (last : Found). Adds old last [] (path ∷ [])) is
    (record { files_are = sym (append-nil old.files); folders_are = refl })
at_adds (Ok Other) path old new found = choice_adds false true path old new found
at_adds (Err kind) path old new found =
    choice_adds (is_some (file_kind_of path)) (leads_nowhere kind) path old new found

-- the path of the first name, if it is listed, comes before those of the others
listed_first : (listed : Bool) (below name : List ℕ) (names : List (List ℕ))
    → one_if listed (below ++ name) ++ map (path_of below) names
    ≡ map (path_of below) (cond listed (name ∷ names) names)
listed_first true below name names = refl
listed_first false below name names = refl

module _ (tree : FolderTree) (folder : List ℕ) where
  -- whether the traversal lists the name in the folder `below` as a file
  abbrev pub lists_file : List ℕ → List ℕ → Bool
  lists_file below name = is_file (tree.at (path_below folder (below ++ name))) (below ++ name)

  -- the name in the folder `below` is that of a folder
  abbrev pub lists_folder : List ℕ → List ℕ → Bool
  lists_folder below name = is_folder (tree.at (path_below folder (below ++ name)))

  -- the names in a folder add the paths of those that are listed as files, and the paths of those that are folders
  pub in_adds : (below : List ℕ) (names : List (List ℕ)) (old new : Found)
      → found_in tree folder below names old ≡ Some new
      → Adds old new (map (path_of below) (filter (lists_file below) names))
      (map (path_of below) (filter (lists_folder below) names))
  in_adds below [] old new found =
      let is : old ≡ new = cc in subst (λ (last : Found). Adds old last [] []) is (adds_none old)
  in_adds below (name ∷ names) old new found =
      option_and_then_some (found_in tree folder below names)
      (found_at (tree.at (path_below folder (below ++ name))) (below ++ name) old) new found
      (λ middle one rest.
      let both = adds_more old middle new _ _ _ _
      (at_adds (tree.at (path_below folder (below ++ name))) (below ++ name) old middle one)
      (in_adds below names middle new rest) in record {
        files_are =
            both.files_are ∙ ap (λ (files : List (List ℕ)). old.files ++ files)
            (listed_first (lists_file below name) below name (filter (lists_file below) names));
        folders_are =
            both.folders_are ∙ ap (λ (folders : List (List ℕ)). old.folders ++ map with_slash folders)
            (listed_first (lists_folder below name) below name (filter (lists_folder below) names));
      })
