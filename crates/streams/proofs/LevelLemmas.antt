-- The paths of the files that a traversal finds differ. The paths of one level have equally many `/`, one more than
-- those of the level above; and the text before the last `/` tells the folder.
use Rattle.std.proofs.Common.{◌≡◌, ◌≢◌, ◌∙◌, ℕ, ◌+◌, ◌<◌, ◌++◌, List, [], ◌∷◌}
use Rattle.std.proofs.Common.{Bool, ap, arith, map, refl, subst, sym}
use Rattle.std.proofs.lemmas.Cmp.{nat_list_eq_equiv}
use Rattle.std.proofs.lemmas.List.{append_cancel_left, append_cancel_right}
use Rattle.std.proofs.lemmas.List.Elements.{All-append, All-contains, All-cons, All-filter, All-head, All-map, All-nil}
use Rattle.std.proofs.lemmas.List.Elements.{All-tail, All-weaker, Contains-append_right}
use Rattle.std.proofs.lemmas.List.Kept.{AllPairs-filter}
use Rattle.std.proofs.lemmas.List.Sorted.{All-permutation}
use Rattle.std.proofs.lemmas.Map.Keys.{IsDistinct-IsPermutation}
use Rattle.std.proofs.lemmas.Map.Made.{AllPairs-from_IsDistinct}
use Rattle.std.proofs.lemmas.Slice.Eq.{bytes_eq-Decides}
use Rattle.std.specs.List.{All, Contains, filter}
use Rattle.std.specs.Prelude.{bytes_eq}
use Rattle.streams.specs.Folders.{path_below}
use Rattle.streams.specs.NamesOnce.{ListsNamesOnce}
use Rattle.streams.specs.Traversal.{AreFilesBelow, AreNamesIn, Descends, Enters, EntersAll, FolderTree, Found}
use Rattle.streams.specs.Traversal.{again, deeper, ended, first, no_more, one_more}
use Rattle.streams.proofs.DifferLemmas.{Differ, differ_append, differ_first, differ_map, differ_none, differ_one}
use Rattle.streams.proofs.DifferLemmas.{differ_rest}
use Rattle.streams.proofs.FoundLemmas.{Adds, adds_more, adds_none, in_adds, lists_file, lists_folder, path_of}
use Rattle.streams.proofs.FoundLemmas.{with_slash}
use Rattle.streams.proofs.SlashLemmas.{last_append, last_after, no_slashes, same_below, slashes, slashes_append}

-- the name has no `/`
abbrev IsPlain : List ℕ → Type 0
IsPlain name = slashes name ≡ 0

-- `path` is that of a name in the folder `below`
abbrev StandsUnder : List ℕ → List ℕ → Type 0
StandsUnder below path = (name : List ℕ) × IsPlain name × (path ≡ below ++ name)

-- `path` is that of a name in one of the folders of a level
abbrev StandsIn : List (List ℕ) → List ℕ → Type 0
StandsIn level path = (below : List ℕ) × Contains level below × StandsUnder below path

-- `path` belongs to a level above: it has fewer than `depth` `/`
abbrev IsAbove : ℕ → List ℕ → Type 0
IsAbove depth path = slashes path < depth

-- the paths differ, and `Stands` holds of each
record AreNew (Stands : List ℕ → Type 0) (paths : List (List ℕ)) : Type 0 where
  differ : Differ paths
  stand : All Stands paths

new_none : (Stands : List ℕ → Type 0) → AreNew Stands []
new_none Stands = record { differ = differ_none; stand = All-nil Stands }

-- a step found files and folders; the files differ, the folders differ, and `Stands` holds of each
record AddsNew (Stands : List ℕ → Type 0) (old new : Found) : Type 0 where
  files : List (List ℕ)
  folders : List (List ℕ)
  adds : Adds old new files folders
  new_files : AreNew Stands files
  new_folders : AreNew Stands folders

-- the path of a folder at `depth`: it has `depth` `/`, and is empty or ends with one
record IsBelow (depth : ℕ) (below : List ℕ) : Type 0 where
  deep : slashes below ≡ depth
  ends : last_after 47 below ≡ 47

-- the folders of a level differ, and each has its path at `depth`
record IsLevel (depth : ℕ) (level : List (List ℕ)) : Type 0 where
  differ : Differ level
  below : All (IsBelow depth) level

-- a path in a folder of a level has as many `/` as the path of that folder
stands_deep : (depth : ℕ) (level : List (List ℕ)) (path : List ℕ) → IsLevel depth level → StandsIn level path
    → slashes path ≡ depth
stands_deep depth level path is (below, has, (name, plain, same)) =
    let deep = (All-contains (IsBelow depth) level below is.below has).deep in
    let sum = slashes_append below name in
    let all = ap slashes same in omega arith

-- the names in a folder differ and have no `/`
names_differ : (tree : FolderTree) (path : List ℕ) (names : List (List ℕ)) → ListsNamesOnce tree
    → AreNamesIn tree path names → AreNew IsPlain names
names_differ tree path names once are =
    let given = once path are.given are.told in record {
      differ =
          AllPairs-from_IsDistinct bytes_eq-Decides names
          (IsDistinct-IsPermutation bytes_eq nat_list_eq_equiv.symm are.given names are.same given.0);
      stand =
          All-weaker (λ name. All (λ byte. byte ≢ 47) name) IsPlain no_slashes names
          (All-permutation (λ name. All (λ byte. byte ≢ 47) name) are.given names are.same given.1);
    }

-- the paths of those names in a folder that `keeps` keeps differ
paths_differ : (below : List ℕ) (keeps : List ℕ → Bool) (names : List (List ℕ)) → AreNew IsPlain names
    → AreNew (StandsUnder below) (map (path_of below) (filter keeps names))
paths_differ below keeps names new = record {
  differ =
      differ_map (path_of below) (append_cancel_left below) (filter keeps names)
      (AllPairs-filter (λ one other. one ≢ other) keeps names new.differ);
  stand =
      All-map (StandsUnder below) (path_of below) (filter keeps names)
      (All-filter keeps (λ name. StandsUnder below (below ++ name)) names
      (All-weaker IsPlain (λ name. StandsUnder below (below ++ name)) (λ name plain. (name, plain, refl)) names
      new.stand));
}

-- two paths in different folders of one level differ
under_apart : (depth : ℕ) (below other path later : List ℕ) → IsBelow depth below → IsBelow depth other
    → below ≢ other → StandsUnder below path → StandsUnder other later → path ≢ later
under_apart depth below other path later one two apart under elsewhere same =
    apart (same_below 47 below other under.0 elsewhere.0 one.ends two.ends under.1 elsewhere.1
    (sym under.2 ∙ same ∙ elsewhere.2))

-- if the paths in one folder differ, and so do those in the other folders of the level, all of them differ
new_more : (depth : ℕ) (below : List ℕ) (level own others : List (List ℕ)) → IsLevel depth (below ∷ level)
    → AreNew (StandsUnder below) own → AreNew (StandsIn level) others
    → AreNew (StandsIn (below ∷ level)) (own ++ others)
new_more depth below level own others is one two =
    let first_below = All-head (IsBelow depth) below level is.below in
    let rest_below = All-tail (IsBelow depth) below level is.below in
    let apart = differ_first below level is.differ in record {
      differ =
          differ_append own others one.differ two.differ
          (All-weaker (StandsUnder below) (λ path. All (λ later. path ≢ later) others)
          (λ path under. All-weaker (StandsIn level) (λ later. path ≢ later)
          (λ later stands. under_apart depth below stands.0 path later first_below
          (All-contains (IsBelow depth) level stands.0 rest_below stands.1)
          (All-contains (λ other. below ≢ other) level stands.0 apart stands.1) under stands.2)
          others two.stand) own one.stand);
      stand =
          All-append (StandsIn (below ∷ level)) own others
          (All-weaker (StandsUnder below) (StandsIn (below ∷ level))
          (λ path under. (below, (0, omega arith, refl), under)) own one.stand)
          (All-weaker (StandsIn level) (StandsIn (below ∷ level))
          (λ path stands. (stands.0, Contains-append_right (below ∷ []) level stands.0 stands.1, stands.2)) others
          two.stand);
    }

module _ (tree : FolderTree) (once : ListsNamesOnce tree) (folder : List ℕ) where
  -- the paths that entering one folder adds differ
  enters_adds : (below : List ℕ) (entered after : List ℕ) (old new : Found)
      → Enters tree folder below entered old after new → AddsNew (StandsUnder below) old new
  enters_adds below _ _ _ _ (again number entered found stands met) = record {
    files = [];
    folders = [];
    adds = adds_none found;
    new_files = new_none (StandsUnder below);
    new_folders = new_none (StandsUnder below);
  }
  enters_adds below _ _ _ _ (first number entered old new names stands fresh are found) =
      let own = names_differ tree (path_below folder below) names once are in record {
        files = map (path_of below) (filter (lists_file tree folder below) names);
        folders = map (path_of below) (filter (lists_folder tree folder below) names);
        adds = in_adds tree folder below names old new found;
        new_files = paths_differ below (lists_file tree folder below) names own;
        new_folders = paths_differ below (lists_folder tree folder below) names own;
      }

  -- the paths that entering the folders of a level adds differ
  all_adds : (depth : ℕ) (level : List (List ℕ)) (entered last : List ℕ) (old new : Found)
      → EntersAll tree folder level entered old last new → IsLevel depth level → AddsNew (StandsIn level) old new
  all_adds depth _ _ _ _ _ (no_more entered found) is = record {
    files = [];
    folders = [];
    adds = adds_none found;
    new_files = new_none (StandsIn []);
    new_folders = new_none (StandsIn []);
  }
  all_adds depth _ _ _ _ _ (one_more below rest start middle last old between new enters others) is =
      let one = enters_adds below start middle old between enters in
      let two = all_adds depth rest middle last between new others (record {
        differ = differ_rest below rest is.differ;
        below = All-tail (IsBelow depth) below rest is.below;
      }) in record {
        files = one.files ++ two.files;
        folders = one.folders ++ two.folders;
        adds = adds_more old between new one.files two.files one.folders two.folders one.adds two.adds;
        new_files = new_more depth below rest one.files two.files is one.new_files two.new_files;
        new_folders = new_more depth below rest one.folders two.folders is one.new_folders two.new_folders;
      }

  -- the folders that were found are a level, one deeper
  next_level : (depth : ℕ) (level folders : List (List ℕ)) → IsLevel depth level
      → AreNew (StandsIn level) folders
      → IsLevel (depth + 1) (map with_slash folders)
  next_level depth level folders is new = record {
    differ = differ_map with_slash (λ one other. append_cancel_right one other (47 ∷ [])) folders new.differ;
    below =
        All-map (IsBelow (depth + 1)) with_slash folders
        (All-weaker (StandsIn level) (λ path. IsBelow (depth + 1) (with_slash path))
        (λ path stands. record {
          deep =
              let flat = stands_deep depth level path is stands in
              let sum = slashes_append path (47 ∷ []) in omega arith;
          ends = last_append 47 path 47;
        }) folders new.stand);
  }

  -- the files of a level differ from those of the levels above
  next_files : (depth : ℕ) (level files more : List (List ℕ)) → IsLevel depth level
      → AreNew (IsAbove depth) files
      → AreNew (StandsIn level) more → AreNew (IsAbove (depth + 1)) (files ++ more)
  next_files depth level files more is old new = record {
    differ =
        differ_append files more old.differ new.differ
        (All-weaker (IsAbove depth) (λ path. All (λ later. path ≢ later) more)
        (λ path above. All-weaker (StandsIn level) (λ later. path ≢ later)
        (λ later stands same.
        let flat = stands_deep depth level later is stands in
        let deep = ap slashes same in omega arith) more new.stand) files old.stand);
    stand =
        All-append (IsAbove (depth + 1)) files more
        (All-weaker (IsAbove depth) (IsAbove (depth + 1)) (λ path above. omega arith) files old.stand)
        (All-weaker (StandsIn level) (IsAbove (depth + 1))
        (λ path stands. let flat = stands_deep depth level path is stands in omega arith) more new.stand);
  }

  -- the paths of all files that the levels have differ
  all_differ : (depth levels : ℕ) (level : List (List ℕ)) (entered : List ℕ) (files all : List (List ℕ))
      → Descends tree folder levels level entered files all → IsLevel depth level → AreNew (IsAbove depth) files
      → Differ all
  all_differ depth _ _ _ _ _ (ended level entered files) is old = old.differ
  all_differ depth _ _ _ _ _ (deeper levels level start last files all found enters rest) is old =
      let more = all_adds depth level start last (record { files = files; folders = [] }) found enters is in
      all_differ (depth + 1) levels found.folders last found.files all rest
      (subst (IsLevel (depth + 1)) (sym more.adds.folders_are)
      (next_level depth level more.folders is more.new_folders))
      (subst (AreNew (IsAbove (depth + 1))) (sym more.adds.files_are)
      (next_files depth level files more.files is old more.new_files))

  -- the paths of all files below a folder differ
  pub below_differ : (files : List (List ℕ)) → AreFilesBelow tree folder files → Differ files
  below_differ files descends =
      all_differ 0 17 ([] ∷ []) [] [] files descends (record {
        differ = differ_one [];
        below = All-cons (IsBelow 0) [] [] (record { deep = refl; ends = refl }) (All-nil (IsBelow 0));
      }) (new_none (IsAbove 0))
