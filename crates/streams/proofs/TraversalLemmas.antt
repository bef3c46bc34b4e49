-- The traversal of a folder, step by step: names, folders, levels.
use Rattle.std.proofs.Common.{add-one, ◌≡◌, ◌∙◌, ℕ, suc, ◌+◌, ◌<◌, ◌≤◌, ◌++◌, List, [], ◌∷◌, Bool, true, false, Some}
use Rattle.std.proofs.Common.{Result, Ok, Err, IfOk, OnOk, String, Global, get_or, length, drop, drop-cons, map, not}
use Rattle.std.proofs.Common.{ap, sym, subst, refl, arith, is_lt, nat_cmp, string_bytes}
use Rattle.std.proofs.lemmas.Bool.{true≢false}
use Rattle.std.proofs.lemmas.List.{drop_all, get_or-map, length-map}
use Rattle.std.specs.Cmp.Lexicographic.{slice_cmp}
use Rattle.std.specs.List.{list_any}
use Rattle.std.specs.List.Sorted.{IsSorted, IsSortedBy}
use Rattle.std.specs.Prelude.{nat_eq}
use Rattle.std.specs.String.{string_cmp}
use Rattle.key_interner.specs.KeyInterner.{keys_after}
use Rattle.streams.specs.Folders.{path_below}
use Rattle.streams.specs.Traversal.{AreFilesBelow, AreFilesOfAll, AreNamesIn, Descends, Enters, EntersAll, FolderTree}
use Rattle.streams.specs.Traversal.{Found}
use Rattle.streams.specs.Traversal.{again, deeper, ended, first, found_in, no_more, numbered_name, one_more}
use Rattle.streams.specs.declared.system.Standing.TheVariants.{Folder}

-- the bytes of the texts from index `i` on are those of the text at `i` and those of the texts after it
texts_ahead : (texts : List (String Global)) (i : ℕ) (d : String Global) (text : List ℕ) → i < length texts
    → text ≡ string_bytes (get_or texts i d)
    → map string_bytes (drop i texts) ≡ text ∷ map string_bytes (drop (i + 1) texts)
texts_ahead texts i d text within is =
    ap (map string_bytes) (drop-cons texts i d within)
    ∙ ap (λ (one : List ℕ). one ∷ map string_bytes (drop (suc i) texts)) (sym is)
    ∙ ap (λ (n : ℕ). text ∷ map string_bytes (drop n texts)) (sym (add-one i))

-- a list sorted by what `f` yields is sorted after applying `f`
sorted_map : {X Y : Type 0} (f : X → Y) (lt : Y → Y → Bool) (xs : List X)
    → IsSortedBy (λ one other. lt (f one) (f other)) xs → IsSortedBy lt (map f xs)
sorted_map f lt [] sorted k default low high = absurd (omega arith)
sorted_map f lt (x ∷ xs) sorted k default low high =
    grind (
      arith,
      (get_or-map f (x ∷ xs) (k + 1) x default),
      (get_or-map f (x ∷ xs) k x default),
      (length-map (x ∷ xs) f),
      (sorted k x low),
    )

-- the bytes of sorted names are in byte order
pub names_in_order : (sorted : List (String Global)) → IsSorted string_cmp sorted
    → IsSorted (slice_cmp nat_cmp) (map string_bytes sorted)
names_in_order sorted rising = sorted_map string_bytes (λ one other. is_lt (slice_cmp nat_cmp one other)) sorted rising

-- if `is_new` is the opposite of `met` and false, `met` is true: a folder that is not new was entered before
pub told_again : (met is_new : Bool) → is_new ≡ not met → is_new ≡ false → met ≡ true
told_again true is_new is old = refl
told_again false is_new is old = absurd (true≢false (sym is ∙ old))

-- if `is_new` is the opposite of `met` and true, `met` is false: a new folder was not entered before
pub told_first : (met is_new : Bool) → is_new ≡ not met → is_new ≡ true → met ≡ false
told_first false is_new is new = refl
told_first true is_new is new = absurd (true≢false (sym new ∙ is))

module _ (tree : FolderTree) (folder : List ℕ) where
  -- entering a folder that was entered before finds nothing
  pub enters_again : (below path : List ℕ) (number : ℕ) (old new : List ℕ) (found : Found)
      → path ≡ path_below folder below
      → tree.at path ≡ Ok (Folder number) → list_any (nat_eq number) old ≡ true → new ≡ keys_after old number
      → Enters tree folder below old found new found
  enters_again below path number old new found below_is stands met keys =
      let same : new ≡ old = keys ∙ rw met refl in
      subst (λ (after : List ℕ). Enters tree folder below old found after found) (sym same)
      (again number old found (ap tree.at (sym below_is) ∙ stands) met)

  -- entering a folder for the first time finds what its names add
  pub enters_first : (below path : List ℕ) (number : ℕ) (old new : List ℕ) (before after : Found)
      (names : List (List ℕ))
      → path ≡ path_below folder below → tree.at path ≡ Ok (Folder number) → list_any (nat_eq number) old ≡ false
      → new ≡ keys_after old number → AreNamesIn tree path names → found_in tree folder below names before ≡ Some after
      → Enters tree folder below old before new after
  enters_first below path number old new before after names below_is stands fresh keys are found =
      let longer : new ≡ old ++ number ∷ [] = keys ∙ rw fresh refl in
      subst (λ (entered : List ℕ). Enters tree folder below old before entered after) (sym longer)
      (first number old before after names (ap tree.at (sym below_is) ∙ stands) fresh
      (subst (λ (place : List ℕ). AreNamesIn tree place names) below_is are) found)

  -- the traversal enters a folder for the first time if it can record what the folder has under each of its names
  pub enters_ok : {E : Type 0} (below path : List ℕ) (number : ℕ) (old middle new : List ℕ) (before after : Found)
      (names : List (List ℕ))
      (result : Result (Unit {0}) E) → path ≡ path_below folder below → tree.at path ≡ Ok (Folder number)
      → list_any (nat_eq number) old ≡ false → middle ≡ keys_after old number → new ≡ middle
      → AreNamesIn tree path names
      → OnOk result (found_in tree folder below names before ≡ Some after)
      → OnOk result (Enters tree folder below old before new after)
  enters_ok below path number old middle new before after names (Ok done) below_is stands fresh keys same are found =
      enters_first below path number old new before after names below_is stands fresh (same ∙ keys) are found
  enters_ok below path number old middle new before after names (Err error) below_is stands fresh keys same are found =
      tt

  -- entering one folder of a level and then the others enters all folders from index `i` on
  pub enters_next : (level : List (String Global)) (i : ℕ) (d : String Global) (below : List ℕ)
      (one middle last : List ℕ) (old between new : Found)
      → i < length level → below ≡ string_bytes (get_or level i d) → Enters tree folder below one old middle between
      → EntersAll tree folder (map string_bytes (drop (i + 1) level)) middle between last new
      → EntersAll tree folder (map string_bytes (drop i level)) one old last new
  enters_next level i d below one middle last old between new within is enters rest =
      subst (λ (texts : List (List ℕ)). EntersAll tree folder texts one old last new)
      (sym (texts_ahead level i d below within is))
      (one_more below (map string_bytes (drop (i + 1) level)) one middle last old between new enters rest)

  -- past the last folder of a level none is entered
  pub enters_none : (level : List (String Global)) (i : ℕ) (entered : List ℕ) (found : Found) → length level ≤ i
      → EntersAll tree folder (map string_bytes (drop i level)) entered found entered found
  enters_none level i entered found following =
      subst (λ (texts : List (String Global)). EntersAll tree folder (map string_bytes texts) entered found entered
      found)
      (sym (drop_all i level following)) (no_more entered found)

  -- going through one level and then the others below goes through all of them
  pub level_next : (levels left : ℕ) (level next : List (List ℕ)) (one last after : List ℕ) (old found new : Found)
      (all : List (List ℕ))
      → levels ≡ suc left → old.folders ≡ [] → EntersAll tree folder level one old last found
      → next ≡ found.folders → after ≡ last → new.files ≡ found.files
      → Descends tree folder left next after new.files all → Descends tree folder levels level one old.files all
  level_next levels left level next one last after old found new all is none enters next_is after_is files_is rest =
      let begun : EntersAll tree folder level one (record { files = old.files; folders = [] }) last found =
      subst (λ (folders : List (List ℕ)). EntersAll tree folder level one
      (record { files = old.files; folders = folders }) last found) none enters in
      let below : Descends tree folder left found.folders last found.files all =
      subst (λ (texts : List (List ℕ)). Descends tree folder left texts last found.files all) next_is
      (subst (λ (keys : List ℕ). Descends tree folder left next keys found.files all) after_is
      (subst (λ (files : List (List ℕ)). Descends tree folder left next after files all) files_is rest)) in
      subst (λ (n : ℕ). Descends tree folder n level one old.files all) (sym is)
      (deeper left level one last old.files all found begun below)

  -- going through 0 levels finds no more files
  pub level_none : (levels : ℕ) (level : List (List ℕ)) (entered : List ℕ) (files : List (List ℕ)) → levels ≡ 0
      → Descends tree folder levels level entered files files
  level_none levels level entered files none =
      subst (λ (n : ℕ). Descends tree folder n level entered files files) (sym none) (ended level entered files)

-- the files of the folders from index `i` on are those of the folder at `i` and those of the folders after it
pub folder_next : (tree : FolderTree) (folders : List (String Global)) (i number : ℕ) (d : String Global)
    (folder : List ℕ)
    (own others : List (List ℕ)) → i < length folders → folder ≡ string_bytes (get_or folders i d)
    → AreFilesBelow tree folder own → AreFilesOfAll tree (number + 1) (drop (i + 1) folders) others
    → AreFilesOfAll tree number (drop i folders) (map (numbered_name number) own ++ others)
folder_next tree folders i number d folder own others within is files rest =
    subst (λ (some : List (String Global)). AreFilesOfAll tree number some (map (numbered_name number) own ++ others))
    (sym (drop-cons folders i d within)) (
      own,
      others,
      subst (λ (path : List ℕ). AreFilesBelow tree path own) is files,
      subst (λ (n : ℕ). AreFilesOfAll tree (number + 1) (drop n folders) others) (add-one i) rest,
      refl,
    )

-- past the last folder there are no files
pub folder_none : (tree : FolderTree) (folders : List (String Global)) (i number : ℕ) → length folders ≤ i
    → AreFilesOfAll tree number (drop i folders) []
folder_none tree folders i number following =
    subst (λ (some : List (String Global)). AreFilesOfAll tree number some []) (sym (drop_all i folders following)) refl

-- if the value of `result`, if it has one, is the value of `given`, and `P` holds of the value of `given`, then `P`
-- holds of the value of `result`
pub given_ok : {T E F : Type 0} (P : T → Type 0) (result : Result T E) (given : Result T F)
    → IfOk result (λ value. given ≡ Ok value)
    → IfOk given P → IfOk result P
given_ok {T} {E} {F} P (Ok value) given is said = subst (λ (one : Result T F). IfOk one P) is said
given_ok {T} {E} {F} P (Err fault) given is said = tt
