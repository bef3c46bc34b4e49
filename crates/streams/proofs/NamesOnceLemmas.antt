-- The names of the files of folders differ: those of one folder by their paths, those of two folders by the folders'
-- numbers.
use Rattle.std.proofs.Common.{◌≡◌, ◌≢◌, ◌∙◌, ℕ, ◌+◌, ◌<◌, ◌≤◌, ◌^◌, ◌++◌, List, [], ◌∷◌}
use Rattle.std.proofs.Common.{Global, String, arith, length, map, refl, string_bytes, subst, sym}
use Rattle.std.proofs.lemmas.List.{append_cancel_left}
use Rattle.std.proofs.lemmas.List.Elements.{All-append, All-map, All-nil, All-weaker}
use Rattle.std.proofs.lemmas.Map.Made.{IsDistinct-from_AllPairs}
use Rattle.std.proofs.lemmas.Slice.Eq.{bytes_eq-Decides}
use Rattle.std.specs.Fmt.{decimal}
use Rattle.std.specs.List.{All, IsDistinct}
use Rattle.std.specs.Prelude.{bytes_eq}
use Rattle.streams.specs.NamesOnce.{ListsNamesOnce}
use Rattle.streams.specs.Traversal.{AreFilesOf, AreFilesOfAll, FolderTree, numbered_name}
use Rattle.streams.proofs.DifferLemmas.{Differ, differ_append, differ_map, differ_none, each}
use Rattle.streams.proofs.LevelLemmas.{below_differ}
use Rattle.streams.proofs.SlashLemmas.{same_number}

-- two paths with one number before them are equal if the names are equal
same_path : (number : ℕ) (one other : List ℕ)
    → numbered_name number one ≡ numbered_name number other → one ≡ other
same_path number one other same =
    let following = append_cancel_left (decimal number) (47 ∷ one) (47 ∷ other) same in cc

-- the number in the name is `least` or greater, and below 2^64
record HasNumberFrom (least : ℕ) (name : List ℕ) : Type 0 where
  number : ℕ
  path : List ℕ
  more : least ≤ number
  small : number < 2 ^ 64
  is : name ≡ numbered_name number path

-- a file of a folder has another name than each file of a folder with a greater number
numbers_apart : (number : ℕ) (path later : List ℕ) → number < 2 ^ 64 → HasNumberFrom (number + 1) later
    → numbered_name number path ≢ later
numbers_apart number path later small from same =
    let number_is = same_number number from.number path from.path small from.small (same ∙ from.is) in
    let more = from.more in omega arith

from_less : (least : ℕ) (name : List ℕ) → HasNumberFrom (least + 1) name → HasNumberFrom least name
from_less least name from =
    let above = from.more in record {
      number = from.number;
      path = from.path;
      more = omega arith;
      small = from.small;
      is = from.is;
    }

-- the names differ, and the number in each is `least` or greater
record AreNumberedFrom (least : ℕ) (names : List (List ℕ)) : Type 0 where
  differ : Differ names
  numbers : All (HasNumberFrom least) names

numbered_none : (number : ℕ) → AreNumberedFrom number []
numbered_none number = record { differ = differ_none; numbers = All-nil (HasNumberFrom number) }

-- the names of the files of a folder differ from one another and from those of the folders after it
numbered_more : (number : ℕ) (own others : List (List ℕ)) → number < 2 ^ 64 → Differ own
    → AreNumberedFrom (number + 1) others → AreNumberedFrom number (map (numbered_name number) own ++ others)
numbered_more number own others small differ following = record {
  differ =
      differ_append (map (numbered_name number) own) others
      (differ_map (numbered_name number) (same_path number) own differ) following.differ
      (All-map (λ name. All (λ later. name ≢ later) others) (numbered_name number) own
      (each (λ path. All (λ later. numbered_name number path ≢ later) others) own
      (λ path. All-weaker (HasNumberFrom (number + 1)) (λ later. numbered_name number path ≢ later)
      (λ later from. numbers_apart number path later small from) others following.numbers)));
  numbers =
      All-append (HasNumberFrom number) (map (numbered_name number) own) others
      (All-map (HasNumberFrom number) (numbered_name number) own
      (each (λ path. HasNumberFrom number (numbered_name number path)) own
      (λ path. record { number = number; path = path; more = omega arith; small = small; is = refl })))
      (All-weaker (HasNumberFrom (number + 1)) (HasNumberFrom number)
      (from_less number) others following.numbers);
}

module _ (tree : FolderTree) (once : ListsNamesOnce tree) where
  numbered_differ : (number : ℕ) (folders : List (String Global)) (names : List (List ℕ))
      → number + length folders ≤ 2 ^ 64 → AreFilesOfAll tree number folders names
      → AreNumberedFrom number names
  numbered_differ number [] names small none = subst (AreNumberedFrom number) (sym none) (numbered_none number)
  numbered_differ number (folder ∷ folders) names small (own, others, below, all, is) =
      let differ = below_differ tree once (string_bytes folder) own below in
      let following = numbered_differ (number + 1) folders others (omega arith) all in
      subst (AreNumberedFrom number) (sym is) (numbered_more number own others (omega arith) differ following)

  names_differ : (folders : List (String Global)) (names : List (List ℕ)) → length folders < 2 ^ 64
      → AreFilesOf tree folders names → Differ names
  names_differ [] names small files =
      let all = files.1 (λ one. omega arith) in (numbered_differ 1 [] names (omega arith) all).differ
  names_differ (folder ∷ []) names small files =
      let below = files.0 refl in below_differ tree once below.0 names below.2
  names_differ (folder ∷ other ∷ folders) names small files =
      let all = files.1 (λ one. omega arith) in
      (numbered_differ 1 (folder ∷ other ∷ folders) names (omega arith) all).differ

  -- no two files of folders have one name
  pub no_name_twice : (folders : List (String Global)) (names : List (List ℕ)) → length folders < 2 ^ 64
      → AreFilesOf tree folders names → IsDistinct bytes_eq names
  no_name_twice folders names small files =
      IsDistinct-from_AllPairs bytes_eq-Decides names (names_differ folders names small files)
