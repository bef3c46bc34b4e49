-- In places without a fault no two chosen rows of active concepts have one identifier, and no list has more items
-- than there are rows.
use Rattle.std.proofs.lemmas.Grind.{common_steps}
use Rattle.std.proofs.Common.{ℕ, ◌≡◌, ◌≤◌, List, [], ◌∷◌, ◌++◌, length, map, Option, Some, append_assoc, arith, Bool}
use Rattle.std.proofs.Common.{false, nat_eq, filter_map}
use Rattle.std.specs.Prelude.{⊤}
use Rattle.std.specs.List.{AllByRecursion, IsDistinct, cons_option, list_any}
use Rattle.std.proofs.lemmas.Bool.Decides.{nat_tests}
use Rattle.std.proofs.lemmas.List.{length-map}
use Rattle.std.proofs.lemmas.List.Folds.{list_any-append}
use Rattle.row_lists.specs.Marked.{marked}
use Rattle.release_rows.specs.Chosen.{choices, chosen, is_superseded}
use Rattle.release_rows.specs.Files.{text_of_row, Place, RowAt}
use Rattle.row_lists.specs.ListsRead.{AreFew}
use Rattle.release_rows.specs.ReadRows.{IsReadFrom}
use Rattle.release_rows.specs.Limits.{row_total}
use Rattle.row_lists.specs.ReleaseLists.{ReleaseLists, concept_listed}
use Rattle.release_rows.specs.declared.limits.Limits.{Limits}
use Rattle.row_lists.proofs.ChosenItemLemmas.{length-marked}
use Rattle.release_rows.proofs.SingleLemmas.{any-at}

-- ---- a row is among others if each test that none of them passes fails for it
-- `row` is among `rows`, so far as tests can tell: a test that no row passes fails for it
abbrev pub IsAmong : List RowAt → RowAt → Type 0
IsAmong rows row = (test : RowAt → Bool) → list_any test rows ≡ false → test row ≡ false

-- a row that is among `front` is among `front` followed by `rows`
pub among-append : (front rows : List RowAt) (row : RowAt) → IsAmong front row → IsAmong (front ++ rows) row
among-append front rows row among test none = grind (arith, common_steps, nat_tests, list_any-append)

-- a row in the middle of a list is among the rows of the list
pub among-here : (front rows : List RowAt) (row : RowAt) → IsAmong (front ++ row ∷ rows) row
among-here front rows row test none = any-at test front rows row none

-- each of `rows` is among `all`
abbrev pub AreAmong : List RowAt → List RowAt → Type 0
AreAmong all [] = ⊤
AreAmong all (row ∷ rows) = IsAmong all row × AreAmong all rows

-- the last rows of a list are all among the list
pub are_among : (front rows : List RowAt) → AreAmong (front ++ rows) rows
are_among front [] = tt
are_among front (row ∷ rows) =
    grind (arith, common_steps, nat_tests, among-here, append_assoc, (are_among (front ++ row ∷ []) rows))

-- ---- two chosen rows of active concepts have different identifiers
-- the identifiers of the active concepts among `rows`
abbrev active_ids : List RowAt → List ℕ
active_ids rows = filter_map concept_listed (map text_of_row rows)

-- after a chosen row of an active concept no chosen row has its identifier
apart-later : (rows earlier later : List RowAt) (row : RowAt) (id : ℕ) → concept_listed (text_of_row row) ≡ Some id
    → IsAmong rows row → is_superseded rows row ≡ false → IsAmong earlier row → AreAmong rows later
    → AllByRecursion (λ other. nat_eq id other ≡ false) (active_ids (marked (choices rows earlier later) later))
apart-later rows earlier [] row id listed among latest before all = tt
apart-later rows earlier (next ∷ later) row id listed among latest before all =
    grind (
      arith,
      nat_tests,
      nat_eq,
      (apart-later rows (earlier ++ next ∷ []) later row id listed among latest
          (among-append earlier (next ∷ []) row before) all.1),
      before,
      among,
    )

distinct-choices : (rows earlier later : List RowAt) → AreAmong rows later
    → IsDistinct nat_eq (active_ids (marked (choices rows earlier later) later))
unfolding IsDistinct
distinct-choices rows earlier [] all = tt
distinct-choices rows earlier (row ∷ later) all =
    grind (
      arith,
      common_steps,
      nat_tests,
      among-here,
      apart-later,
      nat_eq,
      (distinct-choices rows (earlier ++ row ∷ []) later all.1),
    )

-- no two chosen rows of active concepts have one identifier
pub active-distinct : (rows : List RowAt)
    → IsDistinct nat_eq (filter_map concept_listed (map text_of_row (chosen rows)))
active-distinct rows = distinct-choices rows [] rows (are_among [] rows)

-- ---- no list of chosen rows is longer than the rows
-- picking from a list yields no more items than the list has
length-picked : {X Y : Type 0} (pick : X → Option Y) (items : List X) → length (filter_map pick items) ≤ length items
length-picked pick [] = omega arith
length-picked {X} {Y} pick (item ∷ items) = grind (arith, filter_map, cons_option, (length-picked pick items))

-- if `count` and `listed` were read from places without a fault, and the limits allow at most 68,000,000 rows together,
-- there are few enough rows and items (`AreFew`)
pub AreFew-read : (limits : Limits) (places : List Place) (count : ℕ) (listed : ReleaseLists)
    → row_total limits ≤ 68000000 → IsReadFrom limits places count listed → AreFew count listed
AreFew-read limits places count listed room read = grind (arith, length-map, length-marked, length-picked)
