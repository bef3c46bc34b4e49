-- What a load returns after its first pass: the lists of the chosen rows, or the first fault.
use Rattle.std.proofs.lemmas.Grind.{common_steps}
use Rattle.std.proofs.Common.{Vec, arith, rules, ℕ, ◌≡◌, ◌≤◌, ◌∙◌, List, [], ◌∷◌, length, Bool, Option, None, Some, ap}
use Rattle.std.proofs.Common.{map, refl, suc, sym, subst, is_some, filter_map}
use Rattle.std.specs.Prelude.{MatchOption}
use Rattle.std.specs.declared.alloc.Global.{Global}
use Rattle.rf2_rows.specs.RowTexts.{RowText}
use Rattle.row_lists.specs.Marked.{marked}
use Rattle.release_rows.specs.Chosen.{choices, chosen}
use Rattle.release_rows.specs.Files.{text_of_row, Place, RowAt}
use Rattle.release_rows.specs.Faults.{first_fault, first_of}
use Rattle.row_lists.specs.ListsRead.{unmarked}
use Rattle.release_rows.specs.ReadRows.{IsReadFrom}
use Rattle.release_rows.specs.inside.RowStore.{RowStore, nothing_kept}
use Rattle.release_rows.specs.inside.Keys.{AreSingle, uuids_following}
use Rattle.row_lists.specs.ReleaseLists.{ReleaseLists, attribute_listed, inactive_listed, isa_listed, listed_of}
use Rattle.row_lists.specs.ReleaseLists.{listing_of, member_listed, name_listed}
use Rattle.row_lists.specs.ChosenLists.{in_list, items_chosen, listed_chosen, same_listing}
use Rattle.release_rows.specs.Limits.{row_total}
use Rattle.release_rows.specs.inside.FirstPass.{AreChoicesAmong, AreSeen, IsSeen, first_conflict, kept_rows, keys_after}
use Rattle.row_lists.specs.declared.fault.LoadFault.{LoadFault}
use Rattle.release_rows.specs.declared.limits.Limits.{Limits}
use Rattle.row_lists.specs.declared.row_lists.Listing.{Listing}
use Rattle.row_lists.specs.declared.row_lists.Listing.TheVariants as listing
use Rattle.row_lists.proofs.ChosenItemLemmas.{chosen-picked, map-marked}
use Rattle.release_rows.proofs.ListedLemmas.{listed-rows}
use Rattle.number_lists.specs.Members.{times}
use Rattle.release_rows.proofs.SingleLemmas.{no_conflict, single-choices, single-keys}
use Rattle.release_rows.proofs.WentLemmas.{first_of-none, kept_rows-keys, kept_rows-uuids}

-- ---- the lists of chosen rows
module _ (list : Listing) {X : Type 0} (pick : RowText → Option X) (same : (row : RowText)
    → same_listing (listing_of row) list ≡ is_some (pick row)) where
  heres-is : (rows : List RowText) → in_list list (map listing_of rows) ≡ map (λ row. is_some (pick row)) rows
  heres-is [] = refl
  heres-is (row ∷ rows) = (λ i. same row i ∷ heres-is rows i)

  list-chosen : (rows : List RowText) (choices : List Bool)
      → items_chosen (in_list list (map listing_of rows)) choices (filter_map pick rows)
      ≡ filter_map pick (marked choices rows)
  list-chosen rows choices = grind (arith, chosen-picked, (heres-is rows))

inactive-here : (row : RowText) → same_listing (listing_of row) listing.Inactive ≡ is_some (inactive_listed row)
inactive-here row = grind (arith, common_steps)

name-here : (row : RowText) → same_listing (listing_of row) listing.Name ≡ is_some (name_listed row)
name-here row = grind (arith, common_steps)

isa-here : (row : RowText) → same_listing (listing_of row) listing.IsA ≡ is_some (isa_listed row)
isa-here row = grind (arith, common_steps)

attribute-here : (row : RowText) → same_listing (listing_of row) listing.Attribute ≡ is_some (attribute_listed row)
attribute-here row = grind (arith, common_steps)

member-here : (row : RowText) → same_listing (listing_of row) listing.Member ≡ is_some (member_listed row)
member-here row = grind (arith, common_steps)

lists-chosen : (rows : List RowText) (choices : List Bool) → unmarked (listed_chosen (listed_of rows) choices)
    ≡ unmarked (listed_of (marked choices rows))
lists-chosen rows choices = grind (arith, attribute-here, inactive-here, isa-here, list-chosen, member-here, name-here)

-- ---- the rows that the first pass read
keyed-seen : (limits : Limits) (kept : RowStore) (rows : List RowAt) → kept ≡ kept_rows (nothing_kept limits) rows
    → kept.keyed.keys ≡ keys_after [] rows
keyed-seen limits kept rows same = ap (λ (k : RowStore). k.keyed.keys) same ∙ kept_rows-keys (nothing_kept limits) rows

-- the rows that the first pass read are the first rows of the places, and the pass kept their keys
pub are-seen : (limits : Limits) (places : List Place) (kept : RowStore) (fault : Option LoadFault)
    → (all : IsSeen limits places kept fault) → AreSeen kept.keyed places all.seen all.beyond
are-seen limits places kept fault all = search (rules, kept_rows-uuids, keyed-seen)

length-keys : (uuids : List ℕ) (rows : List RowAt) → length (keys_after uuids rows) ≡ length rows
length-keys uuids [] = refl
length-keys uuids (row ∷ rows) = ap suc (length-keys (uuids_following uuids (text_of_row row)) rows)

-- there are as many keys as rows that the first pass read
pub count-seen : (limits : Limits) (places : List Place) (kept : RowStore) (fault : Option LoadFault)
    → (all : IsSeen limits places kept fault) → length kept.keyed.keys ≡ length all.seen
count-seen limits places kept fault all = ap length (keyed-seen limits kept all.seen all.kept_is)
    ∙ length-keys [] all.seen

-- if no key occurs twice, no row conflicts with an earlier one
pub no_conflict-seen : (keyed : List ℕ) (seen : List RowAt) → keyed ≡ keys_after [] seen
    → ((key : ℕ) → times key keyed ≤ 1) → first_conflict [] seen ≡ None
no_conflict-seen keyed seen same few =
    no_conflict [] seen (single-keys [] seen (subst (λ (keys : List ℕ). (key : ℕ) → times key keys ≤ 1) same few))

-- if no key occurs twice, all rows are chosen, and the lists are made of them
read-single : (limits : Limits) (places : List Place) (kept : RowStore) (count : ℕ) → IsSeen limits places kept None
    → count ≡ length kept.keyed.keys
    → ((key : ℕ) → times key kept.keyed.keys ≤ 1) → IsReadFrom limits places count kept.listed
read-single limits places kept count all counted few =
    let single = single-keys [] all.seen
    (subst (λ (keys : List ℕ). (key : ℕ) → times key keys ≤ 1) (keyed-seen limits kept all.seen all.kept_is) few) in
    record {
      clean = all.first ∙ first_of-none (first_conflict [] all.seen) ∙ no_conflict [] all.seen single;
      count_is = counted ∙ count-seen limits places kept None all ∙ ap length (all.whole refl);
      few = subst (λ (n : ℕ). n ≤ row_total limits) (sym (counted ∙ count-seen limits places kept None all))
          (all.room refl);
      lists = grind (arith, unmarked, listed-rows, listed_of, text_of_row, single-choices, chosen);
    }

-- if no row conflicts and `marks` are the choices among the rows, the lists kept by the marks are made of the chosen
-- rows
read-chosen : (limits : Limits) (places : List Place) (kept : RowStore) (count : ℕ)
    (all : IsSeen limits places kept None) → count ≡ length kept.keyed.keys
    → first_conflict [] all.seen ≡ None → (marks : List Bool) → marks ≡ choices all.seen [] all.seen
    → (listed : ReleaseLists) → listed ≡ listed_chosen kept.listed marks
    → IsReadFrom limits places count listed
read-chosen limits places kept count all counted none marks told listed same =
    grind (
      arith,
      all.first,
      first_of-none,
      (count-seen limits places kept None all),
      (all.whole refl),
      (all.room refl),
      listed-rows,
      lists-chosen,
      map-marked,
    )

-- after a first pass without a fault, `listed` is made of the chosen rows if it is all that was kept and no key occurs
-- twice, or if it is what the choices `found` leave of it
pub read-found : (limits : Limits) (places : List Place) (kept : RowStore) (count : ℕ) → IsSeen limits places kept None
    → count ≡ length kept.keyed.keys
    → (found : Option (Vec Bool Global))
    → MatchOption found (AreSingle kept.keyed.keys) (λ chosen. AreChoicesAmong kept.keyed places chosen.items)
    → (listed : ReleaseLists)
    → MatchOption found (listed ≡ kept.listed) (λ chosen. listed ≡ listed_chosen kept.listed chosen.items)
    → IsReadFrom limits places count listed
read-found limits places kept count all counted None single listed same =
    subst (IsReadFrom limits places count) (sym same) (read-single limits places kept count all counted single)
read-found limits places kept count all counted (Some chosen) told listed same =
    let both = told all.seen all.beyond (are-seen limits places kept None all) in
    read-chosen limits places kept count all counted both.0 chosen.items both.1 listed same

-- if no row that the first pass read conflicts with an earlier one, the fault at which the pass ended is the first
-- fault
pub fault-seen : (limits : Limits) (places : List Place) (kept : RowStore) (fault : LoadFault)
    (all : IsSeen limits places kept (Some fault))
    → first_conflict [] all.seen ≡ None → first_fault limits [] places ≡ Some fault
fault-seen limits places kept fault all none =
    all.first ∙ ap (λ (first : Option LoadFault). first_of first (Some fault)) none

-- the first conflict of the rows that the first pass read is the first fault
pub conflict-seen : (limits : Limits) (places : List Place) (kept : RowStore) (end : Option LoadFault)
    (fault : LoadFault) (all : IsSeen limits places kept end)
    → first_conflict [] all.seen ≡ Some fault → first_fault limits [] places ≡ Some fault
conflict-seen limits places kept end fault all there =
    all.first ∙ ap (λ (first : Option LoadFault). first_of first end) there

-- clearing the marks of the lists keeps `IsReadFrom`
pub read_unmarked : (limits : Limits) (places : List Place) (count : ℕ) (listed : ReleaseLists)
    → IsReadFrom limits places count listed → IsReadFrom limits places count (unmarked listed)
read_unmarked limits places count listed read =
    record { clean = read.clean; count_is = read.count_is; few = read.few; lists = read.lists }
