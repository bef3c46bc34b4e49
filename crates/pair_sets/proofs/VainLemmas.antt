-- If the value of no row passes, no row counts for anything.
use Rattle.std.proofs.Common.{ℕ, ℤ, pos, ◌≡◌, ◌<◌, ◌+◌, ◌==◌, ◌&&◌, ◌∷◌, ◌++◌, [], ◌∙◌, Bool, false, cond, List, get_or}
use Rattle.std.proofs.Common.{refl, sym, ap, subst}
use Rattle.std.specs.Prelude.{All, Contains, count_by, slice_get, slice_index}
use Rattle.std.specs.Ordering.{int_cmp}
use Rattle.std.proofs.lemmas.List.Elements.{All-cons, All-contains, All-filter, All-from_get_or, All-head}
use Rattle.std.proofs.lemmas.List.Elements.{All-nil, All-tail, All-weaker, Contains-get_or}
use Rattle.std.proofs.Math.Bool.{Bool-set, and-false}
use Rattle.std.proofs.Math.Logic.{∥∥₁_elim}
use Rattle.number_lists.proofs.BlockLemmas.{All-flat_map}
use Rattle.release_model.specs.Release.{Attribute, Release, Value, concept_value, number_value, text_value}
use Rattle.constraint_tree.specs.declared.operator.Compare.{Compare}
use Rattle.constraint_tree.specs.Passing.{compares, is_number_that}
use Rattle.postings.specs.Entries.{Entry, entries_after, entries_of, entries_with_type}
use Rattle.postings.specs.Groups.{groups_in}
use Rattle.postings.specs.Indexed.{Indexed, IsIndexOf}
use Rattle.held_release.specs.RowValues.{decimals_at, decimals_of}
use Rattle.pair_sets.specs.Tested.{meets}
use Rattle.pair_sets.specs.declared.hits.Owner.{Owner}
use Rattle.pair_sets.specs.declared.hits.Owner.TheVariants as owners
use Rattle.release_model.specs.Pairs.{value_eq}
use Rattle.pair_sets.specs.inside.Hits.{AreHits, counts_for_owner, counts_for_value, entries_with_types}
use Rattle.pair_sets.specs.inside.Hits.{is_in_some}
use Rattle.pair_sets.proofs.HitLemmas.{count-cons}
use Rattle.pair_sets.proofs.PassingLemmas.{meets_told}

-- ---- a comparison that none of the decimals of all rows meets
module _ (compare : Compare) (number : ℤ) where
  abbrev fails : ℤ → Type 0
  fails decimal = compares compare decimal number ≡ false

  -- if none of the decimals of a value and of others meets the comparison, neither the value nor the others do
  of_first : (value : Value) (others : List ℤ) → All fails (decimals_at value ++ others)
      → (is_number_that compare number value ≡ false) × All fails others
  of_first (concept_value concept) others all = (refl, all)
  of_first (number_value decimal) others all = (All-head fails decimal others all, All-tail fails decimal others all)
  of_first (text_value text) others all = (refl, all)

  -- if none of the decimals of rows meets the comparison, the value of no row does
  of_rows : (rows : List Attribute) → All fails (decimals_of rows)
      → All (λ (row : Attribute). is_number_that compare number row.value ≡ false) rows
  of_rows [] all = All-nil (λ (row : Attribute). is_number_that compare number row.value ≡ false)
  of_rows (row ∷ rows) all =
      let parts = of_first row.value (decimals_of rows) all in
      All-cons (λ (row : Attribute). is_number_that compare number row.value ≡ false) row rows parts.0
      (of_rows rows parts.1)

  -- if no decimal of the indexes fulfils the comparison, no row's value passes
  pub no_row_passes : (release : Release) (indexed : Indexed) → IsIndexOf indexed release
      → All (λ decimal. meets compare (int_cmp decimal number) ≡ false) indexed.decimals
      → All (λ (row : Attribute). is_number_that compare number row.value ≡ false) indexed.rows
  no_row_passes release indexed index none =
      let among : (decimal : ℤ) → Contains (decimals_of indexed.rows) decimal → fails decimal = λ decimal there.
      ∥∥₁_elim (index.values.decimals_are decimal) (Bool-set (compares compare decimal number) false)
      (λ alike. sym (meets_told compare decimal number)
      ∙ All-contains (λ other. meets compare (int_cmp other number) ≡ false) indexed.decimals decimal none
      (alike.1 (subst (λ (rows : List Attribute). Contains (decimals_of rows) decimal) index.rows there))) in
      of_rows indexed.rows (All-from_get_or fails (decimals_of indexed.rows) (pos 0)
      (λ k within. among (get_or (decimals_of indexed.rows) k (pos 0))
      (Contains-get_or (decimals_of indexed.rows) k (pos 0) within)))

-- ---- rows that are not kept count for nothing
-- what holds of all rows holds of the row of each entry
hold_after : (P : Attribute → Type 0) (before rows : List Attribute) → All P rows
    → All (λ (entry : Entry). P entry.row) (entries_after before rows)
hold_after P before [] all = All-nil (λ (entry : Entry). P entry.row)
hold_after P before (row ∷ rows) all =
    All-cons (λ (entry : Entry). P entry.row) _ (entries_after (before ++ row ∷ []) rows) (All-head P row rows all)
    (hold_after P (before ++ row ∷ []) rows (All-tail P row rows all))

-- what holds of all rows holds of the row of each entry of some types
hold_of_types : (P : Attribute → Type 0) (rows : List Attribute) (ids : List ℕ) → All P rows
    → All (λ (entry : Entry). P entry.row) (entries_with_types rows ids)
hold_of_types P rows ids all =
    All-flat_map (λ (entry : Entry). P entry.row) (entries_with_type rows) ids
    (λ id _. All-filter (λ (entry : Entry). entry.row.type_id == id) (λ (entry : Entry). P entry.row)
    (entries_of rows) (hold_after P [] rows all))

-- none is counted if no entry counts
count_of_none : (counts : Entry → Bool) (entries : List Entry) → All (λ entry. counts entry ≡ false) entries
    → count_by counts entries ≡ 0
count_of_none counts [] none = refl
count_of_none counts (entry ∷ entries) none =
    count-cons counts entry entries
    ∙ (λ i. cond (All-head (λ entry. counts entry ≡ false) entry entries none i) (1 + count_by counts entries)
    (count_by counts entries))
    ∙ count_of_none counts entries (All-tail (λ entry. counts entry ≡ false) entry entries none)

-- a conjunction fails if its last part does
neither : (one other : Bool) {last : Bool} → last ≡ false → (one && (other && last)) ≡ false
neither one other fails =
    (λ i. one && (other && fails i)) ∙ ap (λ (b : Bool). one && b) (and-false other) ∙ and-false one

-- if no row counts, the empty list has the hits of the rows of some types
none_counts : (rows : List Attribute) (P : Attribute → Type 0) (counts : ℕ → Entry → Bool)
    → ((number : ℕ) (entry : Entry) → P entry.row → counts number entry ≡ false) → (ids : List ℕ) (bound : ℕ)
    → All P rows → AreHits bound counts (entries_with_types rows ids) []
none_counts rows P counts not_counted ids bound all = record {
  within = All-nil (λ number. number < bound);
  times = λ number _. sym (count_of_none (counts number) (entries_with_types rows ids)
      (All-weaker (λ (entry : Entry). P entry.row) (λ entry. counts number entry ≡ false) (not_counted number)
      (entries_with_types rows ids) (hold_of_types P rows ids all)));
}

-- a row that is not kept counts for no owner
not_kept : (owner : Owner) (indexed : Indexed) (kept : Attribute → Bool) (number : ℕ) (entry : Entry)
    → kept entry.row ≡ false → counts_for_owner owner indexed kept number entry ≡ false
not_kept owners.Source indexed kept number entry fails =
    neither (entry.row.source == slice_index indexed.concepts number) entry.is_first fails
not_kept owners.Group indexed kept number entry fails =
    neither (is_in_some (slice_get (groups_in indexed) number) entry.row) entry.is_first_in_group fails

-- if no row is kept, the rows of any types have no hits for their owners
pub none_kept : (owner : Owner) (indexed : Indexed) (kept : Attribute → Bool) (ids : List ℕ) (bound : ℕ)
    → All (λ (row : Attribute). kept row ≡ false) indexed.rows
    → AreHits bound (counts_for_owner owner indexed kept) (entries_with_types indexed.rows ids) []
none_kept owner indexed kept =
    none_counts indexed.rows (λ (row : Attribute). kept row ≡ false) (counts_for_owner owner indexed kept)
    (not_kept owner indexed kept)

-- if no row is kept, the rows of any types have no hits for their values
pub none_kept_back : (indexed : Indexed) (kept : Attribute → Bool) (ids : List ℕ) (bound : ℕ)
    → ((row : Attribute) → kept row ≡ false)
    → AreHits bound (counts_for_value indexed.concepts kept) (entries_with_types indexed.rows ids) []
none_kept_back indexed kept ids bound none =
    none_counts indexed.rows (λ (row : Attribute). kept row ≡ false) (counts_for_value indexed.concepts kept)
    (λ number entry. neither (value_eq entry.row.value (concept_value (slice_index indexed.concepts number)))
    entry.is_first) ids bound (λ k d _. none (get_or indexed.rows k d))
