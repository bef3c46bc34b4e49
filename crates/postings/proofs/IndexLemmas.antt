-- What the look-ups of the indexes find.
use Rattle.std.proofs.Common.{ℕ, zero, suc, ◌+◌, ◌==◌, ◌≡◌, ◌≤◌, ◌<◌, ◌||◌, ◌∷◌, ◌++◌, []}
use Rattle.std.proofs.Common.{◌∙◌, Bool, true, false, cond, List, Option, Some, None, length, get_or, map, nat_eq, not}
use Rattle.std.proofs.Common.{refl, sym, ap}
use Rattle.std.proofs.Common.{arith, zero-add}
use Rattle.std.specs.List.{filter, list_any, position, range_with_len, slice_get}
use Rattle.std.specs.Prelude.{IfSome}
use Rattle.std.proofs.lemmas.Bool.{eqb-true, true≢false}
use Rattle.std.proofs.lemmas.Cmp.{nat_eq_equiv}
use Rattle.std.proofs.lemmas.List.{get_or-map, length-map}
use Rattle.std.proofs.lemmas.List.FromFn.{get_or-map-range_with_len, length-map-range_with_len}
use Rattle.std.proofs.lemmas.List.Quantifiers.{position-Some}
use Rattle.release_model.specs.Release.{Attribute}
use Rattle.number_lists.proofs.DistinctLemmas.{any_distinct}
use Rattle.number_lists.specs.KeyedLists.{list_of}
use Rattle.postings.specs.Columns.{AreGroups, AreSources, Flagged}
use Rattle.postings.specs.Entries.{Entry, entries_after, entries_of, entries_with_type, is_alike, is_alike_in_group}
use Rattle.postings.specs.Groups.{ConceptGroup, group_of}
use Rattle.postings.specs.Indexed.{types_of}
use Rattle.postings.specs.Places.{places_from, places_where}
use Rattle.held_release.proofs.DistinctPlaceLemmas.{length-distinct}

-- ---- lists by numbers
-- if `lists` has `give` of each key below `count`, the list of such a key exists and is `give key`
pub list_at : (lists : List (List ℕ)) (give : ℕ → List ℕ) (count key : ℕ) → lists ≡ map give (range_with_len 0 count)
    → key < count → (key < length lists) × (list_of lists key ≡ give key)
list_at lists give count key is below = (
  omega (arith, below, ap (λ (all : List (List ℕ)). length all) is, length-map-range_with_len give 0 count),
  ap (λ (all : List (List ℕ)). list_of all key) is
      ∙ get_or-map-range_with_len give 0 count key key [] below (zero-add key),
)

-- ---- types that no row has
or_none : (a b : Bool) → (a || b) ≡ false → (a ≡ false) × (b ≡ false)
or_none true b none = absurd (true≢false none)
or_none false b none = (refl, none)

abbrev types_in : List Attribute → List ℕ
types_in rows = map (λ (row : Attribute). row.type_id) rows

no_places : (id place : ℕ) (rows : List Attribute) → list_any (nat_eq id) (types_in rows) ≡ false
    → places_from place (λ (row : Attribute). row.type_id == id) rows ≡ []
no_places id place [] none = refl
no_places id place (row ∷ rows) none =
    let parts = or_none (nat_eq id row.type_id) (list_any (nat_eq id) (types_in rows)) none in
    (λ i. cond ((nat_eq_equiv.symm row.type_id id ∙ parts.0) i)
    (place ∷ places_from (place + 1) (λ (row : Attribute). row.type_id == id) rows)
    (places_from (place + 1) (λ (row : Attribute). row.type_id == id) rows))
    ∙ no_places id (place + 1) rows parts.1

no_entries : (id : ℕ) (before rows : List Attribute) → list_any (nat_eq id) (types_in rows) ≡ false
    → filter (λ (entry : Entry). entry.row.type_id == id) (entries_after before rows) ≡ []
no_entries id before [] none = refl
no_entries id before (row ∷ rows) none =
    let parts = or_none (nat_eq id row.type_id) (list_any (nat_eq id) (types_in rows)) none in
    let rest = filter (λ (entry : Entry). entry.row.type_id == id) (entries_after (before ++ row ∷ []) rows) in
    let entry : Entry = record {
      row = row;
      is_first = not (list_any (is_alike row) before);
      is_first_in_group =
          not (list_any (is_alike_in_group row) before);
    } in
    (λ i. cond ((nat_eq_equiv.symm row.type_id id ∙ parts.0) i) (entry ∷ rest) rest)
    ∙ no_entries id (before ++ row ∷ []) rows parts.1

-- a type that is none of the types of the rows
module _ (rows : List Attribute) (id : ℕ) (none : list_any (nat_eq id) (types_of rows) ≡ false) where
  missing : list_any (nat_eq id) (types_in rows) ≡ false
  missing = sym (any_distinct nat_eq nat_eq_equiv id (types_in rows)) ∙ none

  -- if `id` is not among the types of `rows`, no row has this type
  pub none_by_type : places_where (λ (row : Attribute). row.type_id == id) rows ≡ []
  none_by_type = no_places id 0 rows missing

  -- if `id` is not among the types of `rows`, no entry has this type
  pub none_with_type : entries_with_type rows id ≡ []
  none_with_type = no_entries id [] rows missing

-- ---- types that rows have
module _ (keys : List ℕ) (rows : List Attribute) (id type_place : ℕ) (all : keys ≡ types_of rows)
    (found : position (nat_eq id) keys ≡ Some type_place) where
  told : (type_place < length keys) × (nat_eq id (get_or keys type_place 0) ≡ true)
  told = let first = position-Some (nat_eq id) keys type_place 0 found in (first.0, first.1)

  -- the place that is found for a type is below the number of types
  pub type_place_below : type_place < length (types_of rows)
  type_place_below = omega (arith, told.0, ap (λ (xs : List ℕ). length xs) all)

  -- the type at the place that is found for `id` is `id`
  pub type_there : get_or (types_of rows) type_place 0 ≡ id
  type_there = (λ i. get_or (sym all i) type_place 0) ∙ sym (eqb-true id (get_or keys type_place 0) told.1)

-- there are at most as many distinct types as rows
pub few_types : (rows : List Attribute) → length (types_of rows) ≤ length rows
few_types rows = omega (
  arith,
  length-distinct nat_eq (types_in rows),
  length-map rows
      (λ (row : Attribute). row.type_id),
)

-- ---- items by their places
-- if `n` is below the length of `xs`, `slice_get` finds item `n`, which has each property that item `n` has
pub if_there : {X : Type 0} (xs : List X) (n : ℕ) → n < length xs → (P : X → Type 0) → ((d : X) → P (get_or xs n d))
    → IfSome (slice_get xs n) P
if_there [] n within P holds = absurd (omega (arith, within))
if_there (x ∷ xs) zero within P holds = holds x
if_there (x ∷ xs) (suc n) within P holds = if_there xs n (omega (arith, within)) P holds

-- there is an entry for each row
length-entries_after : (before rows : List Attribute) → length (entries_after before rows) ≡ length rows
length-entries_after before [] = refl
length-entries_after before (row ∷ rows) = ap suc (length-entries_after (before ++ row ∷ []) rows)

-- the rows of the entries of `rows` are `rows`
pub rows_of_entries : (before rows : List Attribute) → map (λ (entry : Entry). entry.row) (entries_after before rows)
    ≡ rows
rows_of_entries before [] = refl
rows_of_entries before (row ∷ rows) =
    ap (λ (rest : List Attribute). row ∷ rest) (rows_of_entries (before ++ row ∷ []) rows)

module _ (groups : List ConceptGroup) (rows : List Attribute) (marks : List Flagged)
    (are : AreGroups groups (entries_of rows) marks) where
  -- a column of groups has one mark for each row
  pub length-groups : length marks ≡ length rows
  length-groups =
      sym (length-map marks (λ (mark : Flagged). slice_get groups mark.number))
      ∙ ap (λ (xs : List (Option ConceptGroup)). length xs) are.groups
      ∙ length-map (entries_of rows) (λ (entry : Entry). Some (group_of entry.row))
      ∙ length-entries_after [] rows

  -- in a column of groups, the mark of row `n` has the number of that row's group
  pub group_at : (n : ℕ) (row : Attribute) (mark : Flagged) → n < length rows
      → slice_get groups (get_or marks n mark).number ≡ Some (group_of (get_or rows n row))
  group_at n row mark within =
      let entry : Entry = record { row = row; is_first = true; is_first_in_group = true } in
      let entries = entries_of rows in
      sym (get_or-map (λ (mark : Flagged). slice_get groups mark.number) marks n mark None
      (omega (arith, within, length-groups)))
      ∙ ap (λ (xs : List (Option ConceptGroup)). get_or xs n None) are.groups
      ∙ get_or-map (λ (entry : Entry). Some (group_of entry.row)) entries n entry None
      (omega (arith, within, length-entries_after [] rows))
      ∙ ap (λ (found : Attribute). Some (group_of found))
      (sym (get_or-map (λ (entry : Entry). entry.row) entries n entry row
      (omega (arith, within, length-entries_after [] rows)))
      ∙ ap (λ (xs : List Attribute). get_or xs n row) (rows_of_entries [] rows))

-- a column of sources has one mark for each row
pub length-sources : (concepts : List ℕ) (rows : List Attribute) (marks : List Flagged)
    → AreSources concepts (entries_of rows) marks
    → length marks ≡ length rows
length-sources concepts rows marks are =
    sym (length-map marks (λ (mark : Flagged). mark.is_first))
    ∙ ap (λ (xs : List Bool). length xs) are.firsts
    ∙ length-map (entries_of rows) (λ (entry : Entry). entry.is_first)
    ∙ length-entries_after [] rows
