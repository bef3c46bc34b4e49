-- Numbers that stand in a list once for each attribute row that counts for them.
use Rattle.std.proofs.Common.{ℕ, ℤ, zero, suc, ◌≡◌, ◌<◌, ◌≤◌, ◌+◌, ◌-◌, ◌∙◌, ◌∷◌, ◌++◌, [], inl, inr, ⊎_elim, ltb}
use Rattle.std.proofs.Common.{arith, append-nil, append_assoc}
use Rattle.std.proofs.Common.{Bool, true, false, ◌&&◌, ◌==◌, cond, List, length, get_or, map, take, Some, Option, refl}
use Rattle.std.proofs.Common.{sym, ap, subst}
use Rattle.std.specs.Prelude.{All, count_by, filter, slice_get, slice_index}
use Rattle.std.specs.List.{flat_map}
use Rattle.std.specs.List.Sorted.{IsStrictlyIncreasing}
use Rattle.std.proofs.lemmas.Bool.{and_parts, cases_Bool, cases_eq, cases_lt, eq-eqb, le-ltb, lt-ltb, ltb-true, ne_eqb}
use Rattle.std.proofs.lemmas.Grind.{flat_map-append}
use Rattle.std.proofs.lemmas.List.{get_or-append_right, get_or-map, length-map, take_more}
use Rattle.std.proofs.lemmas.List.Elements.{All-append, All-tail, All-cons, All-get_or, All-nil}
use Rattle.std.proofs.lemmas.List.Sums.{length-filter}
use Rattle.std.proofs.lemmas.Option.{get_or_from_slice_get, slice_get-get_or, slice_get_within}
use Rattle.release_model.specs.Pairs.{value_eq}
use Rattle.release_model.specs.Release.{Attribute, Value, concept_value, number_value, text_value}
use Rattle.postings.specs.Columns.{AreGroups, AreSources, AreTypes, AreValues, Flagged}
use Rattle.postings.specs.Entries.{Entry}
use Rattle.postings.specs.Groups.{ConceptGroup, group_of, groups_in, is_in_group, rows_alone}
use Rattle.postings.specs.Indexed.{Indexed, types_of, value_at, values_of}
use Rattle.postings.proofs.KeyLemmas.{IsTold, groups_once, groups_told_apart, in_one_group, in_own_group}
use Rattle.number_lists.proofs.ListLemmas.{IsOnce, same_place}
use Rattle.held_release.proofs.ValueLemmas.{concept_at}
use Rattle.number_lists.specs.Members.{times}
use Rattle.pair_sets.specs.inside.Hits.{AreHits, TellsTypes, value_of, counts_for_group, counts_for_source}
use Rattle.pair_sets.specs.inside.Hits.{counts_for_value}
use Rattle.pair_sets.specs.inside.Hits.{AreOwners, owner_count, counts_for_owner, has_source_in, is_in_some, picked}
use Rattle.pair_sets.specs.declared.hits.Owner.{Owner}
use Rattle.pair_sets.specs.declared.hits.Owner.TheVariants as owners
use Rattle.candidates.proofs.Normal.{same_by_number}
use Rattle.number_lists.proofs.MemberLemmas.{times-append}
use Rattle.pair_sets.proofs.TimesLemmas.{times-cons}

-- ---- two lists that are mapped to one list
module _ {X Y Z : Type 0} (f : X → Z) (g : Y → Z) (xs : List X) (ys : List Y) (are : map f xs ≡ map g ys) where
  -- if `map f xs` equals `map g ys`, then `xs` and `ys` are equally long
  pub same_length : length xs ≡ length ys
  same_length = sym (length-map xs f) ∙ ap (λ (zs : List Z). length zs) are ∙ length-map ys g

  -- two lists that are mapped to one list have, at each place, items that are mapped to one item
  same_at : (k : ℕ) (d : X) (e : Y) → k < length ys → f (get_or xs k d) ≡ g (get_or ys k e)
  same_at k d e within =
      sym (get_or-map f xs k d (f d) (omega (arith, within, same_length)))
      ∙ ap (λ (zs : List Z). get_or zs k (f d)) are
      ∙ get_or-map g ys k e (f d) within

-- ---- how many items pass
-- the count of `x ∷ xs` is one more than that of `xs` if `x` passes, and the same if not
pub count-cons : {X : Type 0} (test : X → Bool) (x : X) (xs : List X)
    → count_by test (x ∷ xs) ≡ cond (test x) (1 + count_by test xs) (count_by test xs)
count-cons test x xs =
    sym (length-filter test (x ∷ xs))
    ∙ elim (test x) as (λ b. length (cond b (x ∷ filter test xs) (filter test xs))
    ≡ cond b (1 + count_by test xs) (count_by test xs)) [
      | true ↦ omega (arith, length-filter test xs)
      | false ↦ length-filter test xs
    ]

-- the count of `xs ++ ys` is the sum of the counts of `xs` and `ys`
pub count-append : {X : Type 0} (test : X → Bool) (xs ys : List X)
    → count_by test (xs ++ ys) ≡ count_by test xs + count_by test ys
count-append test [] ys = let none : count_by test [] ≡ 0 = refl in omega (arith, none)
count-append test (x ∷ xs) ys =
    count-cons test x (xs ++ ys)
    ∙ elim (test x) as (λ b. cond b (1 + count_by test (xs ++ ys)) (count_by test (xs ++ ys))
    ≡ cond b (1 + count_by test xs) (count_by test xs) + count_by test ys) [
      | true ↦ omega (arith, count-append test xs ys)
      | false ↦ count-append test xs ys
    ]
    ∙ ap (λ n. n + count_by test ys) (sym (count-cons test x xs))

-- ---- the numbers of the places that are kept
-- the next place is one higher
next_place : (k : ℕ) → suc k ≡ k + 1
next_place k = omega arith

module _ (kept : Flagged → ℕ → Bool) (number : Flagged → ℕ → ℕ) (d : Flagged) where
  -- the number at place k, if it is kept
  abbrev here : List Flagged → List ℕ → ℕ → Bool → List ℕ
  here marks cells k keep = cond keep (number (get_or marks k d) (get_or cells k 0) ∷ []) []

  -- to pick from the first k + 1 places is to pick from the first k and then place k
  picked_here : (marks : List Flagged) (cells : List ℕ) (k : ℕ) → k < length marks → length marks ≡ length cells
      → picked kept number (take (suc k) marks) (take (suc k) cells)
      ≡ picked kept number (take k marks) (take k cells)
      ++ here marks cells k (kept (get_or marks k d) (get_or cells k 0))
  picked_here [] cells k within long = absurd (omega (arith, within))
  picked_here (mark ∷ marks) [] k within long = absurd (omega (arith, long))
  picked_here (mark ∷ marks) (cell ∷ cells) zero within long = refl
  picked_here (mark ∷ marks) (cell ∷ cells) (suc k) within long =
      let rest = picked_here marks cells k (omega (arith, within)) (omega (arith, long)) in
      let now : List ℕ = picked kept number (take k marks) (take k cells) in
      let next : List ℕ = picked kept number (take (suc k) marks) (take (suc k) cells) in
      let last : List ℕ = here marks cells k (kept (get_or marks k d) (get_or cells k 0)) in
      elim (kept mark cell) as (λ b. cond b (number mark cell ∷ next) next ≡ cond b (number mark cell ∷ now) now
      ++ last) [
        | true ↦ ap (λ (xs : List ℕ). number mark cell ∷ xs) rest
        | false ↦ rest
      ]

  -- if `hits` has what is picked from the first `k` places, adding the number at place `k` if it is kept makes it what
  -- is picked from the first `k + 1`
  pub picked_next : (marks : List Flagged) (cells : List ℕ) (k : ℕ) → k < length marks → length marks ≡ length cells
      → (keep : Bool) → kept (get_or marks k d) (get_or cells k 0) ≡ keep → (before hits next : List ℕ)
      → hits ≡ before ++ picked kept number (take k marks) (take k cells) → next ≡ hits ++ here marks cells k keep
      → next ≡ before ++ picked kept number (take (k + 1) marks) (take (k + 1) cells)
  picked_next marks cells k within long keep told before hits next so_far is =
      is
      ∙ ap (λ (xs : List ℕ). xs ++ here marks cells k keep) so_far
      ∙ append_assoc before (picked kept number (take k marks) (take k cells)) (here marks cells k keep)
      ∙ ap (λ (xs : List ℕ). before ++ xs)
      ((λ i. picked kept number (take k marks) (take k cells) ++ here marks cells k (sym told i))
      ∙ sym (picked_here marks cells k within long)
      ∙ ap (λ (m : ℕ). picked kept number (take m marks) (take m cells)) (next_place k))

  -- the picked numbers are below a bound if each kept place has a number below it
  picked_below : (bound : ℕ) (marks : List Flagged) (cells : List ℕ) → length marks ≡ length cells
      → ((k : ℕ) → k < length marks → kept (get_or marks k d) (get_or cells k 0) ≡ true
      → number (get_or marks k d) (get_or cells k 0) < bound)
      → All (λ n. n < bound) (picked kept number marks cells)
  picked_below bound [] cells long below = All-nil (λ n. n < bound)
  picked_below bound (mark ∷ marks) [] long below = absurd (omega (arith, long))
  picked_below bound (mark ∷ marks) (cell ∷ cells) long below =
      by_case (kept mark cell) refl
      (picked_below bound marks cells (omega (arith, long)) (λ k within. below (suc k) (omega (arith, within))))
    where
      by_case : (b : Bool) → kept mark cell ≡ b → All (λ n. n < bound) (picked kept number marks cells)
          → All (λ n. n < bound) (cond b (number mark cell ∷ picked kept number marks cells)
          (picked kept number marks cells))
      by_case true keeps rest =
          All-cons (λ n. n < bound) (number mark cell) (picked kept number marks cells) (below 0 (omega arith) keeps)
          rest
      by_case false leaves rest = rest

  -- n is picked as often as entries count for it, if place k is kept for n exactly if entry k counts
  times_picked : (n : ℕ) (counts : Entry → Bool) (e : Entry) (marks : List Flagged) (cells : List ℕ)
      (entries : List Entry)
      → length marks ≡ length entries → length cells ≡ length entries
      → ((k : ℕ) → k < length entries
      → (kept (get_or marks k d) (get_or cells k 0) && (number (get_or marks k d) (get_or cells k 0) == n))
      ≡ counts (get_or entries k e))
      → times n (picked kept number marks cells) ≡ count_by counts entries
  times_picked n counts e [] cells [] marks_long cells_long agree = refl
  times_picked n counts e [] cells (entry ∷ entries) marks_long cells_long agree = absurd (omega (arith, marks_long))
  times_picked n counts e (mark ∷ marks) cells [] marks_long cells_long agree = absurd (omega (arith, marks_long))
  times_picked n counts e (mark ∷ marks) [] (entry ∷ entries) marks_long cells_long agree =
      absurd (omega (arith, cells_long))
  times_picked n counts e (mark ∷ marks) (cell ∷ cells) (entry ∷ entries) marks_long cells_long agree =
      by_case (kept mark cell) (agree 0 (omega arith))
      (times_picked n counts e marks cells entries (omega (arith, marks_long)) (omega (arith, cells_long))
      (λ k within. agree (suc k) (omega (arith, within))))
      ∙ sym (count-cons counts entry entries)
    where
      by_case : (b : Bool) → (b && (number mark cell == n)) ≡ counts entry
          → times n (picked kept number marks cells) ≡ count_by counts entries
          → times n (cond b (number mark cell ∷ picked kept number marks cells) (picked kept number marks cells))
          ≡ cond (counts entry) (1 + count_by counts entries) (count_by counts entries)
      by_case true is rest =
          times-cons n (number mark cell) (picked kept number marks cells) ∙ (λ i. cond (is i) (1 + rest i) (rest i))
      by_case false is rest = rest ∙ (λ i. cond (is i) (1 + count_by counts entries) (count_by counts entries))

  -- the picked numbers are hits, if each is below the bound and place k is kept for n exactly if entry k counts for n
  picked_hits : (bound : ℕ) (counts : ℕ → Entry → Bool) (e : Entry) (marks : List Flagged) (cells : List ℕ)
      (entries : List Entry)
      → length marks ≡ length entries → length cells ≡ length entries
      → ((k : ℕ) → k < length entries → kept (get_or marks k d) (get_or cells k 0) ≡ true
      → number (get_or marks k d) (get_or cells k 0) < bound)
      → ((n : ℕ) → n < bound → (k : ℕ) → k < length entries
      → (kept (get_or marks k d) (get_or cells k 0) && (number (get_or marks k d) (get_or cells k 0) == n))
      ≡ counts n (get_or entries k e))
      → AreHits bound counts entries (picked kept number marks cells)
  picked_hits bound counts e marks cells entries marks_long cells_long below agree = record {
    within = picked_below bound marks cells (omega (arith, marks_long, cells_long))
        (λ k within. below k (omega (arith, within, marks_long)));
    times = λ n inside. times_picked n (counts n) e marks cells entries marks_long cells_long (agree n inside);
  }

-- ---- the hits of one key after those of other keys
-- without entries, the empty list has all hits
pub no_hits : (bound : ℕ) (counts : ℕ → Entry → Bool) → AreHits bound counts [] []
no_hits bound counts = record { within = All-nil (λ n. n < bound); times = λ n inside. refl }

-- the hits of `entries` and those of `more`, joined, are the hits of `entries ++ more`
pub more_hits : (bound : ℕ) (counts : ℕ → Entry → Bool) (entries more : List Entry) (hits next : List ℕ)
    → AreHits bound counts entries hits
    → AreHits bound counts more next → AreHits bound counts (entries ++ more) (hits ++ next)
more_hits bound counts entries more hits next so_far added = record {
  within = All-append (λ n. n < bound) hits next so_far.within added.within;
  times = λ n inside.
      times-append n hits next
      ∙ (λ i. so_far.times n inside i + added.times n inside i)
      ∙ sym (count-append (counts n) entries more);
}

module _ (entries : ℕ → List Entry) (keys : List ℕ) (k : ℕ) (within : k < length keys) where
  -- the entries of the first k keys and then those of key k are the entries of the first k + 1 keys
  one_key_more : flat_map entries (take k keys) ++ entries (get_or keys k 0) ≡ flat_map entries (take (k + 1) keys)
  one_key_more =
      ap (λ (more : List Entry). flat_map entries (take k keys) ++ more) (sym (append-nil (entries (get_or keys k 0))))
      ∙ sym (flat_map-append entries (take k keys) (get_or keys k 0 ∷ []))
      ∙ ap (flat_map entries) (sym (take_more keys k 0 within))

  -- adding the hits of key `k` to those of the first `k` keys gives the hits of the first `k + 1`
  pub hits_pushed : (bound : ℕ) (counts : ℕ → Entry → Bool) (hits next more : List ℕ) → next ≡ hits ++ more
      → AreHits bound counts (flat_map entries (take k keys)) hits
      → AreHits bound counts (entries (get_or keys k 0)) more
      → AreHits bound counts (flat_map entries (take (k + 1) keys)) next
  hits_pushed bound counts hits next more is so_far added =
      subst (AreHits bound counts (flat_map entries (take (k + 1) keys))) (sym is)
      (subst (λ (all : List Entry). AreHits bound counts all (hits ++ more)) one_key_more
      (more_hits bound counts (flat_map entries (take k keys)) (entries (get_or keys k 0)) hits more so_far added))

  -- if `next` has each number as often as the hits of the first `k` keys and the entries of key `k` count for it
  -- together, it has the hits of the first `k + 1` keys
  pub hits_counted : (bound : ℕ) (counts : ℕ → Entry → Bool) (hits next : List ℕ) → All (λ n. n < bound) next
      → ((n : ℕ) → n < bound → times n next ≡ times n hits + count_by (counts n) (entries (get_or keys k 0)))
      → AreHits bound counts (flat_map entries (take k keys)) hits
      → AreHits bound counts (flat_map entries (take (k + 1) keys)) next
  hits_counted bound counts hits next below pushed so_far = record {
    within = below;
    times = λ n inside.
        pushed n inside
        ∙ (λ i. so_far.times n inside i + count_by (counts n) (entries (get_or keys k 0)))
        ∙ sym (count-append (counts n) (flat_map entries (take k keys)) (entries (get_or keys k 0)))
        ∙ ap (λ (all : List Entry). count_by (counts n) all) one_key_more;
  }

-- ---- a mark and a row
-- a mark, for the places past the end of a list
abbrev pub a_mark : Flagged
a_mark = record { number = 0; is_first = false }

-- an entry, for the places past the end of a list
abbrev pub an_entry : Entry
an_entry = record {
  row = record { source = 0; type_id = 0; group = 0; value = text_value [] };
  is_first = false;
  is_first_in_group = false;
}

-- the two parts of a conjunction can be exchanged
and_turned : (a b : Bool) → (a && b) ≡ (b && a)
and_turned true true = refl
and_turned true false = refl
and_turned false true = refl
and_turned false false = refl

-- in `(a && b) && c`, `b` and `c` can be exchanged
pub and_apart : (a b c : Bool) → ((a && b) && c) ≡ ((a && c) && b)
and_apart true b c = and_turned b c
and_apart false b c = refl

-- a value after the concepts is no concept
no_concept : (decimals : List ℤ) (texts : List (List ℕ)) (k concept : ℕ)
    → value_eq (get_or (map number_value decimals ++ map text_value texts) k (text_value [])) (concept_value concept)
    ≡ false
no_concept [] [] k concept = refl
no_concept [] (text ∷ texts) zero concept = refl
no_concept [] (text ∷ texts) (suc k) concept = no_concept [] texts k concept
no_concept (decimal ∷ decimals) texts zero concept = refl
no_concept (decimal ∷ decimals) texts (suc k) concept = no_concept decimals texts k concept

-- a number that is no concept's has a value that is no concept
past_concepts : (indexed : Indexed) (k concept : ℕ) → length indexed.concepts ≤ k
    → value_eq (value_at (values_of indexed) k) (concept_value concept) ≡ false
past_concepts indexed k concept past =
    ap (λ (value : Value). value_eq value (concept_value concept))
    (get_or-append_right (map concept_value indexed.concepts)
    (map number_value indexed.decimals ++ map text_value indexed.texts)
    (length indexed.concepts) k (text_value []) (length-map indexed.concepts concept_value) past)
    ∙ no_concept indexed.decimals indexed.texts (k - length indexed.concepts) concept

-- a value is concept `n` exactly if its number is below the number of concepts and equals `n`
pub value_tells : (indexed : Indexed) → IsStrictlyIncreasing indexed.concepts → (bound : ℕ)
    → bound ≡ length indexed.concepts
    → (cell : ℕ) (value : Value) → value_at (values_of indexed) cell ≡ value → (n : ℕ) → n < length indexed.concepts
    → (ltb cell bound && (cell == n)) ≡ value_eq value (concept_value (get_or indexed.concepts n 0))
value_tells indexed rising bound is cell value there n inside =
    let is_it : Value → Bool = λ value. value_eq value (concept_value (get_or indexed.concepts n 0)) in
    ⊎_elim
    (λ (within : cell < bound).
    (λ i. lt-ltb cell bound within i && (cell == n))
    ∙ sym (same_by_number indexed.concepts rising cell n (omega (arith, within, is)) inside)
    ∙ ap is_it (sym (concept_at indexed.concepts indexed.decimals indexed.texts cell (text_value [])
    (omega (arith, within, is)))))
    (λ (past : bound ≤ cell).
    (λ i. le-ltb cell bound past i && (cell == n))
    ∙ sym (past_concepts indexed cell (get_or indexed.concepts n 0) (omega (arith, past, is))))
    (cases_lt cell bound)
    ∙ ap is_it there

-- the number m of a row's own group is n exactly if the row is in group n
group_tells : (groups : List ConceptGroup) → IsOnce groups → All (λ (group : ConceptGroup). IsTold group.key) groups
    → (m n : ℕ) → n < length groups → (row : Attribute) → slice_get groups m ≡ Some (group_of row)
    → (m == n) ≡ is_in_some (slice_get groups n) row
group_tells groups once told m n inside row is =
    let own : ConceptGroup = group_of row in
    let there : is_in_group (get_or groups n own) row ≡ is_in_some (slice_get groups n) row
    = ap (λ (group : Option ConceptGroup). is_in_some group row) (sym (slice_get-get_or groups n own inside)) in
    elim (cases_eq m n) [
      | inl same ↦
          eq-eqb m n same ∙ sym (in_own_group row)
          ∙ ap (λ (group : Option ConceptGroup). is_in_some group row) (sym is
          ∙ ap (λ (k : ℕ). slice_get groups k) same)
      | inr other ↦ elim (cases_Bool (is_in_group (get_or groups n own) row)) [
        | inl passes ↦
            let its : get_or groups n own ≡ own = in_one_group (get_or groups n own) row
            (All-get_or (λ (group : ConceptGroup). IsTold group.key) groups n own inside told) passes in
            absurd (other (same_place groups once m n own (slice_get_within groups m own is) inside
            (get_or_from_slice_get groups m own own is ∙ sym its)))
        | inr fails ↦ ne_eqb m n other ∙ sym fails ∙ there
      ]
    ]

-- ---- what the cells of a column tell
module _ (indexed : Indexed) (entries : List Entry) (cells : List ℕ) where
  module _ (values : AreValues (values_of indexed) entries cells) where
    -- a column of values has one cell for each row
    pub values_long : length cells ≡ length entries
    values_long = same_length (value_at (values_of indexed)) (λ (entry : Entry). entry.row.value) cells entries
        values.values

    -- cell `k` of a column of values is the number of the value of row `k`
    pub value_there : (k : ℕ) → k < length entries
        → value_at (values_of indexed) (get_or cells k 0) ≡ (get_or entries k an_entry).row.value
    value_there k within =
        same_at (value_at (values_of indexed)) (λ (entry : Entry). entry.row.value) cells entries values.values k 0
        an_entry within

    -- whether the value of row `k` passes can be decided by its cell
    pub values_told : (passes : Value → Bool)
        → (k : ℕ) → k < length entries
        → passes (value_of indexed (get_or cells k 0)) ≡ passes (get_or entries k an_entry).row.value
    values_told passes k within = ap passes (value_there k within)

  module _ (types : AreTypes (types_of indexed.rows) entries cells) where
    -- a column of types has one cell for each row
    pub types_long : length cells ≡ length entries
    types_long = same_length (slice_index (types_of indexed.rows)) (λ (entry : Entry). entry.row.type_id) cells entries
        types.types

    -- whether the type of row `k` passes can be decided by its cell
    pub types_told : (one told : ℕ → Bool) → TellsTypes indexed.rows one told
        → (k : ℕ) → k < length entries → told (get_or cells k 0) ≡ one (get_or entries k an_entry).row.type_id
    types_told one told tells k within =
        tells (get_or cells k 0) (types.within k 0 (omega (arith, within, types_long)))
        ∙ ap one (same_at (slice_index (types_of indexed.rows)) (λ (entry : Entry). entry.row.type_id) cells entries
        types.types
        k 0 an_entry within)

-- ---- by source, by value and by group
module _ (concepts : List ℕ) (entries : List Entry) (marks : List Flagged) (sources : AreSources concepts entries marks)
  where
    -- a column of sources has one mark for each row
    pub sources_long : length marks ≡ length entries
    sources_long = same_length (λ (mark : Flagged). mark.is_first) (λ (entry : Entry). entry.is_first) marks entries
        sources.firsts

    -- the mark of a row has the number of a concept
    source_below : (k : ℕ) → k < length entries → (get_or marks k a_mark).number < length concepts
    source_below k within = sources.within k a_mark (omega (arith, within, sources_long))

    -- the mark of a row says whether it is the first with its pair
    source_first : (k : ℕ) → k < length entries
        → (get_or marks k a_mark).is_first ≡ (get_or entries k an_entry).is_first
    source_first k within =
        same_at (λ (mark : Flagged). mark.is_first) (λ (entry : Entry). entry.is_first) marks entries sources.firsts k
        a_mark an_entry within

    -- the mark of a row has the number of its source
    source_there : (k : ℕ) → k < length entries
        → get_or concepts (get_or marks k a_mark).number 0 ≡ (get_or entries k an_entry).row.source
    source_there k within =
        same_at (λ (mark : Flagged). get_or concepts mark.number 0) (λ (entry : Entry). entry.row.source) marks entries
        sources.sources k a_mark an_entry within

-- rows whose cell tells whether they are kept
module _ (kept : Attribute → Bool) (tells : ℕ → Bool) (entries : List Entry) (marks : List Flagged) (cells : List ℕ)
    (cells_long : length cells ≡ length entries)
    (told : (k : ℕ) → k < length entries → tells (get_or cells k 0) ≡ kept (get_or entries k an_entry).row) where
  -- the sources of the kept rows that are the first with their pairs are hits
  source_hits : (concepts : List ℕ) → IsStrictlyIncreasing concepts → AreSources concepts entries marks
      → AreHits (length concepts) (counts_for_source concepts kept) entries
      (picked (λ mark cell. mark.is_first && tells cell) (λ mark cell. mark.number) marks cells)
  source_hits concepts rising sources =
      picked_hits (λ mark cell. mark.is_first && tells cell) (λ mark cell. mark.number) a_mark
      (length concepts) (counts_for_source concepts kept) an_entry marks cells entries
      (sources_long concepts entries marks sources) cells_long
      (λ k within keeps. source_below concepts entries marks sources k within)
      (λ n inside k within.
      and_turned ((get_or marks k a_mark).is_first && tells (get_or cells k 0)) ((get_or marks k a_mark).number == n)
      ∙ (λ i. by_source n inside k within i && (source_first concepts entries marks sources k within i
      && told k within i)))
    where
      by_source : (n : ℕ) → n < length concepts → (k : ℕ) → k < length entries
          → ((get_or marks k a_mark).number == n) ≡ ((get_or entries k an_entry).row.source == get_or concepts n 0)
      by_source n inside k within =
          sym (same_by_number concepts rising (get_or marks k a_mark).number n
          (source_below concepts entries marks sources k within) inside)
          ∙ ap (λ (source : ℕ). source == get_or concepts n 0) (source_there concepts entries marks sources k within)

  -- the groups of the kept rows that are the first with their pairs in their group are hits
  grouped_hits : (indexed : Indexed) → IsStrictlyIncreasing indexed.concepts
      → AreGroups (groups_in indexed) entries marks
      → AreHits (length (groups_in indexed)) (counts_for_group (groups_in indexed) kept) entries
      (picked (λ mark cell. mark.is_first && tells cell) (λ mark cell. mark.number) marks cells)
  grouped_hits indexed rising groups =
      picked_hits (λ mark cell. mark.is_first && tells cell) (λ mark cell. mark.number) a_mark
      (length (groups_in indexed)) (counts_for_group (groups_in indexed) kept) an_entry marks cells entries
      (same_length (λ (mark : Flagged). mark.is_first) (λ (entry : Entry). entry.is_first_in_group) marks entries
      groups.firsts) cells_long
      (λ k within keeps. slice_get_within (groups_in indexed) (get_or marks k a_mark).number
      (group_of (get_or entries k an_entry).row) (own k within))
      (λ n inside k within.
      and_turned ((get_or marks k a_mark).is_first && tells (get_or cells k 0)) ((get_or marks k a_mark).number == n)
      ∙ (λ i. group_tells (groups_in indexed) once all_told (get_or marks k a_mark).number n inside
      (get_or entries k an_entry).row (own k within) i
      && (first_there k within i && told k within i)))
    where
      once : IsOnce (groups_in indexed)
      once = groups_once (rows_alone indexed.concepts indexed.rows) rising

      all_told : All (λ (group : ConceptGroup). IsTold group.key) (groups_in indexed)
      all_told = groups_told_apart (rows_alone indexed.concepts indexed.rows) indexed.concepts

      own : (k : ℕ) → k < length entries → slice_get (groups_in indexed) (get_or marks k a_mark).number
          ≡ Some (group_of (get_or entries k an_entry).row)
      own k within =
          same_at (λ (mark : Flagged). slice_get (groups_in indexed) mark.number)
          (λ (entry : Entry). Some (group_of entry.row)) marks
          entries groups.groups k a_mark an_entry within

      first_there : (k : ℕ) → k < length entries
          → (get_or marks k a_mark).is_first ≡ (get_or entries k an_entry).is_first_in_group
      first_there k within =
          same_at (λ (mark : Flagged). mark.is_first) (λ (entry : Entry). entry.is_first_in_group) marks entries
          groups.firsts
          k a_mark an_entry within

  -- if cells decide which rows are kept, then picking the owner of each kept row that is the first with its pair gives
  -- the hits for the owners
  pub owned_hits : (owner : Owner) (indexed : Indexed) → IsStrictlyIncreasing indexed.concepts
      → AreOwners owner indexed entries marks
      → AreHits (owner_count owner indexed) (counts_for_owner owner indexed kept) entries
      (picked (λ mark cell. mark.is_first && tells cell) (λ mark cell. mark.number) marks cells)
  owned_hits owners.Source indexed rising sources = source_hits indexed.concepts rising sources
  owned_hits owners.Group indexed rising groups = grouped_hits indexed rising groups

-- rows that are read backwards, whose source is tested
module _ (indexed : Indexed) (passes : Value → Bool)
    (entries : List Entry) (marks : List Flagged) (sources : AreSources indexed.concepts entries marks) where
  -- whether the source of row `k` passes can be decided by its mark
  pub source_told : (k : ℕ) → k < length entries
      → passes (value_of indexed (get_or marks k a_mark).number)
      ≡ passes (concept_value (get_or entries k an_entry).row.source)
  source_told k within =
      ap passes (concept_at indexed.concepts indexed.decimals indexed.texts (get_or marks k a_mark).number
      (text_value [])
      (source_below indexed.concepts entries marks sources k within)
      ∙ ap concept_value (source_there indexed.concepts entries marks sources k within))

  -- read backwards, whether row `k` is the first with its pair and matches can be decided by its mark and its type's
  -- cell
  pub back_told : (one told : ℕ → Bool) (cells : List ℕ) → TellsTypes indexed.rows one told
      → AreTypes (types_of indexed.rows) entries cells
      → (k : ℕ) → k < length entries
      → ((get_or marks k a_mark).is_first && (told (get_or cells k 0)
      && passes (value_of indexed (get_or marks k a_mark).number)))
      ≡ ((get_or entries k an_entry).is_first && has_source_in one passes (get_or entries k an_entry).row)
  back_told one told cells tells are k within =
      λ i. source_first indexed.concepts entries marks sources k within i
      && (types_told indexed entries cells are one told tells k within i && source_told k within i)

module _ (indexed : Indexed) (passes : Value → Bool)
    (rising : IsStrictlyIncreasing indexed.concepts) (entries : List Entry) (marks : List Flagged) (cells : List ℕ)
    (values : AreValues (values_of indexed) entries cells) (sources : AreSources indexed.concepts entries marks) where
  -- the mark at a place
  abbrev mark : ℕ → Flagged
  mark k = get_or marks k a_mark

  -- the cell at a place
  abbrev cell : ℕ → ℕ
  cell k = get_or cells k 0

  -- the entry at a place
  abbrev entry : ℕ → Entry
  entry k = get_or entries k an_entry

  -- read backwards, picking the value of each row that is the first with its pair, has a source that passes, and has a
  -- concept as its value gives the hits for the values
  pub backward_hits : (bound : ℕ) → bound ≡ length indexed.concepts
      → AreHits (length indexed.concepts) (counts_for_value indexed.concepts (λ row. passes (concept_value row.source)))
      entries
      (picked (λ mark cell. ltb cell bound && (mark.is_first && passes (value_of indexed mark.number)))
      (λ mark cell. cell) marks cells)
  backward_hits bound is =
      picked_hits (λ mark cell. ltb cell bound && (mark.is_first && passes (value_of indexed mark.number)))
      (λ mark cell. cell) a_mark
      (length indexed.concepts) (counts_for_value indexed.concepts (λ row. passes (concept_value row.source))) an_entry
      marks cells entries
      (sources_long indexed.concepts entries marks sources) (values_long indexed entries cells values)
      (λ k within keeps. subst (λ n. cell k < n) is (ltb-true (cell k) bound (and_parts _ _ keeps).0))
      (λ n inside k within.
      and_apart (ltb (cell k) bound) ((mark k).is_first && passes (value_of indexed (mark k).number)) (cell k == n)
      ∙ (λ i. value_tells indexed rising bound is (cell k) (entry k).row.value
      (value_there indexed entries cells values k within) n inside i
      && (source_first indexed.concepts entries marks sources k within i
      && source_told indexed passes entries marks sources k within i)))

-- ---- the numbers that are picked are below the bound
-- if the numbers of all marks are below `bound`, so are those that are picked
pub marks_below : (kept : Flagged → ℕ → Bool) (bound : ℕ) (marks : List Flagged) (cells : List ℕ)
    → All (λ (mark : Flagged). mark.number < bound) marks
    → All (λ n. n < bound) (picked kept (λ mark cell. mark.number) marks cells)
marks_below kept bound [] cells below = All-nil (λ n. n < bound)
marks_below kept bound (mark ∷ marks) [] below = All-nil (λ n. n < bound)
marks_below kept bound (mark ∷ marks) (cell ∷ cells) below =
    let rest = marks_below kept bound marks cells (All-tail (λ (m : Flagged). m.number < bound) mark marks below) in
    elim (kept mark cell) as (λ b. All (λ n. n < bound)
    (cond b (mark.number ∷ picked kept (λ m c. m.number) marks cells) (picked kept (λ m c. m.number) marks cells))) [
      | true ↦ All-cons (λ n. n < bound) mark.number (picked kept (λ m c. m.number) marks cells)
          (below 0 mark (omega arith)) rest
      | false ↦ rest
    ]

-- if only cells below `bound` are picked, all picked cells are below `bound`
pub cells_below : (test : Flagged → Bool) (bound : ℕ) (marks : List Flagged) (cells : List ℕ)
    → All (λ n. n < bound) (picked (λ mark cell. ltb cell bound && test mark) (λ mark cell. cell) marks cells)
cells_below test bound [] cells = All-nil (λ n. n < bound)
cells_below test bound (mark ∷ marks) [] = All-nil (λ n. n < bound)
cells_below test bound (mark ∷ marks) (cell ∷ cells) =
    by_case (cells_below test bound marks cells) (ltb cell bound && test mark) refl
  where
    others : List ℕ
    others = picked (λ m c. ltb c bound && test m) (λ m c. c) marks cells

    by_case : All (λ n. n < bound) others → (b : Bool) → (ltb cell bound && test mark) ≡ b
        → All (λ n. n < bound) (cond b (cell ∷ others) others)
    by_case rest true keeps =
        All-cons (λ n. n < bound) cell others (ltb-true cell bound (and_parts (ltb cell bound) (test mark) keeps).0)
        rest
    by_case rest false leaves = rest

-- the marks of groups have numbers of groups
group_marks_below : (groups : List ConceptGroup) (entries : List Entry) (marks : List Flagged)
    → AreGroups groups entries marks
    → All (λ (mark : Flagged). mark.number < length groups) marks
group_marks_below groups entries marks are k d within =
    let long : length marks ≡ length entries
    = same_length (λ (mark : Flagged). mark.is_first) (λ (entry : Entry). entry.is_first_in_group) marks entries
    are.firsts in
    slice_get_within groups (get_or marks k d).number (group_of (get_or entries k an_entry).row)
    (same_at (λ (mark : Flagged). slice_get groups mark.number) (λ (entry : Entry). Some (group_of entry.row)) marks
    entries are.groups
    k d an_entry (omega (arith, within, long)))

-- in a column of owners, each mark's number is below the number of owners
pub owners_below : (owner : Owner) (indexed : Indexed) (entries : List Entry) (marks : List Flagged)
    → AreOwners owner indexed entries marks
    → All (λ (mark : Flagged). mark.number < owner_count owner indexed) marks
owners_below owners.Source indexed entries marks sources = sources.within
owners_below owners.Group indexed entries marks groups = group_marks_below (groups_in indexed) entries marks groups

-- a column of owners has one mark for each row
pub owners_long : (owner : Owner) (indexed : Indexed) (entries : List Entry) (marks : List Flagged)
    → AreOwners owner indexed entries marks
    → length marks ≡ length entries
owners_long owners.Source indexed entries marks sources = sources_long indexed.concepts entries marks sources
owners_long owners.Group indexed entries marks groups =
    same_length (λ (mark : Flagged). mark.is_first) (λ (entry : Entry). entry.is_first_in_group) marks entries
    groups.firsts

-- if `hits` and `more` are below `bound`, so is `hits ++ more`
pub pushed_below : (bound : ℕ) (hits next more : List ℕ) → next ≡ hits ++ more → All (λ n. n < bound) hits
    → All (λ n. n < bound) more
    → All (λ n. n < bound) next
pushed_below bound hits next more is below others =
    subst (All (λ n. n < bound)) (sym is) (All-append (λ n. n < bound) hits more below others)
