-- The distinct pairs of a concept, of a group, and of the rows that have a concept as their value, by the entries that
-- are first; and the groups of a concept, in whatever order they come.
use Rattle.std.proofs.Common.{ℕ, ◌+◌, ◌==◌, ◌≡◌, ◌&&◌, ◌||◌, ◌↔◌, ◌++◌, ◌∷◌, [], ◌∙◌, not}
use Rattle.std.proofs.Common.{List, get_or, map, Bool, true, false, cond, nat_eq, refl, sym, ap, arith, append-nil}
use Rattle.std.specs.Prelude.{All, Contains, count_by}
use Rattle.std.specs.Cmp.{IsEquivalence, equiv}
use Rattle.std.specs.List.{IsDistinct, filter, flat_map, list_any}
use Rattle.std.specs.List.Sorted.{IsStrictlyIncreasing}
use Rattle.std.proofs.lemmas.Bool.{and_parts, eqb-true, ne_eqb}
use Rattle.std.proofs.lemmas.Cmp.{nat_eq_equiv}
use Rattle.std.proofs.lemmas.List.{map-append}
use Rattle.std.proofs.lemmas.List.Elements.{All-append, All-contains, All-contains_itself, All-head, All-map, All-tail}
use Rattle.std.proofs.lemmas.List.Elements.{All-weaker}
use Rattle.std.proofs.lemmas.List.Elements.{Contains-get_or, filter_passes}
use Rattle.std.proofs.lemmas.List.Folds.{fold-map, list_any_none}
use Rattle.std.proofs.lemmas.List.Kept.{AllPairs-filter, AllPairs-from_increasing}
use Rattle.std.proofs.lemmas.List.Sums.{length-filter, sum_by-append}
use Rattle.std.proofs.lemmas.Map.Keys.{IsDistinct-from_apart, apart_from_distinct}
use Rattle.std.proofs.lemmas.Map.Made.{length-from_same_keys}
use Rattle.std.proofs.lemmas.Map.Views.{Contains-from_any, list_any-from_Contains}
use Rattle.std.proofs.lemmas.Simd.{map-map}
use Rattle.std.proofs.Math.Bool.{and-false}
use Rattle.release_model.specs.Groups.{group_numbers, groups_of, pairs_in}
use Rattle.release_model.specs.Pairs.{Pair, in_pairs, out_pairs, pair_eq, pair_of, reverse_pair_of, rows_of, value_eq}
use Rattle.number_lists.specs.Distinct.{distinct}
use Rattle.release_model.specs.Release.{Attribute, Release, Value, concept_value}
use Rattle.number_lists.proofs.DistinctLemmas.{keeps_each_number_once}
use Rattle.release_model.proofs.PairLemmas.{keeps_each_pair_once, tells_same_pair, tells_same_value}
use Rattle.held_release.specs.AttributesBySource.{attributes_by_source}
use Rattle.number_lists.specs.Members.{has}
use Rattle.number_lists.specs.RisingOrder.{rising}
use Rattle.number_lists.proofs.RisingOrderLemmas.{keeps_rising}
use Rattle.number_lists.proofs.ListLemmas.{both_ways}
use Rattle.number_lists.proofs.MemberLemmas.{any-has}
use Rattle.postings.specs.Entries.{Entry, entries_of, is_alike, is_alike_in_group}
use Rattle.postings.specs.Groups.{ConceptGroup, GroupKey, all_groups, groups_among, is_in_group, keys_of, numbered}
use Rattle.postings.specs.Groups.{pairs_of_group}
use Rattle.postings.specs.Groups.{rows_alone, ungrouped}
use Rattle.postings.proofs.AgainLemmas.{rows_of_again}
use Rattle.number_lists.proofs.BlockLemmas.{All-flat_map, Contains-filter, any-filter, any-flat_map, any-map}
use Rattle.number_lists.proofs.BlockLemmas.{any-within, filter-map}
use Rattle.number_lists.proofs.BlockLemmas.{filter-none, filter-twice, flat_map-within}
use Rattle.postings.proofs.FirstLemmas.{firsts_give_distinct, pair_eq-flips}
use Rattle.postings.proofs.KeyLemmas.{group_with, groups_at}
use Rattle.held_release.proofs.DistinctPlaceLemmas.{All-distinct}

-- ---- counts of lists that have the same members, each once
module _ {X : Type 0} (same : X → X → Bool) (laws : IsEquivalence same) (exact : (x y : X) → same x y ≡ true → x ≡ y)
  where
    -- an item is found in both lists or in neither
    any_members : (xs ys : List X) → ((x : X) → Contains xs x ↔ Contains ys x) → (q : X)
        → list_any (same q) xs ≡ list_any (same q) ys
    any_members xs ys members q =
        both_ways (list_any (same q) xs) (list_any (same q) ys)
        (λ told. list_any-from_Contains laws q ys ((members q).0 (Contains-from_any exact q xs told)))
        (λ told. list_any-from_Contains laws q xs ((members q).1 (Contains-from_any exact q ys told)))

    -- an item is among the items that pass a test exactly if it passes and is among all items
    any_kept : (test : X → Bool) (q : X) (xs : List X)
        → list_any (same q) (filter test xs) ≡ (test q && list_any (same q) xs)
    any_kept test q xs = any-filter (same q) test xs ∙ along xs
      where
        here : (x : X) (b : Bool) → same q x ≡ b → (test x && b) ≡ (test q && b)
        here x true alike = ap (λ (y : X). test y && true) (sym (exact q x alike))
        here x false apart = and-false (test x) ∙ sym (and-false (test q))

        or_of : (a b c : Bool) → ((a && b) || (a && c)) ≡ (a && (b || c))
        or_of true b c = refl
        or_of false b c = refl

        along : (xs : List X) → list_any (λ x. test x && same q x) xs ≡ (test q && list_any (same q) xs)
        along [] = sym (and-false (test q))
        along (x ∷ xs) = (λ i. here x (same q x) refl i || along xs i)
            ∙ or_of (test q) (same q x) (list_any (same q) xs)

    -- the items that pass a test stand once if all items do
    kept_once : (test : X → Bool) (xs : List X) → IsDistinct same xs → IsDistinct same (filter test xs)
    kept_once test xs once =
        IsDistinct-from_apart same (filter test xs) (AllPairs-filter (λ x y. same x y ≡ false) test xs
        (λ i j d less below. apart_from_distinct same xs i j d once less below))

    -- if `xs` and `ys` have the same members, each once, then equally many of both pass `test`
    pub count_members : (test : X → Bool) (xs ys : List X) → IsDistinct same xs → IsDistinct same ys
        → ((x : X) → Contains xs x ↔ Contains ys x) → count_by test xs ≡ count_by test ys
    count_members test xs ys once also members =
        sym (length-filter test xs)
        ∙ length-from_same_keys laws (filter test xs) (filter test ys) (kept_once test xs once) (kept_once test ys also)
        (λ q. any_kept test q xs ∙ ap (λ (b : Bool). test q && b) (any_members xs ys members q)
        ∙ sym (any_kept test q ys))
        ∙ length-filter test ys

-- ---- the test of pairs, and of sources
-- the test `pair_eq` is an equivalence
pair_eq_equiv : IsEquivalence pair_eq
pair_eq_equiv = equiv (record {
  symm = pair_eq-flips;
  trans = λ x y z one other. (tells_same_pair x z).1 ((tells_same_pair x y).0 one ∙ (tells_same_pair y z).0 other);
}) (λ x. (tells_same_pair x x).1 refl)

-- pairs that `pair_eq` finds the same are equal
same_pair : (x y : Pair) → pair_eq x y ≡ true → x ≡ y
same_pair x y told = (tells_same_pair x y).0 told

-- a row of the concept `concept` has the source of another row exactly if that row is of the concept
swapped : (row_source other_source concept : ℕ) → row_source ≡ concept
    → (row_source == other_source) ≡ (other_source == concept)
swapped row_source other_source concept is = ap (λ (id : ℕ). id == other_source) is
    ∙ nat_eq_equiv.symm concept other_source

-- ---- groups

-- the pair of a group without a number is one of the pairs that its concept has without one
abbrev HasPair : Release → ℕ → GroupKey → Type 0
HasPair release concept (numbered number) = Unit {0}
HasPair release concept (ungrouped pair) = Contains (pairs_in release concept 0) pair

-- each group of `concepts` is of one of these concepts, and its pair, if it has one, is a pair of that concept
groups_have : (release : Release) (concepts : List ℕ)
    → All (λ (group : ConceptGroup). Contains concepts group.concept × HasPair release group.concept group.key)
    (groups_among release concepts)
groups_have release concepts =
    All-flat_map (λ (group : ConceptGroup). Contains concepts group.concept × HasPair release group.concept group.key)
    (groups_at release)
    concepts
    (λ concept there. All-map (λ (group : ConceptGroup). Contains concepts group.concept
    × HasPair release group.concept group.key)
    (group_with concept) (keys_of release concept)
    (All-weaker (HasPair release concept) (λ key. Contains concepts concept × HasPair release concept key)
    (λ key has_it. (there, has_it)) (keys_of release concept) (keys_have concept)))
  where
    keys_have : (concept : ℕ) → All (HasPair release concept) (keys_of release concept)
    keys_have concept =
        All-append (HasPair release concept) (map numbered (rising (group_numbers release concept)))
        (map ungrouped (pairs_in release concept 0))
        (All-map (HasPair release concept) numbered (rising (group_numbers release concept)) (λ k d below. tt))
        (All-map (HasPair release concept) ungrouped (pairs_in release concept 0)
        (All-contains_itself (pairs_in release concept 0)))

-- a list whose items are all one pair has that pair alone as its distinct items
distinct_one : (pairs : List Pair) (pair : Pair) → All (λ other. other ≡ pair) pairs → Contains pairs pair
    → distinct pair_eq pairs ≡ pair ∷ []
distinct_one [] pair all there = absurd (omega (arith, there.1))
distinct_one (first ∷ pairs) pair all there =
    let is : first ≡ pair = All-head (λ other. other ≡ pair) first pairs all in
    let others : All (λ other. other ≡ pair) (distinct pair_eq pairs) =
    All-distinct pair_eq (λ other. other ≡ pair) pairs (All-tail (λ other. other ≡ pair) first pairs all) in
    (λ i. is i ∷ filter-none (λ other. not (pair_eq first other)) (distinct pair_eq pairs)
    (All-weaker (λ other. other ≡ pair) (λ other. not (pair_eq first other) ≡ false)
    (λ other same. ap not ((tells_same_pair first other).1 (is ∙ sym same))) (distinct pair_eq pairs) others) i)

module _ (concepts : List ℕ) (rows : List Attribute) where
  -- the pairs of the group with a key are those of its entries that are first in it
  of_key : (concept : ℕ) (key : GroupKey) → HasPair (rows_alone concepts rows) concept key
      → pairs_of_group (rows_alone concepts rows) (group_with concept key)
      ≡ map (λ (entry : Entry). pair_of entry.row)
      (filter (λ (entry : Entry). is_in_group (group_with concept key) entry.row && entry.is_first_in_group)
      (entries_of rows))
  of_key concept (numbered number) has_it =
      ap (λ (own : List Attribute). distinct pair_eq (map pair_of own))
      (filter-twice (λ (row : Attribute). row.group == number) (λ (row : Attribute). row.source == concept) rows)
      ∙ sym (firsts_give_distinct (λ (row : Attribute). (row.source == concept) && (row.group == number)) pair_of
      is_alike_in_group
      (λ row other is.
      let parts = and_parts (row.source == concept) (row.group == number) is in
      (λ i. swapped row.group other.group number (eqb-true row.group number parts.1) i
      && (swapped row.source other.source concept (eqb-true row.source concept parts.0) i
      && pair_eq (pair_of row) (pair_of other)))
      ∙ order (other.group == number) (other.source == concept) (pair_eq (pair_of row) (pair_of other)))
      (λ (entry : Entry). entry.is_first_in_group) (λ row before. refl) rows)
    where
      order : (a b c : Bool) → (a && (b && c)) ≡ ((b && a) && c)
      order true true c = refl
      order true false c = refl
      order false true c = refl
      order false false c = refl
  of_key concept (ungrouped pair) has_it =
      let own = filter (λ (row : Attribute). row.source == concept) rows in
      let ungrouped_own = filter (λ (row : Attribute). row.group == 0) own in
      let is_one : Pair → Bool = λ other. pair_eq other pair in
      let there : Contains (map pair_of ungrouped_own) pair =
      ((keeps_each_pair_once (map pair_of ungrouped_own)).1 pair).0 has_it in
      let kept : map pair_of (filter (λ (row : Attribute). (row.source == concept)
      && ((row.group == 0) && is_one (pair_of row))) rows)
      ≡ filter is_one (map pair_of ungrouped_own) =
      ap (map pair_of)
      (sym (filter-twice (λ (row : Attribute). (row.group == 0) && is_one (pair_of row))
      (λ (row : Attribute). row.source == concept)
      rows)
      ∙ sym (filter-twice (λ (row : Attribute). is_one (pair_of row)) (λ (row : Attribute). row.group == 0) own))
      ∙ sym (filter-map is_one pair_of ungrouped_own) in
      sym (firsts_give_distinct (λ (row : Attribute). (row.source == concept)
      && ((row.group == 0) && is_one (pair_of row))) pair_of
      is_alike_in_group agree
      (λ (entry : Entry). entry.is_first_in_group) (λ row before. refl) rows
      ∙ ap (distinct pair_eq) kept
      ∙ distinct_one (filter is_one (map pair_of ungrouped_own)) pair
      (All-weaker (λ other. is_one other ≡ true) (λ other. other ≡ pair) (λ other told. same_pair other pair told)
      (filter is_one (map pair_of ungrouped_own)) (filter_passes is_one (map pair_of ungrouped_own)))
      (Contains-filter is_one (map pair_of ungrouped_own) pair ((tells_same_pair pair pair).1 refl) there))
    where
      order : (a b c : Bool) → (a && (b && c)) ≡ ((b && (a && c)) && c)
      order true true true = refl
      order true true false = refl
      order true false c = refl
      order false true c = refl
      order false false c = refl

      agree : (row other : Attribute) → ((row.source == concept) && ((row.group == 0) && pair_eq (pair_of row) pair))
          ≡ true
          → is_alike_in_group row other
          ≡ (((other.source == concept) && ((other.group == 0) && pair_eq (pair_of other) pair))
          && pair_eq (pair_of row) (pair_of other))
      agree row other is =
          let parts = and_parts (row.source == concept) ((row.group == 0) && pair_eq (pair_of row) pair) is in
          let more = and_parts (row.group == 0) (pair_eq (pair_of row) pair) parts.1 in
          let same : pair_of row ≡ pair = same_pair (pair_of row) pair more.1 in
          let test : pair_eq (pair_of row) (pair_of other) ≡ pair_eq (pair_of other) pair =
          ap (λ (one : Pair). pair_eq one (pair_of other)) same ∙ pair_eq-flips pair (pair_of other) in
          (λ i. swapped row.group other.group 0 (eqb-true row.group 0 more.0) i
          && (swapped row.source other.source concept (eqb-true row.source concept parts.0) i
          && pair_eq (pair_of row) (pair_of other)))
          ∙ order (other.group == 0) (other.source == concept) (pair_eq (pair_of row) (pair_of other))
          ∙ (λ i. ((other.source == concept) && ((other.group == 0) && test i))
          && pair_eq (pair_of row) (pair_of other))

  -- in a release with only `concepts` and `rows`, the distinct pairs of a group are the pairs of its entries that are
  -- the first with their pair in the group
  pub first_entries_of_group_alone : (group : ConceptGroup) → Contains (all_groups (rows_alone concepts rows)) group
      → pairs_of_group (rows_alone concepts rows) group
      ≡ map (λ (entry : Entry). pair_of entry.row)
      (filter (λ (entry : Entry). is_in_group group entry.row && entry.is_first_in_group) (entries_of rows))
  first_entries_of_group_alone group there =
      of_key group.concept group.key
      (All-contains (λ (group : ConceptGroup). Contains concepts group.concept
      × HasPair (rows_alone concepts rows) group.concept group.key) (all_groups (rows_alone concepts rows)) group
      (groups_have (rows_alone concepts rows) concepts) there).1

module _ (release : Release) (increases : IsStrictlyIncreasing release.concepts) where
  -- the distinct pairs of a concept in force are the pairs of its entries that are the first with their pair in the
  -- concept
  pub first_entries : (concept : ℕ) → Contains release.concepts concept
      → out_pairs release concept ≡ map (λ (entry : Entry). pair_of entry.row)
      (filter (λ (entry : Entry). (entry.row.source == concept) && entry.is_first)
      (entries_of (attributes_by_source release)))
  first_entries concept there =
      ap (λ (rows : List Attribute). distinct pair_eq (map pair_of rows))
      (sym (rows_of_again release increases (attributes_by_source release) refl concept there))
      ∙ sym (firsts_give_distinct (λ (row : Attribute). row.source == concept) pair_of is_alike
      (λ row other is i. swapped row.source other.source concept (eqb-true row.source concept is) i
      && pair_eq (pair_of row) (pair_of other))
      (λ (entry : Entry). entry.is_first) (λ row before. refl) (attributes_by_source release))

  -- concepts in force have the same groups in the rows ordered by source as in the release
  pub groups_again : (concepts : List ℕ)
      → ((concept : ℕ) → Contains concepts concept → Contains release.concepts concept)
      → groups_among (rows_alone release.concepts (attributes_by_source release)) concepts
      ≡ groups_among release concepts
  groups_again concepts among =
      flat_map-within (groups_at (rows_alone release.concepts (attributes_by_source release))) (groups_at release)
      concepts
      (λ k d below. ap (map (group_with (get_or concepts k d)))
      (keys_again (get_or concepts k d) (among (get_or concepts k d) (Contains-get_or concepts k d below))))
    where
      keys_again : (concept : ℕ) → Contains release.concepts concept
          → keys_of (rows_alone release.concepts (attributes_by_source release)) concept ≡ keys_of release concept
      keys_again concept there =
          ap (λ (own : List Attribute). map numbered (rising
          (distinct nat_eq (filter (λ group. not (group == 0)) (map (λ (row : Attribute). row.group) own))))
          ++ map ungrouped (distinct pair_eq (map pair_of (filter (λ (row : Attribute). row.group == 0) own))))
          (rows_of_again release increases (attributes_by_source release) refl concept there)

  -- the rows ordered by source have the same groups as the release
  pub all_groups_again : all_groups (rows_alone release.concepts (attributes_by_source release)) ≡ all_groups release
  all_groups_again = groups_again release.concepts (λ concept there. there)

  -- a group has the same distinct pairs in the rows ordered by source as in the release
  pub pairs_of_group_again : (group : ConceptGroup) → Contains release.concepts group.concept
      → pairs_of_group (rows_alone release.concepts (attributes_by_source release)) group ≡ pairs_of_group release group
  pairs_of_group_again group there = by group.key
    where
      by : (key : GroupKey) → pairs_of_group (rows_alone release.concepts (attributes_by_source release))
          (group_with group.concept key)
          ≡ pairs_of_group release (group_with group.concept key)
      by (numbered number) =
          ap (λ (own : List Attribute). distinct pair_eq
          (map pair_of (filter (λ (row : Attribute). row.group == number) own)))
          (rows_of_again release increases (attributes_by_source release) refl group.concept there)
      by (ungrouped pair) = refl

  -- the distinct pairs of a group of the release are the pairs of its entries that are the first with their pair in the
  -- group
  pub first_entries_of_group : (group : ConceptGroup)
      → Contains (all_groups (rows_alone release.concepts (attributes_by_source release))) group
      → pairs_of_group release group
      ≡ map (λ (entry : Entry). pair_of entry.row)
      (filter (λ (entry : Entry). is_in_group group entry.row && entry.is_first_in_group)
      (entries_of (attributes_by_source release)))
  first_entries_of_group group there =
      sym (pairs_of_group_again group (in_release there).0)
      ∙ first_entries_of_group_alone release.concepts (attributes_by_source release) group there
    where
      in_release : Contains (all_groups (rows_alone release.concepts (attributes_by_source release))) group
          → Contains release.concepts group.concept
          × HasPair (rows_alone release.concepts (attributes_by_source release)) group.concept
          group.key
      in_release there =
          All-contains (λ (group : ConceptGroup). Contains release.concepts group.concept
          × HasPair (rows_alone release.concepts (attributes_by_source release)) group.concept group.key)
          (all_groups (rows_alone release.concepts (attributes_by_source release))) group
          (groups_have (rows_alone release.concepts (attributes_by_source release)) release.concepts) there

-- ---- pairs read backwards

-- a test passes for a row by source exactly if it passes for a row, if the sources of all rows are concepts
any_by_source : (test : Attribute → Bool) (concepts : List ℕ) (rows : List Attribute)
    → All (λ (row : Attribute). has concepts row.source ≡ true) rows
    → list_any test (flat_map (λ concept. filter (λ (row : Attribute). row.source == concept) rows) concepts)
    ≡ list_any test rows
any_by_source test concepts rows known =
    any-flat_map test (λ concept. filter (λ (row : Attribute). row.source == concept) rows) concepts ∙ along rows known
  where
    both : (A B : ℕ → Bool) (xs : List ℕ) → list_any (λ x. A x || B x) xs ≡ (list_any A xs || list_any B xs)
    both A B [] = refl
    both A B (x ∷ xs) = ap (λ (rest : Bool). (A x || B x) || rest) (both A B xs)
        ∙ order (A x) (B x) (list_any A xs) (list_any B xs)
      where
        order : (a b c d : Bool) → ((a || b) || (c || d)) ≡ ((a || c) || (b || d))
        order true b c d = refl
        order false true true d = refl
        order false true false d = refl
        order false false c d = refl

    with : (A : ℕ → Bool) (b : Bool) (xs : List ℕ) → list_any (λ x. A x && b) xs ≡ (list_any A xs && b)
    with A b [] = refl
    with A b (x ∷ xs) = ap (λ (rest : Bool). (A x && b) || rest) (with A b xs) ∙ order (A x) b (list_any A xs)
      where
        order : (a b c : Bool) → ((a && b) || (c && b)) ≡ ((a || c) && b)
        order true true c = refl
        order true false true = refl
        order true false false = refl
        order false b c = refl

    one_more : (row : Attribute) (rows : List Attribute) (concept : ℕ)
        → list_any test (filter (λ (row : Attribute). row.source == concept) (row ∷ rows))
        ≡ (((row.source == concept) && test row)
        || list_any test (filter (λ (row : Attribute). row.source == concept) rows))
    one_more row rows concept =
        elim (row.source == concept) as (λ b. list_any test
        (cond b (row ∷ filter (λ (row : Attribute). row.source == concept) rows)
        (filter (λ (row : Attribute). row.source == concept) rows))
        ≡ ((b && test row) || list_any test (filter (λ (row : Attribute). row.source == concept) rows)))
        [ true ↦ refl | false ↦ refl ]

    along : (rows : List Attribute) → All (λ (row : Attribute). has concepts row.source ≡ true) rows
        → list_any (λ concept. list_any test (filter (λ (row : Attribute). row.source == concept) rows)) concepts
        ≡ list_any test rows
    along [] known = list_any_none (λ concept. false) concepts (λ k d below. refl)
    along (row ∷ rows) known =
        let here : list_any (nat_eq row.source) concepts ≡ true = any-has concepts row.source
        ∙ All-head (λ (row : Attribute). has concepts row.source ≡ true) row rows known in
        let rest = along rows (All-tail (λ (row : Attribute). has concepts row.source ≡ true) row rows known) in
        any-within (λ concept. list_any test (filter (λ (row : Attribute). row.source == concept) (row ∷ rows)))
        (λ concept. ((row.source == concept) && test row)
        || list_any test (filter (λ (row : Attribute). row.source == concept) rows))
        concepts (λ k d below. one_more row rows (get_or concepts k d))
        ∙ both (λ concept. (row.source == concept) && test row)
        (λ concept. list_any test (filter (λ (row : Attribute). row.source == concept) rows)) concepts
        ∙ (λ i. with (λ concept. row.source == concept) (test row) concepts i || rest i)
        ∙ (λ i. (here i && test row) || list_any test rows)

-- two lists have equal distinct pairs, if each test passes in both lists or in neither
same_pairs : (one other : List Pair) → ((test : Pair → Bool) → list_any test one ≡ list_any test other) → (pair : Pair)
    → Contains (distinct pair_eq one) pair ↔ Contains (distinct pair_eq other) pair
same_pairs one other same pair = (across one other same, across other one (λ test. sym (same test)))
  where
    across : (one other : List Pair) → ((test : Pair → Bool) → list_any test one ≡ list_any test other)
        → Contains (distinct pair_eq one) pair → Contains (distinct pair_eq other) pair
    across one other same there =
        ((keeps_each_pair_once other).1 pair).1
        (Contains-from_any same_pair pair other (sym (same (pair_eq pair))
        ∙ list_any-from_Contains pair_eq_equiv pair one (((keeps_each_pair_once one).1 pair).0 there)))

-- if all sources are in force: the distinct pairs of `concept` read backwards that pass `test` are as many as the
-- entries with `concept` as value that are the first with their pair and whose pair read backwards passes
pub back_count : (release : Release)
    → All (λ (row : Attribute). has release.concepts row.source ≡ true) release.attributes
    → (test : Pair → Bool) (concept : ℕ)
    → count_by test (in_pairs release concept)
    ≡ count_by test (map (λ (entry : Entry). reverse_pair_of entry.row)
    (filter (λ (entry : Entry). value_eq entry.row.value (concept_value concept) && entry.is_first)
    (entries_of (attributes_by_source release))))
back_count release known test concept =
    count_members pair_eq pair_eq_equiv same_pair test (distinct pair_eq (back release.attributes))
    (distinct pair_eq (back (attributes_by_source release)))
    (keeps_each_pair_once (back release.attributes)).0 (keeps_each_pair_once (back (attributes_by_source release))).0
    (same_pairs (back release.attributes) (back (attributes_by_source release)) same)
    ∙ ap (count_by test)
    (sym (firsts_give_distinct pick reverse_pair_of is_alike agree (λ (entry : Entry). entry.is_first)
    (λ row before. refl)
    (attributes_by_source release)))
  where
    pick : Attribute → Bool
    pick row = value_eq row.value (concept_value concept)

    back : List Attribute → List Pair
    back rows = map reverse_pair_of (filter pick rows)

    any_back : (test : Pair → Bool) (rows : List Attribute)
        → list_any test (back rows) ≡ list_any (λ row. pick row && test (reverse_pair_of row)) rows
    any_back test rows = any-map test reverse_pair_of (filter pick rows)
        ∙ any-filter (λ row. test (reverse_pair_of row)) pick rows

    same : (test : Pair → Bool)
        → list_any test (back release.attributes) ≡ list_any test (back (attributes_by_source release))
    same test =
        any_back test release.attributes
        ∙ sym (any_by_source (λ row. pick row && test (reverse_pair_of row)) release.concepts release.attributes known)
        ∙ sym (any_back test (attributes_by_source release))

    order : (a b c : Bool) → (a && (b && c)) ≡ (c && (b && a))
    order true true true = refl
    order true true false = refl
    order true false true = refl
    order true false false = refl
    order false true true = refl
    order false true false = refl
    order false false true = refl
    order false false false = refl

    agree : (row other : Attribute) → pick row ≡ true
        → is_alike row other ≡ (pick other && pair_eq (reverse_pair_of row) (reverse_pair_of other))
    agree row other is =
        let value : row.value ≡ concept_value concept = (tells_same_value row.value (concept_value concept)).0 is in
        let turned_value : value_eq row.value other.value ≡ pick other = ap (λ one. value_eq one other.value) value
        ∙ value_flips (concept_value concept) other.value in
        (λ i. (row.source == other.source) && ((row.type_id == other.type_id) && turned_value i))
        ∙ order (row.source == other.source) (row.type_id == other.type_id) (pick other)
      where
        value_flips : (one other : Value) → value_eq one other ≡ value_eq other one
        value_flips one other =
            both_ways (value_eq one other) (value_eq other one)
            (λ told. (tells_same_value other one).1 (sym ((tells_same_value one other).0 told)))
            (λ told. (tells_same_value one other).1 (sym ((tells_same_value other one).0 told)))

-- ---- the groups of a concept

-- a list of numbers without repeats has equally many that pass a test after it is put in rising order
count_rising : (test : ℕ → Bool) (numbers : List ℕ) → IsDistinct nat_eq numbers
    → count_by test (rising numbers) ≡ count_by test numbers
count_rising test numbers once =
    count_members nat_eq nat_eq_equiv (λ x y told. eqb-true x y told) test (rising numbers) numbers
    (IsDistinct-from_apart nat_eq (rising numbers)
    (λ i j d less below. ne_eqb (get_or (rising numbers) i d) (get_or (rising numbers) j d)
    (λ same. let up = AllPairs-from_increasing (rising numbers) (keeps_rising numbers).0 i j d less below in
    absurd (omega (arith, up, same)))))
    once
    (keeps_rising numbers).1

-- the items of `map f xs` that pass a test are as many as the items of `xs` that pass it after `f`
count_map : {X Y : Type 0} (test : Y → Bool) (f : X → Y) (xs : List X)
    → count_by test (map f xs) ≡ count_by (λ x. test (f x)) xs
count_map test f xs = fold-map (λ sum y. sum + cond (test y) 1 0) f 0 xs

-- the numbered list `groups_among` and the definition `groups_of` have equally many groups of `concept` whose distinct
-- pairs pass `test`
pub groups_count : (release : Release) (test : List Pair → Bool) (concept : ℕ)
    → count_by test (map (pairs_of_group release) (groups_among release (concept ∷ [])))
    ≡ count_by test (groups_of release concept)
groups_count release test concept =
    ap (count_by test)
    (ap (map (pairs_of_group release)) (append-nil (groups_at release concept))
    ∙ map-map (pairs_of_group release) (group_with concept) (keys_of release concept)
    ∙ map-append given (map numbered (rising numbers)) (map ungrouped (pairs_in release concept 0))
    ∙ (λ i. map-map given numbered (rising numbers) i ++ map-map given ungrouped (pairs_in release concept 0) i))
    ∙ sum_by-append (λ pairs. cond (test pairs) 1 0) (map (pairs_in release concept) (rising numbers)) single
    ∙ (λ i. (count_map test (pairs_in release concept) (rising numbers)
    ∙ count_rising (λ number. test (pairs_in release concept number)) numbers
    (keeps_each_number_once (filter (λ group. not (group == 0))
    (map (λ (row : Attribute). row.group) (rows_of release concept)))).0
    ∙ sym (count_map test (pairs_in release concept) numbers)) i + count_by test single)
    ∙ sym (sum_by-append (λ pairs. cond (test pairs) 1 0) (map (pairs_in release concept) numbers) single)
  where
    numbers : List ℕ
    numbers = group_numbers release concept

    single : List (List Pair)
    single = map (λ pair. pair ∷ []) (pairs_in release concept 0)

    given : GroupKey → List Pair
    given key = pairs_of_group release (group_with concept key)
