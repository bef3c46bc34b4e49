-- The rows that count for a concept or a group are its distinct pairs that pass.
use Rattle.std.proofs.Common.{ℕ, ◌≡◌, ◌<◌, ◌+◌, ◌∙◌, ◌∷◌, [], inl, inr, arith}
use Rattle.std.proofs.Common.{Bool, true, false, ◌&&◌, ◌||◌, ◌==◌, cond, List, length, get_or, map, refl, sym, ap}
use Rattle.std.proofs.Common.{subst}
use Rattle.std.specs.Prelude.{All, Contains, None, Option, Some, count_by, filter, nat_eq, slice_get}
use Rattle.std.specs.List.{AllByRecursion, IsDistinct, flat_map}
use Rattle.std.specs.List.Sorted.{IsStrictlyIncreasing}
use Rattle.std.proofs.lemmas.Bool.{and_parts, cases_eq, eq-eqb, eqb-true, false≢true, ne_eqb}
use Rattle.std.proofs.lemmas.List.Elements.{All-cons, All-nil, All-weaker, Contains-append_right, Contains-get_or}
use Rattle.std.proofs.lemmas.List.Sums.{count_by-le-length, length-filter}
use Rattle.std.proofs.lemmas.Map.Keys.{IsDistinct-from_apart}
use Rattle.std.proofs.lemmas.Option.{get_or_from_slice_get, slice_get-get_or, slice_get_within}
use Rattle.std.proofs.lemmas.List.{get_or_default}
use Rattle.std.proofs.Math.Bool.{and-false, or-false}
use Rattle.release_model.specs.Pairs.{Pair, in_pairs, out_pairs, pair_of, reverse_pair_of, rows_of, value_eq}
use Rattle.release_model.specs.Release.{Attribute, Release, Value, concept_value}
use Rattle.number_lists.proofs.DistinctLemmas.{keeps_each_number_once}
use Rattle.constraint_tree.specs.Passing.{lies_in}
use Rattle.constraint_tree.specs.declared.operator.Cardinality.{Cardinality}
use Rattle.number_lists.specs.Members.{has, times}
use Rattle.number_lists.specs.Rising.{numbers_where}
use Rattle.number_lists.proofs.WhereLemmas.{numbers_where-agree}
use Rattle.set_algebra.specs.Meaning.{has_pairs, pairs_of}
use Rattle.held_release.specs.AttributesBySource.{attributes_by_source}
use Rattle.number_lists.proofs.MemberLemmas.{had_contained, contains_had}
use Rattle.number_lists.proofs.BlockLemmas.{Contains-map, filter-all}
use Rattle.number_lists.proofs.IncreasingLemmas.{earlier_below}
use Rattle.postings.specs.Entries.{Entry, entries_of}
use Rattle.postings.specs.Groups.{ConceptGroup, all_groups, groups_in, is_in_group, pairs_of_group, rows_alone}
use Rattle.postings.specs.Indexed.{Indexed, IsIndexOf, types_of}
use Rattle.postings.proofs.CountLemmas.{back_count, first_entries, first_entries_of_group}
use Rattle.postings.proofs.EntryLemmas.{rows_of_entries}
use Rattle.pair_sets.specs.inside.Hits.{counts_for_concept, counts_for_group, counts_for_source, counts_for_value}
use Rattle.pair_sets.specs.inside.Hits.{entries_with_types}
use Rattle.pair_sets.specs.inside.Hits.{has_pair_in, has_source_in, is_in_some}
use Rattle.candidates.proofs.GroupLemmas.{groups_are}
use Rattle.candidates.specs.Groups.{groups_where, some_group_in}
use Rattle.candidates.specs.Numbers.{numbers_in}
use Rattle.number_lists.proofs.ListLemmas.{both_ways}
use Rattle.pair_sets.proofs.HitLemmas.{count-append, count-cons}

-- ---- how many items pass, by a key
module _ {X : Type 0} where
  -- a test that no item passes counts 0
  pub count_none : (p : X → Bool) (xs : List X) → ((x : X) → p x ≡ false) → count_by p xs ≡ 0
  count_none p [] none = refl
  count_none p (x ∷ xs) none = count-cons p x xs ∙ (λ i. cond (none x i) (1 + count_by p xs) (count_by p xs))
      ∙ count_none p xs none

  -- counting by `q` the items that pass `p` counts the items that pass both
  pub count_kept : (p q : X → Bool) (xs : List X) → count_by q (filter p xs) ≡ count_by (λ x. p x && q x) xs
  count_kept p q [] = refl
  count_kept p q (x ∷ xs) = by_case (count_kept p q xs) (p x) ∙ sym (count-cons (λ y. p y && q y) x xs)
    where
      by_case : count_by q (filter p xs) ≡ count_by (λ y. p y && q y) xs → (b : Bool)
          → count_by q (cond b (x ∷ filter p xs) (filter p xs))
          ≡ cond (b && q x) (1 + count_by (λ y. p y && q y) xs) (count_by (λ y. p y && q y) xs)
      by_case rest true = count-cons q x (filter p xs) ∙ (λ i. cond (q x) (1 + rest i) (rest i))
      by_case rest false = rest

  -- tests that agree on all items of `xs` count equally many
  pub count_agree : (p q : X → Bool) (xs : List X) → ((x : X) → Contains xs x → p x ≡ q x)
      → count_by p xs ≡ count_by q xs
  count_agree p q [] agree = refl
  count_agree p q (x ∷ xs) agree =
      let rest : count_by p xs ≡ count_by q xs
      = count_agree p q xs (λ y there. agree y (Contains-append_right (x ∷ []) xs y there)) in
      count-cons p x xs
      ∙ (λ i. cond (agree x (0, omega arith, refl) i) (1 + rest i) (rest i))
      ∙ sym (count-cons q x xs)

  -- if no item passes both `p` and `q`, their counts add up to the count of the items that pass `p` or `q`
  pub count_either : (p q r : X → Bool) (xs : List X) → ((x : X) → (p x && q x) ≡ false)
      → ((x : X) → r x ≡ (p x || q x))
      → count_by p xs + count_by q xs ≡ count_by r xs
  count_either p q r [] apart either = refl
  count_either p q r (x ∷ xs) apart either =
      (λ i. count-cons p x xs i + count-cons q x xs i)
      ∙ by_case (count_either p q r xs apart either) (p x) (q x) (apart x)
      ∙ (λ i. cond (sym (either x) i) (1 + count_by r xs) (count_by r xs))
      ∙ sym (count-cons r x xs)
    where
      by_case : count_by p xs + count_by q xs ≡ count_by r xs → (b c : Bool) → (b && c) ≡ false
          → cond b (1 + count_by p xs) (count_by p xs) + cond c (1 + count_by q xs) (count_by q xs)
          ≡ cond (b || c) (1 + count_by r xs) (count_by r xs)
      by_case rest true true both = absurd (false≢true (sym both))
      by_case rest true false both = omega (arith, rest)
      by_case rest false true both = omega (arith, rest)
      by_case rest false false both = rest

-- a key that differs from each of `keys` is not in `keys`
pub none_of : (key : ℕ) (keys : List ℕ) → AllByRecursion (λ other. nat_eq key other ≡ false) keys → has keys key ≡ false
none_of key [] apart = refl
none_of key (other ∷ keys) apart = (λ i. (swapped other key ∙ apart.0) i || has keys key) ∙ none_of key keys apart.1
  where
    swapped : (a b : ℕ) → (a == b) ≡ (b == a)
    swapped a b = both_ways (a == b) (b == a) (λ told. eq-eqb b a (sym (eqb-true a b told)))
        (λ told. eq-eqb a b (sym (eqb-true b a told)))

-- items of kept keys, key by key
module _ {X : Type 0} (key : X → ℕ) (kept : ℕ → Bool) (test : X → Bool) (xs : List X) where
  -- the items with a key
  of_key : ℕ → List X
  of_key k = filter (λ x. key x == k) xs

  -- for distinct `keys`, counting the items of the kept keys, key by key, counts the items whose key is in `keys` and
  -- kept
  pub count_by_keys : (keys : List ℕ) → IsDistinct nat_eq keys
      → count_by test (flat_map (λ k. filter (λ x. key x == k) xs) (filter kept keys))
      ≡ count_by (λ x. (has keys (key x) && kept (key x)) && test x) xs
  unfolding IsDistinct
  count_by_keys [] distinct = sym (count_none (λ x. false) xs (λ x. refl))
  count_by_keys (k ∷ keys) distinct = by_case (count_by_keys keys distinct.1) (kept k) refl
    where
      absent : (x : X) → key x ≡ k → has keys (key x) ≡ false
      absent x same = ap (has keys) same ∙ none_of k keys distinct.0

      by_case : count_by test (flat_map (λ j. filter (λ x. key x == j) xs) (filter kept keys))
          ≡ count_by (λ x. (has keys (key x) && kept (key x)) && test x) xs → (b : Bool) → kept k ≡ b
          → count_by test (flat_map (λ j. filter (λ x. key x == j) xs)
          (cond b (k ∷ filter kept keys) (filter kept keys)))
          ≡ count_by (λ x. (((k == key x) || has keys (key x)) && kept (key x)) && test x) xs
      by_case rest true is =
          count-append test (filter (λ x. key x == k) xs)
          (flat_map (λ j. filter (λ x. key x == j) xs) (filter kept keys))
          ∙ (λ i. count_kept (λ x. key x == k) test xs i + rest i)
          ∙ count_either (λ x. (key x == k) && test x) (λ x. (has keys (key x) && kept (key x)) && test x)
          (λ x. (((k == key x) || has keys (key x)) && kept (key x)) && test x) xs
          (λ x. apart x) (λ x. either x)
        where
          apart : (x : X) → (((key x == k) && test x) && ((has keys (key x) && kept (key x)) && test x)) ≡ false
          apart x = elim (cases_eq (key x) k) [
            | inl same ↦ (λ i. ((key x == k) && test x) && ((absent x same i && kept (key x)) && test x))
                ∙ and-false ((key x == k) && test x)
            | inr other ↦ (λ i. (ne_eqb (key x) k other i && test x) && ((has keys (key x) && kept (key x)) && test x))
          ]

          either : (x : X) → ((((k == key x) || has keys (key x)) && kept (key x)) && test x)
              ≡ (((key x == k) && test x) || ((has keys (key x) && kept (key x)) && test x))
          either x = elim (cases_eq (key x) k) [
            | inl same ↦
                (λ i. ((eq-eqb k (key x) (sym same) i || absent x same i) && (ap kept same ∙ is) i) && test x)
                ∙ sym ((λ i. (eq-eqb (key x) k same i && test x) || ((absent x same i && kept (key x)) && test x))
                ∙ or-false (test x))
            | inr other ↦
                (λ i. ((ne_eqb k (key x) (λ same. other (sym same)) i || has keys (key x)) && kept (key x)) && test x)
                ∙ sym (λ i. (ne_eqb (key x) k other i && test x) || ((has keys (key x) && kept (key x)) && test x))
          ]
      by_case rest false is = rest
          ∙ count_agree (λ x. (has keys (key x) && kept (key x)) && test x)
          (λ x. (((k == key x) || has keys (key x)) && kept (key x)) && test x) xs
          (λ x there. skipped x)
        where
          skipped : (x : X) → ((has keys (key x) && kept (key x)) && test x)
              ≡ ((((k == key x) || has keys (key x)) && kept (key x)) && test x)
          skipped x = elim (cases_eq (key x) k) [
            | inl same ↦
                (λ i. (absent x same i && kept (key x)) && test x)
                ∙ sym ((λ i. ((eq-eqb k (key x) (sym same) i || has keys (key x)) && (ap kept same ∙ is) i) && test x))
            | inr other ↦ sym (λ i. ((ne_eqb k (key x) (λ same. other (sym same)) i || has keys (key x))
                && kept (key x)) && test x)
          ]

-- the list of types of rows has no repeats
pub types_apart : (rows : List Attribute) → IsDistinct nat_eq (types_of rows)
types_apart rows = (keeps_each_number_once (map (λ (row : Attribute). row.type_id) rows)).0

-- ---- the rows of kept types that count are pairs that pass
-- counting `map f xs` by `test` counts the items of `xs` whose `f` passes
pub count_map : {X Y : Type 0} (test : Y → Bool) (f : X → Y) (xs : List X)
    → count_by test (map f xs) ≡ count_by (λ x. test (f x)) xs
count_map test f [] = refl
count_map test f (x ∷ xs) =
    count-cons test (f x) (map f xs)
    ∙ (λ i. cond (test (f x)) (1 + count_map test f xs i) (count_map test f xs i))
    ∙ sym (count-cons (λ y. test (f y)) x xs)

-- the first of four parts of a conjunction can be put third
one_inside : (a b c d : Bool) → (a && (b && (c && d))) ≡ (b && (c && (a && d)))
one_inside true b c d = refl
one_inside false b c d = sym (by_case b c)
  where
    by_case : (b c : Bool) → (b && (c && false)) ≡ false
    by_case true c = and-false c
    by_case false c = refl

-- a conjunction of three parts does not depend on which two are joined first
together : (a b c : Bool) → (a && (b && c)) ≡ ((a && b) && c)
together true b c = refl
together false b c = refl

-- the rows of kept types, type by type
module _ (rows : List Attribute) (one : ℕ → Bool) where
  -- the types of rows that pass `one`
  abbrev pub kept_types : List ℕ
  kept_types = filter one (types_of rows)

  -- the type of each row is in the list of types
  pub type_there : (entry : Entry) → Contains (entries_of rows) entry → has (types_of rows) entry.row.type_id ≡ true
  type_there entry there =
      had_contained (types_of rows) entry.row.type_id
      (((keeps_each_number_once (map (λ (row : Attribute). row.type_id) rows)).1 entry.row.type_id).1
      (Contains-map (λ (row : Attribute). row.type_id) rows entry.row
      (subst (λ (all : List Attribute). Contains all entry.row) (rows_of_entries [] rows)
      (Contains-map (λ (e : Entry). e.row) (entries_of rows) entry there))))

  -- counting, type by type, the rows of the kept types counts the rows that have a kept type
  pub types_counted : (belongs first passes : Entry → Bool)
      → count_by (λ entry. belongs entry && (first entry && passes entry)) (entries_with_types rows kept_types)
      ≡ count_by (λ entry. belongs entry && (first entry && (one entry.row.type_id && passes entry))) (entries_of rows)
  types_counted belongs first passes =
      count_by_keys (λ (entry : Entry). entry.row.type_id) one (λ entry. belongs entry && (first entry && passes entry))
      (entries_of rows) (types_of rows)
      (types_apart rows)
      ∙ count_agree
      (λ (entry : Entry). (has (types_of rows) entry.row.type_id && one entry.row.type_id)
      && (belongs entry && (first entry && passes entry)))
      (λ (entry : Entry). belongs entry && (first entry && (one entry.row.type_id && passes entry))) (entries_of rows)
      (λ entry there.
      (λ i. (type_there entry there i && one entry.row.type_id) && (belongs entry && (first entry && passes entry)))
      ∙ one_inside (one entry.row.type_id) (belongs entry) (first entry) (passes entry))

-- if the pairs of the first rows are `pairs`, the kept rows that are the first with their pair are as many as the pairs
-- that pass
pub pairs_counted : (rows : List Attribute) (belongs first kept : Entry → Bool) (pair : Attribute → Pair) (test : Pair
    → Bool) (pairs : List Pair)
    → ((entry : Entry) → test (pair entry.row) ≡ kept entry)
    → count_by test pairs ≡ count_by test
    (map (λ (entry : Entry). pair entry.row) (filter (λ entry. belongs entry && first entry) (entries_of rows)))
    → count_by (λ entry. belongs entry && (first entry && kept entry)) (entries_of rows) ≡ count_by test pairs
pairs_counted rows belongs first kept pair test pairs tested told =
    (λ i. count_by (λ (entry : Entry). together (belongs entry) (first entry) (sym (tested entry) i) i)
    (entries_of rows))
    ∙ sym (count_kept (λ entry. belongs entry && first entry) (λ entry. test (pair entry.row)) (entries_of rows))
    ∙ sym (count_map test (λ (entry : Entry). pair entry.row)
    (filter (λ entry. belongs entry && first entry) (entries_of rows)))
    ∙ sym told

-- ---- the pairs of a concept
module _ (indexed : Indexed) (release : Release) (is : IsIndexOf indexed release)
    (rising : IsStrictlyIncreasing release.concepts)
    (one : ℕ → Bool) (passes : Value → Bool) where
  -- whether a pair has a type that passes `one` and a value that passes `passes`
  abbrev pub passing_pair : Pair → Bool
  passing_pair pair = one pair.type_id && passes pair.value

  -- the concept with a number is one of the release
  here : (n : ℕ) → n < length release.concepts → Contains release.concepts (get_or release.concepts n 0)
  here n within = Contains-get_or release.concepts n 0 within

  -- the rows that count for concept `n` as their source are as many as the distinct pairs of `n` that match
  pub sources_counted : (n : ℕ) → n < length release.concepts
      → count_by (counts_for_source indexed.concepts (has_pair_in one passes) n) (entries_of indexed.rows)
      ≡ count_by passing_pair (out_pairs release (get_or release.concepts n 0))
  sources_counted n within =
      pairs_counted indexed.rows (λ entry. entry.row.source == get_or indexed.concepts n 0) (λ entry. entry.is_first)
      (λ entry. has_pair_in one passes entry.row) pair_of passing_pair (out_pairs release (get_or release.concepts n 0))
      (λ entry. refl)
      (ap (count_by passing_pair) (first_entries release rising (get_or release.concepts n 0) (here n within))
      ∙ (λ i. count_by passing_pair (map (λ (entry : Entry). pair_of entry.row)
      (filter (λ (entry : Entry). (entry.row.source == get_or (sym is.concepts i) n 0) && entry.is_first)
      (entries_of (sym is.rows i))))))

  -- the rows that count for concept `n` as their value are as many as the distinct pairs, read backwards from `n`, that
  -- match
  pub values_counted : All (λ (row : Attribute). has release.concepts row.source ≡ true) release.attributes → (n : ℕ)
      → count_by (counts_for_value indexed.concepts (has_source_in one passes) n) (entries_of indexed.rows)
      ≡ count_by passing_pair (in_pairs release (get_or release.concepts n 0))
  values_counted known n =
      pairs_counted indexed.rows (λ entry. value_eq entry.row.value (concept_value (get_or indexed.concepts n 0)))
      (λ entry. entry.is_first)
      (λ entry. has_source_in one passes entry.row) reverse_pair_of passing_pair
      (in_pairs release (get_or release.concepts n 0)) (λ entry. refl)
      (back_count release known passing_pair (get_or release.concepts n 0)
      ∙ (λ i. count_by passing_pair (map (λ (entry : Entry). reverse_pair_of entry.row)
      (filter (λ (entry : Entry). value_eq entry.row.value (concept_value (get_or (sym is.concepts i) n 0))
      && entry.is_first) (entries_of (sym is.rows i))))))

  -- the rows that count for concept `n` are as many as the distinct pairs of `n`, its own or (if `back`) read
  -- backwards, that match
  pub concept_counted : All (λ (row : Attribute). has release.concepts row.source ≡ true) release.attributes
      → (back : Bool) (n : ℕ) → n < length release.concepts
      → count_by (counts_for_concept back indexed.concepts one passes n) (entries_of indexed.rows)
      ≡ count_by passing_pair (pairs_of release back (get_or release.concepts n 0))
  concept_counted known true n within = values_counted known n
  concept_counted known false n within = sources_counted n within

  -- if `hits` has each number as often as rows count for it, the numbers whose count in `hits` lies in `count` are the
  -- concepts whose number of matching pairs lies in `count`
  pub concepts_found : All (λ (row : Attribute). has release.concepts row.source ≡ true) release.attributes
      → (back : Bool) (count : Cardinality) (bound : ℕ) → bound ≡ length release.concepts → (hits found : List ℕ)
      → ((n : ℕ) → n < bound → times n hits ≡ count_by (counts_for_concept back indexed.concepts one passes n)
      (entries_of indexed.rows))
      → found ≡ numbers_where bound (λ n. lies_in count (times n hits))
      → found ≡ numbers_in release (λ concept. has_pairs count one passes (pairs_of release back concept))
  concepts_found known back count bound counted hits found often found_is =
      found_is ∙ numbers_where-agree bound (λ n. lies_in count (times n hits))
      (λ n. has_pairs count one passes (pairs_of release back (get_or release.concepts n 0)))
      (λ n within. ap (lies_in count) (often n within ∙ concept_counted known back n (omega (arith, within, counted))))
      ∙ ap (λ m. numbers_where m (λ n. has_pairs count one passes
      (pairs_of release back (get_or release.concepts n 0)))) counted

-- ---- the pairs of a group
-- `slice_get` finds an item at each place below the length of a list
pub none_within : {X : Type 0} (xs : List X) (k : ℕ) → k < length xs → slice_get xs k ≡ None → ⊥
none_within [] k within at = absurd (omega (arith, within))
none_within (x ∷ xs) k within at = let is : Some (get_or (x ∷ xs) k x) ≡ None =
    sym (slice_get-get_or (x ∷ xs) k x within) ∙ at in absurd cc

module _ (indexed : Indexed) (release : Release) (is : IsIndexOf indexed release)
    (rising : IsStrictlyIncreasing release.concepts)
    (one : ℕ → Bool) (passes : Value → Bool) where
  -- the rows that count for a group are as many as the distinct pairs of the group that match
  pub group_counted : (n : ℕ) (group : ConceptGroup) → slice_get (groups_in indexed) n ≡ Some group
      → count_by (counts_for_group (groups_in indexed) (has_pair_in one passes) n) (entries_of indexed.rows)
      ≡ count_by (passing_pair indexed release is rising one passes) (pairs_of_group release group)
  group_counted n group at =
      (λ i. count_by (λ (entry : Entry). is_in_some (at i) entry.row
      && (entry.is_first_in_group && has_pair_in one passes entry.row))
      (entries_of indexed.rows))
      ∙ pairs_counted indexed.rows (λ entry. is_in_group group entry.row) (λ entry. entry.is_first_in_group)
      (λ entry. has_pair_in one passes entry.row) pair_of (passing_pair indexed release is rising one passes)
      (pairs_of_group release group) (λ entry. refl)
      (ap (count_by (passing_pair indexed release is rising one passes))
      (first_entries_of_group release rising group there)
      ∙ (λ i. count_by (passing_pair indexed release is rising one passes) (map (λ (entry : Entry). pair_of entry.row)
      (filter (λ (entry : Entry). is_in_group group entry.row && entry.is_first_in_group)
      (entries_of (sym is.rows i))))))
    where
      there : Contains (all_groups (rows_alone release.concepts (attributes_by_source release))) group
      there =
          let found = get_or_from_slice_get (groups_in indexed) n group group at in
          subst (λ (groups : List ConceptGroup). Contains groups group)
          (λ i. all_groups (rows_alone (is.concepts i) (is.rows i)))
          (n, slice_get_within (groups_in indexed) n group at, found)

  -- if `hits` has each number as often as rows count for that group, the numbers whose count in `hits` lies in `count`
  -- are the groups whose number of matching pairs lies in `count`
  pub groups_found : (count : Cardinality) (bound : ℕ) → bound ≡ length (groups_in indexed) → (hits found : List ℕ)
      → ((n : ℕ) → n < bound → times n hits ≡ count_by (counts_for_group (groups_in indexed) (has_pair_in one passes) n)
      (entries_of indexed.rows))
      → found ≡ numbers_where bound (λ n. lies_in count (times n hits))
      → found ≡ groups_where release (has_pairs count one passes)
  groups_found count bound counted hits found often found_is =
      found_is ∙ numbers_where-agree bound (λ n. lies_in count (times n hits))
      (λ n. some_group_in release (has_pairs count one passes) (slice_get (groups_in indexed) n))
      (λ n within. ap (lies_in count) (often n within) ∙ in_group n within (slice_get (groups_in indexed) n) refl)
      ∙ (λ i. numbers_where (counted i) (λ n. some_group_in release (has_pairs count one passes)
      (slice_get (groups_in indexed) n)))
      ∙ ap (λ (groups : List ConceptGroup). numbers_where (length groups)
      (λ n. some_group_in release (has_pairs count one passes) (slice_get groups n)))
      (groups_are indexed release is rising)
    where
      in_group : (n : ℕ) → n < bound → (at : Option ConceptGroup) → slice_get (groups_in indexed) n ≡ at
          → lies_in count (count_by (counts_for_group (groups_in indexed) (has_pair_in one passes) n)
          (entries_of indexed.rows))
          ≡ some_group_in release (has_pairs count one passes) (slice_get (groups_in indexed) n)
      in_group n within None at = absurd (none_within (groups_in indexed) n (omega (arith, within, counted)) at)
      in_group n within (Some group) at =
          ap (lies_in count) (group_counted n group at)
          ∙ ap (some_group_in release (has_pairs count one passes)) (sym at)

-- ---- the sources of attribute rows are in force
-- if as many items pass as there are, all pass
count_full : {X : Type 0} (test : X → Bool) (xs : List X) → count_by test xs ≡ length xs → All (λ x. test x ≡ true) xs
count_full test [] full = All-nil (λ x. test x ≡ true)
count_full test (x ∷ xs) full = by_case (test x) refl (count_full test xs)
  where
    by_case : (b : Bool) → test x ≡ b → (count_by test xs ≡ length xs → All (λ y. test y ≡ true) xs)
        → All (λ y. test y ≡ true) (x ∷ xs)
    by_case true passes rest =
        All-cons (λ y. test y ≡ true) x xs passes
        (rest (omega (
          arith,
          sym full ∙ count-cons test x xs
              ∙ (λ i. cond (passes i) (1 + count_by test xs) (count_by test xs)),
        )))
    by_case false fails rest =
        absurd (omega (
          arith,
          sym full ∙ count-cons test x xs ∙ (λ i. cond (fails i) (1 + count_by test xs) (count_by test xs)),
          count_by-le-length test xs,
        ))

-- a strictly rising list of concepts has no repeats
pub concepts_apart : (concepts : List ℕ) → IsStrictlyIncreasing concepts → IsDistinct nat_eq concepts
concepts_apart concepts rising = IsDistinct-from_apart nat_eq concepts
    (λ i j d before within. ne_eqb (get_or concepts i d) (get_or concepts j d)
    (λ same. let less : get_or concepts i 0 < get_or concepts j 0 = earlier_below concepts rising i j before within in
    absurd (omega (
      arith,
      less,
      same,
      get_or_default concepts i d 0 (omega (arith, before, within)),
      get_or_default
          concepts j d 0 within,
    ))))

-- if ordering the attribute rows by source loses none, each row's source is a concept of the release
pub sources_known : (release : Release) → IsStrictlyIncreasing release.concepts
    → length (attributes_by_source release) ≡ length release.attributes
    → All (λ (row : Attribute). has release.concepts row.source ≡ true) release.attributes
sources_known release rising all =
    All-weaker (λ (row : Attribute). ((has release.concepts row.source && true) && true) ≡ true)
    (λ (row : Attribute). has release.concepts row.source ≡ true)
    (λ row told. had_contained release.concepts row.source (contains_had release.concepts row.source
    (and_parts (has release.concepts row.source) true
    (and_parts (has release.concepts row.source && true) true told).0).0))
    release.attributes
    (count_full (λ (row : Attribute). (has release.concepts row.source && true) && true) release.attributes
    (sym (count_by_keys (λ (row : Attribute). row.source) (λ id. true)
    (λ row. true) release.attributes release.concepts (concepts_apart release.concepts rising))
    ∙ (λ i. count_by (λ (row : Attribute). true)
    (flat_map (rows_of release) (filter-all (λ id. true) release.concepts (λ k d within. refl) i)))
    ∙ sym (length-filter (λ (row : Attribute). true) (attributes_by_source release))
    ∙ ap (λ (rows : List Attribute). length rows)
    (filter-all (λ (row : Attribute). true) (attributes_by_source release) (λ k d within. refl))
    ∙ all))
