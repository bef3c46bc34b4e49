-- How many groups of a concept are in a set.
use Rattle.std.proofs.Common.{ℕ, zero, suc, ◌≡◌, ◌≢◌, ◌<◌, ◌+◌, ◌∙◌, ◌∷◌, [], inl, inr, arith, append-nil}
use Rattle.std.proofs.Common.{Bool, true, false, ◌&&◌, ◌==◌, cond, List, length, get_or, map, refl, sym, ap, subst}
use Rattle.std.specs.Prelude.{All, Contains, IfSome, None, Option, Some, count_by, nat_eq, slice_get}
use Rattle.std.specs.List.{AllByRecursion, IsDistinct, range_with_len}
use Rattle.std.specs.List.Sorted.{IsStrictlyIncreasing}
use Rattle.std.proofs.lemmas.Bool.{cases_eq, eq-eqb, false≢true, ne_eqb}
use Rattle.std.proofs.lemmas.List.{get_or-map, length-map}
use Rattle.std.proofs.lemmas.List.Elements.{All-contains, Contains-get_or}
use Rattle.std.proofs.lemmas.List.FromFn.{fill_by_all, get_or-range_with_len, length-range_with_len}
use Rattle.std.proofs.lemmas.Option.{get_or_from_slice_get}
use Rattle.release_model.specs.Groups.{groups_of}
use Rattle.release_model.specs.Pairs.{Pair}
use Rattle.release_model.specs.Release.{Release}
use Rattle.constraint_tree.specs.Passing.{lies_in}
use Rattle.constraint_tree.specs.declared.operator.Cardinality.{Cardinality}
use Rattle.number_lists.specs.Rising.{numbers_where}
use Rattle.number_lists.proofs.WhereLemmas.{numbers_where-agree}
use Rattle.set_algebra.specs.Meaning.{has_groups}
use Rattle.postings.specs.Groups.{ConceptGroup, all_groups, groups_among, keys_of, pairs_of_group}
use Rattle.postings.proofs.CountLemmas.{groups_count}
use Rattle.postings.proofs.KeyLemmas.{group_with, groups_at}
use Rattle.number_lists.specs.Members.{times, has}
use Rattle.candidates.specs.Groups.{concept_in, groups_where, some_group_in}
use Rattle.candidates.specs.Numbers.{numbers_in}
use Rattle.pair_sets.specs.Owned.{HaveGroupsOf, groups_owned}
use Rattle.candidates.specs.Within.{groups_within, numbers_within}
use Rattle.candidates.proofs.WithinLemmas.{restricted_to}
use Rattle.std.specs.Prelude.{filter}
use Rattle.std.proofs.lemmas.Bool.{eqb-true}
use Rattle.pair_sets.proofs.HitLemmas.{count-append, count-cons}
use Rattle.pair_sets.proofs.LeafLemmas.{concepts_apart, count_agree, count_kept, count_map, none_within}
use Rattle.candidates.proofs.Normal.{same_by_number}

module _ (release : Release) (test : ConceptGroup → Bool) (concept : ℕ) where
  -- whether a group is one of the concept and passes
  abbrev pub is_counted : ConceptGroup → Bool
  is_counted group = (group.concept == concept) && test group

  -- among the groups of the concept, all that pass are counted
  own_groups : (keys : List _) → count_by is_counted (map (group_with concept) keys)
      ≡ count_by test (map (group_with concept) keys)
  own_groups [] = refl
  own_groups (key ∷ keys) =
      count-cons is_counted (group_with concept key) (map (group_with concept) keys)
      ∙ (λ i. cond (eq-eqb concept concept refl i && test (group_with concept key)) (1 + own_groups keys i)
      (own_groups keys i))
      ∙ sym (count-cons test (group_with concept key) (map (group_with concept) keys))

  -- among the groups of another concept none is counted
  other_groups : (other : ℕ) → other ≢ concept → (keys : List _) → count_by is_counted (map (group_with other) keys) ≡ 0
  other_groups other apart [] = refl
  other_groups other apart (key ∷ keys) =
      count-cons is_counted (group_with other key) (map (group_with other) keys)
      ∙ (λ i. cond (ne_eqb other concept apart i && test (group_with other key))
      (1 + count_by is_counted (map (group_with other) keys)) (count_by is_counted (map (group_with other) keys)))
      ∙ other_groups other apart keys

  -- among the groups of other concepts none is counted
  no_group_plans : (concepts : List ℕ) → AllByRecursion (λ other. nat_eq concept other ≡ false) concepts
      → count_by is_counted (groups_among release concepts) ≡ 0
  no_group_plans [] apart = refl
  no_group_plans (other ∷ concepts) apart =
      count-append is_counted (groups_at release other) (groups_among release concepts)
      ∙ (λ i. other_groups other (λ same. false≢true (sym apart.0 ∙ eq-eqb concept other (sym same)))
      (keys_of release other) i + no_group_plans concepts apart.1 i)

  -- among the groups of distinct `concepts`, the groups of `concept` that pass `test` are as many as among the groups
  -- of `concept` alone
  pub own_counted : (concepts : List ℕ) → IsDistinct nat_eq concepts → Contains concepts concept
      → count_by is_counted (groups_among release concepts) ≡ count_by test (groups_among release (concept ∷ []))
  unfolding IsDistinct
  own_counted [] distinct there = absurd (omega (arith, there.1))
  own_counted (other ∷ concepts) distinct there =
      count-append is_counted (groups_at release other) (groups_among release concepts)
      ∙ elim (cases_eq other concept) [
        | inl same ↦
            (λ i. ap (λ c. count_by is_counted (groups_at release c)) same i
            + no_group_plans concepts (subst (λ c. AllByRecursion (λ x. nat_eq c x ≡ false) concepts) same distinct.0)
            i)
            ∙ ap (λ n. n + 0) (own_groups (keys_of release concept))
            ∙ sum_zero (count_by test (groups_at release concept))
            ∙ ap (count_by test) (sym (append-nil (groups_at release concept)))
        | inr apart ↦
            (λ i. other_groups other apart (keys_of release other) i
            + count_by is_counted (groups_among release concepts))
            ∙ zero_sum (count_by is_counted (groups_among release concepts))
            ∙ own_counted concepts distinct.1 (later there apart)
      ]
    where
      sum_zero : (n : ℕ) → n + 0 ≡ n
      sum_zero n = omega arith

      zero_sum : (n : ℕ) → 0 + n ≡ n
      zero_sum n = omega arith

      later : Contains (other ∷ concepts) concept → other ≢ concept → Contains concepts concept
      later (zero, within, is) apart = absurd (apart is)
      later (suc k, within, is) apart = (k, omega (arith, within), is)

-- ---- counting by number
-- counting the places of a list by a test of the item there counts its items by that test
pub count_numbers : {X : Type 0} (test : Option X → Bool) (xs : List X)
    → count_by (λ k. test (slice_get xs k)) (range_with_len 0 (length xs)) ≡ count_by (λ x. test (Some x)) xs
count_numbers {X} test xs =
    sym (count_map test (slice_get xs) (range_with_len 0 (length xs)))
    ∙ ap (count_by test) (sym (fill_by_all (slice_get xs) (map Some xs) (length xs) None (length-map xs Some) at))
    ∙ count_map test Some xs
  where
    at : (k : ℕ) → k < length xs → get_or (map Some xs) k None ≡ slice_get xs k
    at k within = by_item (slice_get xs k) refl
      where
        by_item : (found : Option X) → slice_get xs k ≡ found → get_or (map Some xs) k None ≡ slice_get xs k
        by_item None is = absurd (none_within xs k within is)
        by_item (Some x) is = get_or-map Some xs k x None within ∙ ap Some (get_or_from_slice_get xs k x x is) ∙ sym is

module _ (release : Release) (rising : IsStrictlyIncreasing release.concepts) (set : List Pair → Bool) where
  -- all groups of the release
  abbrev all : List ConceptGroup
  all = all_groups release

  -- among the groups in `set`, as many have concept `n` as groups of concept `n` are in `set`
  pub set_counted : (n : ℕ) → n < length release.concepts
      → count_by (λ k. concept_in (slice_get all k) == get_or release.concepts n 0) (groups_where release set)
      ≡ count_by set (groups_of release (get_or release.concepts n 0))
  set_counted n within =
      let concept = get_or release.concepts n 0 in
      count_kept (λ k. some_group_in release set (slice_get all k)) (λ k. concept_in (slice_get all k) == concept)
      (range_with_len 0 (length all))
      ∙ count_numbers (λ at. some_group_in release set at && (concept_in at == concept)) all
      ∙ count_agree (λ group. set (pairs_of_group release group) && (group.concept == concept))
      (is_counted release (λ group. set (pairs_of_group release group)) concept) all
      (λ group there. swapped (set (pairs_of_group release group)) (group.concept == concept))
      ∙ own_counted release (λ group. set (pairs_of_group release group)) concept release.concepts
      (concepts_apart release.concepts rising)
      (Contains-get_or release.concepts n 0 within)
      ∙ sym (count_map set (pairs_of_group release) (groups_among release (concept ∷ [])))
      ∙ groups_count release set concept
    where
      swapped : (a b : Bool) → (a && b) ≡ (b && a)
      swapped true true = refl
      swapped true false = refl
      swapped false true = refl
      swapped false false = refl

-- ---- the concepts with as many groups as is asked
module _ (release : Release) (rising : IsStrictlyIncreasing release.concepts) where
  -- if `concepts` lists the concept of each group of `items`, the numbers whose count in it lies in `count` are the
  -- concepts whose number of groups in `items` lies in `count`
  pub owners_found : (count : Cardinality) (bound : ℕ) → bound ≡ length release.concepts
      → (items concepts found : List ℕ)
      → All (λ concept. concept < length release.concepts) concepts
      → map (λ concept. get_or release.concepts concept 0) concepts
      ≡ map (λ k. concept_in (slice_get (all_groups release) k)) items
      → found ≡ numbers_where bound (λ n. lies_in count (times n concepts))
      → found ≡ numbers_where (length release.concepts) (λ n. lies_in count (groups_owned release items n))
  owners_found count bound counted items concepts found below are found_is =
      found_is ∙ numbers_where-agree bound (λ n. lies_in count (times n concepts))
      (λ n. lies_in count (groups_owned release items n))
      (λ n within. ap (lies_in count) (often n (omega (arith, within, counted))))
      ∙ ap (λ m. numbers_where m (λ n. lies_in count (groups_owned release items n))) counted
    where
      often : (n : ℕ) → n < length release.concepts → times n concepts ≡ groups_owned release items n
      often n within =
          count_agree (λ concept. concept == n)
          (λ concept. get_or release.concepts concept 0 == get_or release.concepts n 0) concepts
          (λ concept there. sym (same_by_number release.concepts rising concept n
          (All-contains (λ c. c < length release.concepts) concepts concept below there) within))
          ∙ sym (count_map (λ id. id == get_or release.concepts n 0) (λ concept. get_or release.concepts concept 0)
          concepts)
          ∙ ap (count_by (λ id. id == get_or release.concepts n 0)) are
          ∙ count_map (λ id. id == get_or release.concepts n 0) (λ k. concept_in (slice_get (all_groups release) k))
          items

  -- if all groups of a concept are candidates, as many candidates in the set are of it as groups of the concept are in
  -- the set
  owned_counted : (set : List Pair → Bool) (may : ℕ → Bool) (n : ℕ) → n < length release.concepts
      → ((k : ℕ) → k < length (all_groups release)
      → concept_in (slice_get (all_groups release) k) ≡ get_or release.concepts n 0 → may k ≡ true)
      → groups_owned release (groups_within release may set) n
      ≡ count_by set (groups_of release (get_or release.concepts n 0))
  owned_counted set may n within own =
      let concept = get_or release.concepts n 0 in
      let there : ℕ → Bool = λ k. some_group_in release set (slice_get (all_groups release) k) in
      let its : ℕ → Bool = λ k. concept_in (slice_get (all_groups release) k) == concept in
      count_kept (λ k. may k && there k) its (range_with_len 0 (length (all_groups release)))
      ∙ count_agree (λ k. (may k && there k) && its k) (λ k. there k && its k)
      (range_with_len 0 (length (all_groups release)))
      (λ k inside. dropped (may k) (there k) (its k)
      (λ same. own k (in_range k inside) (eqb-true (concept_in (slice_get (all_groups release) k)) concept same)))
      ∙ sym (count_kept there its (range_with_len 0 (length (all_groups release))))
      ∙ set_counted release rising set n within
    where
      dropped : (a b c : Bool) → (c ≡ true → a ≡ true) → ((a && b) && c) ≡ (b && c)
      dropped true b c had = refl
      dropped false true true had = absurd (false≢true (had refl))
      dropped false true false had = refl
      dropped false false c had = refl

      in_range : (k : ℕ) → Contains (range_with_len 0 (length (all_groups release))) k → k < length (all_groups release)
      in_range k (at, below, is) =
          let long : at < length (all_groups release) =
          omega (arith, below, length-range_with_len 0 (length (all_groups release))) in
          omega (arith, long, sym is ∙ get_or-range_with_len 0 (length (all_groups release)) at k long)

  -- if `items` has all groups in `set`, the concepts whose number of groups in `items` lies in `count` are those that
  -- `has_groups` means for `set`
  pub groups_found : (count : Cardinality) (set : List Pair → Bool) (items found : List ℕ)
      → items ≡ groups_where release set
      → found ≡ numbers_where (length release.concepts) (λ n. lies_in count (groups_owned release items n))
      → found ≡ numbers_in release (has_groups release count set)
  groups_found count set items found items_are found_is =
      found_is
      ∙ (λ i. numbers_where (length release.concepts) (λ n. lies_in count (groups_owned release (items_are i) n)))
      ∙ numbers_where-agree (length release.concepts)
      (λ n. lies_in count (groups_owned release (groups_where release set) n))
      (λ n. has_groups release count set (get_or release.concepts n 0))
      (λ n within. ap (lies_in count) (set_counted release rising set n within))

  -- if `own` has all groups of the wanted concepts, and `items` those of `own` in `set`, then the wanted concepts whose
  -- number of groups in `items` lies in `count` are those that `has_groups` means for `set`
  pub group_plan_within : (count : Cardinality) (set : List Pair → Bool) (wanted own items some found : List ℕ)
      → HaveGroupsOf release wanted own
      → items ≡ groups_within release (has own) set
      → some ≡ numbers_where (length release.concepts) (λ n. lies_in count (groups_owned release items n))
      → found ≡ filter (has wanted) some
      → found ≡ numbers_within release (has wanted) (has_groups release count set)
  group_plan_within count set wanted own items some found have items_are some_is found_is =
      restricted_to (length release.concepts) (has wanted) (λ n. lies_in count (groups_owned release items n)) some
      found some_is found_is
      ∙ numbers_where-agree (length release.concepts)
      (λ n. has wanted n && lies_in count (groups_owned release items n))
      (λ n. has wanted n && has_groups release count set (get_or release.concepts n 0))
      (λ n within. of_wanted (has wanted n) _ _
      (λ is_wanted. ap (lies_in count) (ap (λ (groups : List ℕ). groups_owned release groups n) items_are
      ∙ owned_counted set (has own) n within (λ k inside same. have n k is_wanted within inside same))))
    where
      of_wanted : (a b c : Bool) → (a ≡ true → b ≡ c) → (a && b) ≡ (a && c)
      of_wanted true b c same = same refl
      of_wanted false b c same = refl

-- the concept that the reader returns for group `k` is the concept of that group
pub concept_told : (groups : List ConceptGroup) (k id : ℕ) → k < length groups
    → IfSome (slice_get groups k) (λ group. id ≡ group.concept) → id ≡ concept_in (slice_get groups k)
concept_told groups k id within told = by_case (slice_get groups k) refl told
  where
    by_case : (at : Option ConceptGroup) → slice_get groups k ≡ at → IfSome at (λ group. id ≡ group.concept)
        → id ≡ concept_in at
    by_case None at told = absurd (none_within groups k within at)
    by_case (Some group) at told = told
