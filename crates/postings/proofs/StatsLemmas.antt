-- How much there is in a release, by the lists of its indexes.
use Rattle.std.proofs.Common.{ℕ, ◌∷◌, [], ◌≡◌, ◌∙◌, Bool, true, false, cond, List, length, get_or, map, refl, sym, ap}
use Rattle.std.proofs.Common.{subst, append-nil, arith, zero-add}
use Rattle.std.specs.List.{concat, count_by, filter, flat_map, range_with_len, sum_by}
use Rattle.std.specs.List.Sorted.{IsStrictlyIncreasing}
use Rattle.std.proofs.lemmas.List.{get_or_default, length-map, same_lists}
use Rattle.std.proofs.lemmas.List.Concat.{concat_is, length-flat_map}
use Rattle.std.proofs.lemmas.List.Folds.{flat_map-map}
use Rattle.std.proofs.lemmas.List.FromFn.{get_or-map-range_with_len, length-map-range_with_len}
use Rattle.std.proofs.lemmas.List.Recursion.{is_count_by}
use Rattle.release_model.specs.Groups.{groups_of}
use Rattle.release_model.specs.Release.{Release}
use Rattle.hierarchy.specs.Hierarchy.{reaches}
use Rattle.ancestor_index.specs.HierarchyLists.{Hierarchy, hierarchy_of, is_child, lists_where}
use Rattle.ancestor_index.proofs.ClosureLemmas.{length-where}
use Rattle.postings.specs.Groups.{ConceptGroup, all_groups, groups_among, groups_in, keys_of, pairs_of_group}
use Rattle.postings.specs.Groups.{rows_alone}
use Rattle.postings.specs.Indexed.{HasListsFor, Indexed, IsIndexOf}
use Rattle.postings.specs.Stats.{pairs_where, stats_in, stats_of}
use Rattle.postings.proofs.CountLemmas.{all_groups_again, groups_count}

-- ---- lists by numbers
abbrev pair_with : ℕ → ℕ → ℕ × ℕ
pair_with concept other = (concept, other)

-- a list is its items by their places
items_by_place : (xs : List ℕ) → xs ≡ map (λ place. get_or xs place 0) (range_with_len 0 (length xs))
items_by_place xs =
    same_lists xs (map (λ place. get_or xs place 0) (range_with_len 0 (length xs)))
    (sym (length-map-range_with_len (λ place. get_or xs place 0) 0 (length xs)))
    (λ k d below. get_or_default xs k d 0 below
    ∙ sym (get_or-map-range_with_len (λ place. get_or xs place 0) 0 (length xs) k k d below (zero-add k)))

kept_of_map : (test : ℕ → Bool) (give : ℕ → ℕ) (xs : List ℕ)
    → filter test (map give xs) ≡ map give (filter (λ x. test (give x)) xs)
kept_of_map test give [] = refl
kept_of_map test give (x ∷ xs) = elim (test (give x)) as (λ (b : Bool).
    cond b (give x ∷ filter test (map give xs)) (filter test (map give xs))
    ≡ map give (cond b (x ∷ filter (λ x. test (give x)) xs) (filter (λ x. test (give x)) xs)))
    [ true ↦ ap (λ (rest : List ℕ). give x ∷ rest) (kept_of_map test give xs) | false ↦ kept_of_map test give xs ]

module _ (concepts : List ℕ) (test : ℕ → ℕ → Bool) where
  -- the list of a concept has as many items as there are pairs that begin with the concept and pass the test
  length-list : (concept : ℕ)
      → length (filter (λ other. test (get_or concepts concept 0) (get_or concepts other 0))
      (range_with_len 0 (length concepts)))
      ≡ length (map (pair_with (get_or concepts concept 0)) (filter (test (get_or concepts concept 0)) concepts))
  length-list concept =
      let give : ℕ → ℕ = λ place. get_or concepts place 0 in
      let all = range_with_len 0 (length concepts) in
      sym (length-map (filter (λ other. test (give concept) (give other)) all) give)
      ∙ ap (λ (xs : List ℕ). length xs) (sym (kept_of_map (test (give concept)) give all))
      ∙ ap (λ (xs : List ℕ). length (filter (test (give concept)) xs)) (sym (items_by_place concepts))
      ∙ sym (length-map (filter (test (give concept)) concepts) (pair_with (give concept)))

  -- lists that have, for each concept, the concepts that pass a test with it have together as many items as there are
  -- pairs that pass
  pub length-pairs : length
      (concat (lists_where (length concepts) (λ concept other. test (get_or concepts concept 0)
      (get_or concepts other 0))))
      ≡ length (pairs_where concepts test)
  length-pairs =
      let give : ℕ → ℕ = λ place. get_or concepts place 0 in
      let all = range_with_len 0 (length concepts) in
      let list : ℕ → List ℕ = λ concept. filter (λ other. test (give concept) (give other)) all in
      let pairs : ℕ → List (ℕ × ℕ) = λ concept. map (pair_with concept) (filter (test concept) concepts) in
      ap (λ (xs : List ℕ). length xs) (concat_is (map list all) ∙ flat_map-map (λ xs. xs) list all)
      ∙ length-flat_map list all
      ∙ (λ i. sum_by (λ concept. length-list concept i) all)
      ∙ sym (length-flat_map (λ concept. pairs (give concept)) all)
      ∙ ap (λ (xs : List (ℕ × ℕ)). length xs) (sym (flat_map-map pairs give all))
      ∙ ap (λ (xs : List ℕ). length (flat_map pairs xs)) (sym (items_by_place concepts))

-- ---- groups
all_pass : {X : Type 0} (xs : List X) → count_by (λ x. true) xs ≡ length xs
all_pass xs = sym (is_count_by (λ xs. length xs) (λ x. true) refl (λ x xs. omega arith) xs)

-- a concept has as many groups as keys of groups
length-keys : (release : Release) (concept : ℕ)
    → length (groups_among release (concept ∷ [])) ≡ length (groups_of release concept)
length-keys release concept =
    sym (length-map (groups_among release (concept ∷ [])) (pairs_of_group release))
    ∙ sym (all_pass (map (pairs_of_group release) (groups_among release (concept ∷ []))))
    ∙ groups_count release (λ pairs. true) concept
    ∙ all_pass (groups_of release concept)

-- a release has as many numbered groups as its concepts have by `groups_of`
pub length-groups : (release : Release)
    → length (all_groups release) ≡ length (flat_map (groups_of release) release.concepts)
length-groups release =
    let groups : ℕ → List ConceptGroup =
    λ concept. map (λ key. record { concept = concept; key = key }) (keys_of release concept) in
    length-flat_map groups release.concepts
    ∙ (λ i. sum_by (λ concept.
    (sym (ap (λ (xs : List ConceptGroup). length xs) (append-nil (groups concept))) ∙ length-keys release concept) i)
    release.concepts)
    ∙ sym (length-flat_map (groups_of release) release.concepts)

-- ---- the whole
-- if `indexed` is what the indexes of `release` hold, its counts are those of the release
pub stats_told : (indexed : Indexed) (release : Release) → IsStrictlyIncreasing release.concepts
    → IsIndexOf indexed release
    → stats_in indexed ≡ stats_of release
stats_told indexed release rises is =
    let groups : length (groups_in indexed) ≡ length (flat_map (groups_of release) release.concepts) =
    (λ i. length (all_groups (rows_alone (is.concepts i) (is.rows i))))
    ∙ ap (λ (xs : List ConceptGroup). length xs) (all_groups_again release rises)
    ∙ length-groups release in
    let ancestors : length (concat indexed.hierarchy.ancestors)
    ≡ length (pairs_where release.concepts (reaches release.isa)) =
    ap (λ (hierarchy : Hierarchy). length (concat hierarchy.ancestors)) is.hierarchy
    ∙ length-pairs release.concepts (reaches release.isa) in
    let links : length (concat indexed.hierarchy.parents)
    ≡ length (pairs_where release.concepts (is_child release.isa)) =
    ap (λ (hierarchy : Hierarchy). length (concat hierarchy.parents)) is.hierarchy
    ∙ length-pairs release.concepts (is_child release.isa) in
    let members : length (concat indexed.members) ≡ length (pairs_where release.concepts (is_child release.members)) =
    ap (λ (lists : List (List ℕ)). length (concat lists)) is.members
    ∙ length-pairs release.concepts (is_child release.members) in
    (λ i. record {
      n = length (is.concepts i);
      a = length (is.rows i);
      g = groups i;
      r = ancestors i;
      l = links i;
      m = members i;
    })

-- ---- each concept has its lists in the hierarchy
-- the hierarchy of a release has each kind of list for each concept
pub lists_for : (concepts : List ℕ) (release : Release) (hierarchy : Hierarchy) → concepts ≡ release.concepts
    → hierarchy ≡ hierarchy_of release
    → HasListsFor (length concepts) hierarchy
lists_for concepts release hierarchy same is =
    subst (λ (hierarchy : Hierarchy). HasListsFor (length concepts) hierarchy) (sym is) (record {
      ancestors = listed (λ a b. reaches release.isa (id a) (id b));
      descendants = listed (λ a b. reaches release.isa (id b) (id a));
      parents = listed (λ a b. is_child release.isa (id a) (id b));
      children = listed (λ a b. is_child release.isa (id b) (id a));
    })
  where
    id : ℕ → ℕ
    id n = get_or release.concepts n 0

    listed : (test : ℕ → ℕ → Bool) → length (lists_where (length release.concepts) test) ≡ length concepts
    listed test = length-where (length release.concepts) test ∙ sym (ap (λ (ids : List ℕ). length ids) same)
