-- The groups of a release: none stands twice, each number is not 0, and a row is in the group that it belongs to alone.
use Rattle.std.proofs.Common.{ℕ, ◌==◌, ◌≡◌, ◌≢◌, ◌<◌, ◌∙◌, not, List, length, get_or, map, Bool, true, false}
use Rattle.std.proofs.Common.{cond, refl, sym, ap, subst, arith}
use Rattle.std.specs.Prelude.{All, Contains}
use Rattle.std.specs.List.{filter}
use Rattle.std.specs.List.Sorted.{IsStrictlyIncreasing}
use Rattle.std.proofs.lemmas.Bool.{and_from, and_parts, eq-eqb, eqb-true, not-true}
use Rattle.std.proofs.lemmas.List.Elements.{All-append, All-contains, All-map, All-weaker, Contains-get_or}
use Rattle.std.proofs.lemmas.List.Elements.{filter_passes}
use Rattle.std.proofs.lemmas.List.Kept.{AllPairs-from_increasing}
use Rattle.std.proofs.lemmas.Map.Keys.{apart_from_distinct}
use Rattle.release_model.specs.Groups.{group_numbers, pairs_in}
use Rattle.release_model.specs.Pairs.{Pair, pair_eq, pair_of, rows_of}
use Rattle.release_model.specs.Release.{Attribute, Release}
use Rattle.number_lists.proofs.DistinctLemmas.{keeps_each_number_once}
use Rattle.release_model.proofs.PairLemmas.{keeps_each_pair_once, tells_same_pair}
use Rattle.number_lists.specs.RisingOrder.{rising}
use Rattle.number_lists.proofs.RisingOrderLemmas.{keeps_rising}
use Rattle.number_lists.proofs.PlaceLemmas.{place_of, place_of-get_or}
use Rattle.postings.specs.Groups.{ConceptGroup, GroupKey, all_groups, group_of, groups_among, has_key, is_in_group}
use Rattle.postings.specs.Groups.{key_of, keys_of}
use Rattle.postings.specs.Groups.{numbered, ungrouped}
use Rattle.number_lists.proofs.BlockLemmas.{All-flat_map, blocks_by_place}
use Rattle.postings.proofs.OnceLemmas.{AllPairs-append, AllPairs-blocks, AllPairs-map}
use Rattle.number_lists.proofs.ListLemmas.{IsOnce}

-- the group of a concept with a key
abbrev pub group_with : ℕ → GroupKey → ConceptGroup
group_with concept key = record { concept = concept; key = key }

-- all groups of a concept
abbrev pub groups_at : Release → ℕ → List ConceptGroup
groups_at release concept = map (group_with concept) (keys_of release concept)

-- ---- no repeats

-- whether a key is a number
is_numbered : GroupKey → Bool
is_numbered (numbered number) = true
is_numbered (ungrouped pair) = false

-- `is_numbered` accepts each key that `numbered` makes
all_numbered : (numbers : List ℕ) (key : GroupKey) → Contains (map numbered numbers) key → is_numbered key ≡ true
unfolding is_numbered
all_numbered numbers key there =
    All-contains (λ key. is_numbered key ≡ true) (map numbered numbers) key
    (All-map (λ key. is_numbered key ≡ true) numbered numbers (λ k d below. refl)) there

-- `is_numbered` refuses each key that `ungrouped` makes
none_numbered : (pairs : List Pair) → All (λ key. is_numbered key ≡ false) (map ungrouped pairs)
unfolding is_numbered
none_numbered pairs = All-map (λ key. is_numbered key ≡ false) ungrouped pairs (λ k d below. refl)

-- the list of the group keys of a concept has no repeats
pub keys_once : (release : Release) (concept : ℕ) → IsOnce (keys_of release concept)
keys_once release concept =
    AllPairs-append (λ x y. x ≢ y) (map numbered (rising (group_numbers release concept)))
    (map ungrouped (pairs_in release concept 0))
    (AllPairs-map (λ x y. x < y) (λ x y. x ≢ y) numbered (λ x y less same. let is : x ≡ y = cc in absurd (omega arith))
    (rising (group_numbers release concept))
    (AllPairs-from_increasing (rising (group_numbers release concept))
    (keeps_rising (group_numbers release concept)).0))
    (AllPairs-map (λ x y. pair_eq x y ≡ false) (λ x y. x ≢ y) ungrouped
    (λ x y apart same. let is : x ≡ y = cc in absurd (cc (apart, (tells_same_pair x y).1 is)))
    (pairs_in release concept 0)
    (λ i j d less below. apart_from_distinct pair_eq (pairs_in release concept 0) i j d
    (keeps_each_pair_once (map pair_of (filter (λ row. row.group == 0) (rows_of release concept)))).0 less below))
    (λ x there. All-weaker (λ y. is_numbered y ≡ false) (λ y. x ≢ y)
    (λ y is same. absurd (cc (all_numbered (rising (group_numbers release concept)) x there, is, ap is_numbered same)))
    (map ungrouped (pairs_in release concept 0)) (none_numbered (pairs_in release concept 0)))

-- if the concepts of a release rise strictly, its list of all groups has no repeats
pub groups_once : (release : Release) → IsStrictlyIncreasing release.concepts → IsOnce (all_groups release)
groups_once release increases =
    subst IsOnce (sym (blocks_by_place (groups_at release) release.concepts 0))
    (AllPairs-blocks (λ x y. x ≢ y) (λ k. groups_at release (id k)) 0 (length release.concepts)
    (λ k below. AllPairs-map (λ x y. x ≢ y) (λ x y. x ≢ y) (group_with (id k))
    (λ x y apart same. apart (ap (λ (group : ConceptGroup). group.key) same)) (keys_of release (id k))
    (keys_once release (id k)))
    (λ k l less below x there. All-weaker (λ (y : ConceptGroup). y.concept ≡ id l) (λ y. x ≢ y)
    (λ y is same. absurd (distinct_places k l less (omega arith)
    (sym (of_concept k x there) ∙ ap (λ (group : ConceptGroup). group.concept) same ∙ is)))
    (groups_at release (id l)) (all_of l)))
  where
    id : ℕ → ℕ
    id k = get_or release.concepts k 0

    all_of : (k : ℕ) → All (λ (group : ConceptGroup). group.concept ≡ id k) (groups_at release (id k))
    all_of k = All-map (λ (group : ConceptGroup). group.concept ≡ id k) (group_with (id k)) (keys_of release (id k))
        (λ j d below. refl)

    of_concept : (k : ℕ) (x : ConceptGroup) → Contains (groups_at release (id k)) x → x.concept ≡ id k
    of_concept k x there = All-contains (λ (group : ConceptGroup). group.concept ≡ id k) (groups_at release (id k)) x
        (all_of k) there

    distinct_places : (k l : ℕ) → k < l → l < length release.concepts → id k ≢ id l
    distinct_places k l less below same =
        let is : k ≡ l = sym (place_of-get_or release.concepts increases k (omega arith))
        ∙ ap (place_of release.concepts) same
        ∙ place_of-get_or release.concepts increases l below in
        omega arith

-- ---- numbers that are not 0
-- the number of a key, if it has one, is not 0
abbrev pub IsTold : GroupKey → Type 0
IsTold (numbered number) = (number == 0) ≡ false
IsTold (ungrouped pair) = Unit {0}

-- no group key of a concept has the group number 0
pub keys_told : (release : Release) (concept : ℕ) → All IsTold (keys_of release concept)
keys_told release concept =
    All-append IsTold (map numbered (rising (group_numbers release concept)))
    (map ungrouped (pairs_in release concept 0))
    (All-map IsTold numbered (rising (group_numbers release concept))
    (λ k d below. number (get_or (rising (group_numbers release concept)) k d)
    (Contains-get_or (rising (group_numbers release concept)) k d below)))
    (All-map IsTold ungrouped (pairs_in release concept 0) (λ k d below. tt))
  where
    numbers : List ℕ
    numbers = filter (λ group. not (group == 0)) (map (λ (row : Attribute). row.group) (rows_of release concept))

    number : (n : ℕ) → Contains (rising (group_numbers release concept)) n → (n == 0) ≡ false
    number n there =
        let among : Contains numbers n = ((keeps_each_number_once numbers).1 n).0
        (((keeps_rising (group_numbers release concept)).1 n).0 there) in
        not-true (n == 0) (All-contains (λ group. not (group == 0) ≡ true) numbers n
        (filter_passes (λ group. not (group == 0)) (map (λ (row : Attribute). row.group) (rows_of release concept)))
        among)

-- no group of `concepts` has the group number 0
pub groups_told_apart : (release : Release) (concepts : List ℕ)
    → All (λ (group : ConceptGroup). IsTold group.key) (groups_among release concepts)
groups_told_apart release concepts =
    All-flat_map (λ (group : ConceptGroup). IsTold group.key) (groups_at release) concepts
    (λ concept there. All-map (λ (group : ConceptGroup). IsTold group.key) (group_with concept)
    (keys_of release concept)
    (keys_told release concept))

-- ---- the rows of a group
-- a row is in the group of the row
pub in_own_group : (row : Attribute) → is_in_group (group_of row) row ≡ true
in_own_group row = and_from (row.source == row.source) (has_key (key_of row) row) (eq-eqb row.source row.source refl)
    (by (row.group == 0) refl)
  where
    by : (b : Bool) → (row.group == 0) ≡ b → has_key (cond b (ungrouped (pair_of row)) (numbered row.group)) row ≡ true
    by true is = and_from (row.group == 0) (pair_eq (pair_of row) (pair_of row)) is
        ((tells_same_pair (pair_of row) (pair_of row)).1 refl)
    by false is = eq-eqb row.group row.group refl

-- a group (with a number other than 0, or with a pair) that contains a row is that row's own group
pub in_one_group : (group : ConceptGroup) (row : Attribute) → IsTold group.key → is_in_group group row ≡ true
    → group ≡ group_of row
in_one_group group row told passes =
    let parts = and_parts (row.source == group.concept) (has_key group.key row) passes in
    let concept : group.concept ≡ row.source = sym (eqb-true row.source group.concept parts.0) in
    let key : group.key ≡ key_of row = one_key group.key told parts.1 in
    λ i. record { concept = concept i; key = key i }
  where
    one_key : (key : GroupKey) → IsTold key → has_key key row ≡ true → key ≡ key_of row
    one_key (numbered number) told passes =
        let same : row.group ≡ number = eqb-true row.group number passes in
        λ i. cond (sym (ap (λ n. n == 0) same ∙ told) i) (ungrouped (pair_of row)) (numbered (sym same i))
    one_key (ungrouped pair) told passes =
        let parts = and_parts (row.group == 0) (pair_eq (pair_of row) pair) passes in
        let same : pair_of row ≡ pair = (tells_same_pair (pair_of row) pair).0 parts.1 in
        λ i. cond (sym parts.0 i) (ungrouped (sym same i)) (numbered row.group)
