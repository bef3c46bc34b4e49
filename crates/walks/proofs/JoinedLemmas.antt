-- How the lists of some concepts are joined.
use Rattle.std.proofs.Common.{ℕ, ◌≡◌, ◌<◌, ◌≤◌, ◌+◌, ◌++◌, ◌∷◌, [], ◌∙◌, ⊎_elim, Bool, true, false, ◌&&◌, ◌||◌, cond}
use Rattle.std.proofs.Common.{List, length, get_or, take, refl, sym, ap, subst, arith, append-nil, append_assoc}
use Rattle.std.specs.Prelude.{filter}
use Rattle.std.specs.Bool.{beq}
use Rattle.std.specs.List.{list_any}
use Rattle.std.proofs.lemmas.Bool.{cases_lt, false≢true, le-ltb, lt-ltb}
use Rattle.std.proofs.lemmas.List.{get_or_past}
use Rattle.hierarchy.specs.Hierarchy.{one_row, reaches}
use Rattle.release_model.specs.Release.{Release}
use Rattle.hierarchy.proofs.HierarchyLemmas.{chain_from_test, chain_of_two, test_from_chain}
use Rattle.number_lists.proofs.ListLemmas.{passing_item, some_item_passes}
use Rattle.idset.specs.Sets.{all_items}
use Rattle.number_lists.specs.Members.{has}
use Rattle.number_lists.specs.Rising.{IsRisingBelow, numbers_where}
use Rattle.idset.specs.Words.{is_set}
use Rattle.number_lists.proofs.WhereLemmas.{has-numbers_where_any, numbers_where-agree, numbers_where-none, there_where}
use Rattle.number_lists.proofs.WhereLemmas.{where_there}
use Rattle.idset.proofs.Places.{filter_step}
use Rattle.number_lists.proofs.RisingLemmas.{has-past_bound, numbers_where-rising, rising_is_numbers_where}
use Rattle.number_lists.proofs.RisingLemmas.{rising_is_where}
use Rattle.number_lists.specs.KeyedLists.{list_of}
use Rattle.ancestor_index.specs.HierarchyLists.{Hierarchy, hierarchy_of, is_child, lists_where}
use Rattle.number_lists.proofs.MemberLemmas.{contains_had, had_contained}
use Rattle.ancestor_index.proofs.ClosureLemmas.{length-where, list_of-where, row_there}
use Rattle.std.proofs.lemmas.List.Folds.{list_any-append}
use Rattle.std.proofs.Math.Bool.{or-false}
use Rattle.walks.specs.inside.Joined.{AreJoined, is_long, is_whole, direct_of, with_length}
use Rattle.walks.specs.Related.{IsOver, joined}
use Rattle.walks.specs.Families.{lists_of}
use Rattle.walks.specs.declared.family.Family.{Family}
use Rattle.walks.specs.declared.family.Family.TheVariants as family

-- ---- the lists of a hierarchy
-- whether the list of concept a has concept b, as the is-a rows say
abbrev pub stands : Release → Family → ℕ → ℕ → Bool
stands release family.Ancestors a b = reaches release.isa (get_or release.concepts a 0) (get_or release.concepts b 0)
stands release family.Descendants a b = reaches release.isa (get_or release.concepts b 0) (get_or release.concepts a 0)
stands release family.Parents a b = is_child release.isa (get_or release.concepts a 0) (get_or release.concepts b 0)
stands release family.Children a b = is_child release.isa (get_or release.concepts b 0) (get_or release.concepts a 0)

-- the list of a concept in the hierarchy of a release has the numbers that it stands to
lists_are : (release : Release) (f : Family)
    → lists_of (hierarchy_of release) f ≡ lists_where (length release.concepts) (stands release f)
lists_are release family.Ancestors = refl
lists_are release family.Descendants = refl
lists_are release family.Parents = refl
lists_are release family.Children = refl

-- in a hierarchy of `count` concepts, each list of a family has the concepts that are related by the family to the
-- list's concept
pub over_lists : (count : ℕ) (hierarchy : Hierarchy) (over : IsOver count hierarchy) (f : Family)
    → lists_of hierarchy f ≡ lists_where count (stands over.release f)
over_lists count hierarchy over f =
    ap (λ (h : Hierarchy). lists_of h f) over.hierarchy_is ∙ lists_are over.release f
    ∙ ap (λ (n : ℕ). lists_where n (stands over.release f)) (sym over.count_is)

-- a family has one list for each of the `count` concepts
pub over_length : (count : ℕ) (hierarchy : Hierarchy) → IsOver count hierarchy → (f : Family)
    → length (lists_of hierarchy f) ≡ count
over_length count hierarchy over f = ap (λ (lists : List (List ℕ)). length lists) (over_lists count hierarchy over f)
    ∙ length-where count (stands over.release f)

-- the list of `concept` has the numbers below `count` to which `concept` is related by the family
pub over_list : (count : ℕ) (hierarchy : Hierarchy) (over : IsOver count hierarchy) (f : Family) (concept : ℕ)
    → concept < count
    → list_of (lists_of hierarchy f) concept ≡ numbers_where count (stands over.release f concept)
over_list count hierarchy over f concept below =
    ap (λ (lists : List (List ℕ)). list_of lists concept) (over_lists count hierarchy over f)
    ∙ list_of-where count (stands over.release f) concept below

-- the list of `concept` rises and is below `count`
pub over_rising : (count : ℕ) (hierarchy : Hierarchy) → IsOver count hierarchy → (f : Family) (concept : ℕ)
    → concept < count → IsRisingBelow count (list_of (lists_of hierarchy f) concept)
over_rising count hierarchy over f concept below =
    subst (λ (xs : List ℕ). IsRisingBelow count xs) (sym (over_list count hierarchy over f concept below))
    (numbers_where-rising count (stands over.release f concept))

-- if the list of `concept` contains `n`, then `n` is below `count`, and `concept` is related to it by the family
pub listed_stands : (count : ℕ) (hierarchy : Hierarchy) (over : IsOver count hierarchy) (f : Family) (concept n : ℕ)
    → concept < count
    → has (list_of (lists_of hierarchy f) concept) n ≡ true → (n < count) × (stands over.release f concept n ≡ true)
listed_stands count hierarchy over f concept n below told =
    there_where count (stands over.release f concept) n
    (contains_had (numbers_where count (stands over.release f concept)) n
    (ap (λ (xs : List ℕ). has xs n) (sym (over_list count hierarchy over f concept below)) ∙ told))

-- if `concept` is related to `n` by the family, its list contains `n`
pub stands_listed : (count : ℕ) (hierarchy : Hierarchy) (over : IsOver count hierarchy) (f : Family) (concept n : ℕ)
    → concept < count → n < count
    → stands over.release f concept n ≡ true → has (list_of (lists_of hierarchy f) concept) n ≡ true
stands_listed count hierarchy over f concept n below within holds =
    ap (λ (xs : List ℕ). has xs n) (over_list count hierarchy over f concept below)
    ∙ had_contained (numbers_where count (stands over.release f concept)) n
    (where_there count (stands over.release f concept) n within holds)

-- in a whole family, a concept that stands to b stands to all that b stands to
stands_on : (release : Release) (f : Family) → is_whole f ≡ true → (a b c : ℕ) → stands release f a b ≡ true
    → stands release f b c ≡ true → stands release f a c ≡ true
stands_on release family.Ancestors whole a b c one other =
    let id : ℕ → ℕ = λ n. get_or release.concepts n 0 in
    test_from_chain release.isa
    (chain_of_two (chain_from_test release.isa (id a) (id b) one) (chain_from_test release.isa (id b) (id c) other))
stands_on release family.Descendants whole a b c one other =
    let id : ℕ → ℕ = λ n. get_or release.concepts n 0 in
    test_from_chain release.isa
    (chain_of_two (chain_from_test release.isa (id c) (id b) other) (chain_from_test release.isa (id b) (id a) one))
stands_on release family.Parents whole a b c one other = absurd (false≢true whole)
stands_on release family.Children whole a b c one other = absurd (false≢true whole)

-- for ancestors and descendants: if the list of `a` contains `b`, it contains everything that the list of `b` contains
pub over_whole : (count : ℕ) (hierarchy : Hierarchy) → IsOver count hierarchy → (f : Family) → is_whole f ≡ true
    → (a b n : ℕ) → a < count → b < count
    → has (list_of (lists_of hierarchy f) a) b ≡ true → has (list_of (lists_of hierarchy f) b) n ≡ true
    → has (list_of (lists_of hierarchy f) a) n ≡ true
over_whole count hierarchy over f whole a b n a_below b_below one other =
    let first = listed_stands count hierarchy over f a b a_below one in
    let second = listed_stands count hierarchy over f b n b_below other in
    stands_listed count hierarchy over f a n a_below second.0 (stands_on over.release f whole a b n first.1 second.1)

-- a concept that is related to another by one is-a row in a family's direction is related to it by the family
pub direct_stands : (release : Release) (f : Family) (a b : ℕ) → stands release (direct_of f) a b ≡ true
    → stands release f a b ≡ true
direct_stands release family.Ancestors a b direct =
    test_from_chain release.isa
    (one_row (row_there release.isa (get_or release.concepts a 0) (get_or release.concepts b 0) direct))
direct_stands release family.Descendants a b direct =
    test_from_chain release.isa
    (one_row (row_there release.isa (get_or release.concepts b 0) (get_or release.concepts a 0) direct))
direct_stands release family.Parents a b direct = direct
direct_stands release family.Children a b direct = direct

-- if the direct list of `concept` (parents or children) contains a member of `set`, so does its list in the family
pub over_direct : (count : ℕ) (hierarchy : Hierarchy) → IsOver count hierarchy → (f : Family) (concept : ℕ)
    → concept < count → (set : ℕ → Bool)
    → list_any set (list_of (lists_of hierarchy (direct_of f)) concept) ≡ true
    → list_any set (list_of (lists_of hierarchy f) concept) ≡ true
over_direct count hierarchy over f concept below set told =
    let found = passing_item set (list_of (lists_of hierarchy (direct_of f)) concept) told in
    let at = listed_stands count hierarchy over (direct_of f) concept found.0 below
    (had_contained (list_of (lists_of hierarchy (direct_of f)) concept) found.0 found.1) in
    some_item_passes set (list_of (lists_of hierarchy f) concept) found.0
    (contains_had (list_of (lists_of hierarchy f) concept) found.0
    (stands_listed count hierarchy over f concept found.0 below at.0
    (direct_stands over.release f concept found.0 at.1)))
    found.2

-- ---- joining
-- a number is in the lists of `before` and `concept` exactly if it is in a list of `before` or in the list of `concept`
any_more : (lists : List (List ℕ)) (before : List ℕ) (concept n : ℕ)
    → list_any (λ c. has (list_of lists c) n) (before ++ concept ∷ [])
    ≡ (list_any (λ c. has (list_of lists c) n) before || has (list_of lists concept) n)
any_more lists before concept n =
    list_any-append (λ c. has (list_of lists c) n) before (concept ∷ [])
    ∙ ap (λ (b : Bool). list_any (λ c. has (list_of lists c) n) before || b) (or-false (has (list_of lists concept) n))

-- the union of two rising lists contains `n` exactly if one of them does
pub has_all : (count : ℕ) (numbers list next : List ℕ) → IsRisingBelow count numbers → IsRisingBelow count list
    → next ≡ all_items count numbers list
    → (n : ℕ) → has next n ≡ (has numbers n || has list n)
has_all count numbers list next rises list_rises next_is n =
    ap (λ (xs : List ℕ). has xs n) next_is
    ∙ has-numbers_where_any count (λ m. has numbers m || has list m) n
    ∙ ⊎_elim
    (λ (within : n < count) i. lt-ltb n count within i && (has numbers n || has list n))
    (λ (past : count ≤ n).
    let one : has numbers n ≡ false = has-past_bound 0 count numbers n rises past in
    let other : has list n ≡ false = has-past_bound 0 count list n list_rises past in
    (λ i. le-ltb n count past i && (has numbers n || has list n)) ∙ (λ i. sym one i || sym other i))
    (cases_lt n count)

-- if `numbers` is the union of the lists of `before`, its union with the list of `concept` is that of the lists of
-- `before` and `concept`
pub join_list : (lists : List (List ℕ)) (before numbers list next : List ℕ) (count concept : ℕ)
    → IsRisingBelow count numbers → IsRisingBelow count list
    → list ≡ list_of lists concept → next ≡ all_items count numbers list → AreJoined lists before numbers
    → AreJoined lists (before ++ concept ∷ []) next
join_list lists before numbers list next count concept rises list_rises is next_is joined n =
    has_all count numbers list next rises list_rises next_is n ∙ (λ i. joined n i || has (is i) n)
    ∙ sym (any_more lists before concept n)

-- for ancestors and descendants: if a union of lists contains `concept`, it already contains the list of `concept`
pub join_skipped : (count : ℕ) (hierarchy : Hierarchy) → IsOver count hierarchy → (f : Family) → is_whole f ≡ true
    → (before numbers : List ℕ) (concept : ℕ) → concept < count
    → has numbers concept ≡ true → AreJoined (lists_of hierarchy f) before numbers
    → AreJoined (lists_of hierarchy f) (before ++ concept ∷ []) numbers
join_skipped count hierarchy over f whole before numbers concept below there joined n =
    joined n ∙ sym (absorbed (list_any (λ c. has (list_of lists c) n) before)
    (has (list_of lists concept) n) brings) ∙ sym (any_more lists before concept n)
  where
    lists : List (List ℕ)
    lists = lists_of hierarchy f

    absorbed : (a b : Bool) → (b ≡ true → a ≡ true) → (a || b) ≡ a
    absorbed true b from = refl
    absorbed false true from = sym (from refl)
    absorbed false false from = refl

    brings : has (list_of lists concept) n ≡ true → list_any (λ c. has (list_of lists c) n) before ≡ true
    brings told =
        let found = passing_item (λ c. has (list_of lists c) concept) before (sym (joined concept) ∙ there) in
        some_item_passes (λ c. has (list_of lists c) n) before found.0 found.1
        (⊎_elim
        (λ (within : found.0 < count). over_whole count hierarchy over f whole found.0 concept n within below found.2
        told)
        (λ (past : count ≤ found.0).
        let nothing : list_of lists found.0 ≡ [] =
        get_or_past lists found.0 [] (omega (arith, past, over_length count hierarchy over f)) in
        absurd (false≢true (ap (λ (xs : List ℕ). has xs concept) (sym nothing) ∙ found.2)))
        (cases_lt found.0 count))

-- if the list of concept `k` has the chosen length, choosing from the first `k + 1` concepts adds it to those chosen
-- from the first `k`
pub with_length_more : (lists : List (List ℕ)) (long : Bool) (concepts before : List ℕ) (k : ℕ) → k < length concepts
    → beq (is_long (list_of lists (get_or concepts k 0))) long ≡ true
    → before ++ with_length lists long (take (k + 1) concepts) ≡ (before ++ with_length lists long (take k concepts))
    ++ get_or concepts k 0 ∷ []
with_length_more lists long concepts before k within chosen =
    let test : ℕ → Bool = λ concept. beq (is_long (list_of lists concept)) long in
    ap (λ (xs : List ℕ). before ++ xs) (sym (filter_step test concepts (filter test (take k concepts))
    (filter test (take k concepts) ++ get_or concepts k 0 ∷ []) k true within refl (sym chosen) refl))
    ∙ sym (append_assoc before (filter test (take k concepts)) (get_or concepts k 0 ∷ []))

-- if the list of concept `k` has the other length, choosing from the first `k + 1` concepts gives the same as from the
-- first `k`
pub with_length_same : (lists : List (List ℕ)) (long : Bool) (concepts : List ℕ) (k : ℕ) → k < length concepts
    → beq (is_long (list_of lists (get_or concepts k 0))) long ≡ false
    → with_length lists long (take (k + 1) concepts) ≡ with_length lists long (take k concepts)
with_length_same lists long concepts k within passed =
    let test : ℕ → Bool = λ concept. beq (is_long (list_of lists concept)) long in
    sym (filter_step test concepts (filter test (take k concepts))
    (filter test (take k concepts)) k false within refl (sym passed) (sym (append-nil (filter test (take k concepts)))))

-- an item passes exactly if a long one or a short one passes
any_split : {X : Type 0} (test : X → Bool) (long : X → Bool) (xs : List X)
    → list_any test (filter (λ x. beq (long x) true) xs ++ filter (λ x. beq (long x) false) xs) ≡ list_any test xs
any_split test long [] = refl
any_split {X = X} test long (x ∷ xs) =
    list_any-append test (filter (λ y. beq (long y) true) (x ∷ xs)) (filter (λ y. beq (long y) false) (x ∷ xs))
    ∙ by_case (long x)
    ∙ ap (λ (b : Bool). test x || b) (sym (list_any-append test longs shorts) ∙ any_split test long xs)
  where
    longs : List X
    longs = filter (λ y. beq (long y) true) xs

    shorts : List X
    shorts = filter (λ y. beq (long y) false) xs

    by_case : (b : Bool) → (list_any test (cond (beq b true) (x ∷ longs) longs)
        || list_any test (cond (beq b false) (x ∷ shorts) shorts))
        ≡ (test x || (list_any test longs || list_any test shorts))
    by_case true = left (test x) (list_any test longs) (list_any test shorts)
      where
        left : (a b c : Bool) → ((a || b) || c) ≡ (a || (b || c))
        left true b c = refl
        left false b c = refl
    by_case false = right (test x) (list_any test longs) (list_any test shorts)
      where
        right : (a b c : Bool) → (b || (a || c)) ≡ (a || (b || c))
        right true true c = refl
        right true false c = refl
        right false b c = refl

-- a union of the long lists and the short lists of `concepts` is the union of all their lists
pub both_joined : (lists : List (List ℕ)) (concepts numbers : List ℕ)
    → AreJoined lists (with_length lists true concepts ++ with_length lists false concepts) numbers
    → AreJoined lists concepts numbers
both_joined lists concepts numbers joined n = joined n
    ∙ any_split (λ concept. has (list_of lists concept) n) (λ concept. is_long (list_of lists concept)) concepts

-- rising numbers that are the union of the lists of `concepts` are `joined` of these
pub all_joined : (count : ℕ) (lists : List (List ℕ)) (concepts numbers : List ℕ) → IsRisingBelow count numbers
    → AreJoined lists concepts numbers
    → numbers ≡ joined count lists concepts
all_joined count lists concepts numbers rises joined =
    rising_is_where count numbers (λ n. list_any (λ concept. has (list_of lists concept) n) concepts) rises
    (λ n within. joined n)

-- ---- one list alone
-- the numbers below `count` in the list of a single concept are its joined list
one_joined : (count : ℕ) (lists : List (List ℕ)) (concept : ℕ) → numbers_where count (has (list_of lists concept))
    ≡ joined count lists (concept ∷ [])
one_joined count lists concept =
    numbers_where-agree count (has (list_of lists concept))
    (λ n. list_any (λ c. has (list_of lists c) n) (concept ∷ []))
    (λ n within. sym (or-false (has (list_of lists concept) n)))

-- for a single concept, `joined` is the concept's list
pub list_joined : (count : ℕ) (lists : List (List ℕ)) (concept : ℕ) (list : List ℕ) → IsRisingBelow count list
    → list ≡ list_of lists concept → list ≡ joined count lists (concept ∷ [])
list_joined count lists concept list rises is =
    rising_is_numbers_where count list rises ∙ ap (λ (xs : List ℕ). numbers_where count (has xs)) is
    ∙ one_joined count lists concept

-- if a bitmap has exactly the numbers of `list`, then reading its numbers below `count` gives the numbers of `list`
-- below `count`
pub words_are : (count : ℕ) (words list : List ℕ) → ((n : ℕ) → is_set words n ≡ has list n)
    → numbers_where count (is_set words) ≡ numbers_where count (has list)
words_are count words list marked = numbers_where-agree count (is_set words) (has list) (λ n within. marked n)

-- if a bitmap has exactly the numbers of a rising list below `count`, then reading it gives the list
pub words_list : (count bound : ℕ) (words list : List ℕ) → bound ≡ count → IsRisingBelow count list
    → ((n : ℕ) → is_set words n ≡ has list n) → numbers_where bound (is_set words) ≡ list
words_list count bound words list is rises marked =
    ap (λ (n : ℕ). numbers_where n (is_set words)) is ∙ words_are count words list marked
    ∙ sym (rising_is_numbers_where count list rises)

-- if a bitmap has exactly the list of a single concept, then reading it gives `joined` of this concept
pub words_joined : (count : ℕ) (lists : List (List ℕ)) (concept : ℕ) (words : List ℕ)
    → ((n : ℕ) → is_set words n ≡ has (list_of lists concept) n)
    → numbers_where count (is_set words) ≡ joined count lists (concept ∷ [])
words_joined count lists concept words marked = words_are count words (list_of lists concept) marked
    ∙ one_joined count lists concept

-- `joined` of no concepts is empty
pub joined_none : (count : ℕ) (lists : List (List ℕ)) → joined count lists [] ≡ []
joined_none count lists = numbers_where-none count
