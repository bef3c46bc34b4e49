-- The components of reference sets, by the numbers of concepts and by the member rows.
use Rattle.std.proofs.Common.{ℕ, ◌≡◌, ◌<◌, ◌∙◌, ◌∷◌, [], ◌==◌, ◌&&◌, ◌||◌, Bool, true, false, List, length, get_or}
use Rattle.std.proofs.Common.{refl, sym, ap, subst, arith, not}
use Rattle.std.specs.Prelude.{All, Contains, filter}
use Rattle.std.specs.List.{flat_map, list_any}
use Rattle.std.proofs.lemmas.Bool.{and_parts, eq-eqb, eqb-true, false≢true, ne_eqb}
use Rattle.std.proofs.lemmas.List.{get_or_default}
use Rattle.std.proofs.lemmas.List.Elements.{All-append, All-nil, All-tail}
use Rattle.release_model.specs.Release.{Release}
use Rattle.constraint_tree.specs.Denotation.{is_component}
use Rattle.constraint_tree.specs.Walks.{has_concept}
use Rattle.number_lists.proofs.ListLemmas.{passing_item, some_item_passes, both_ways, any_agree}
use Rattle.constraint_tree.proofs.WalkLemmas.{tells_in_force}
use Rattle.number_lists.specs.Rising.{IsRisingBelow, listed_numbers, numbers_where}
use Rattle.number_lists.specs.Members.{has}
use Rattle.number_lists.proofs.WhereLemmas.{filter-numbers_where, has-numbers_where, numbers_where-agree, there_where}
use Rattle.number_lists.proofs.WhereLemmas.{where_there}
use Rattle.number_lists.proofs.RisingLemmas.{rising_is_numbers_where, all_below, numbers_where-rising, rises_within-filter}
use Rattle.number_lists.specs.KeyedLists.{list_of}
use Rattle.ancestor_index.specs.HierarchyLists.{is_child}
use Rattle.ancestor_index.proofs.ClosureLemmas.{length-where, list_of-where}
use Rattle.postings.specs.Indexed.{members_of}
use Rattle.walks.specs.Components.{components_of}
use Rattle.walks.specs.inside.Components.{HaveComponentsOf, is_in_one_of}
use Rattle.candidates.proofs.StatsLemmas.{sum_among}
use Rattle.std.proofs.lemmas.List.Elements.{All-contains, filter_passes}
use Rattle.number_lists.proofs.MemberLemmas.{contains_had, had_contained}
use Rattle.postings.specs.Indexed.{has_members, with_members}
use Rattle.candidates.proofs.WithinLemmas.{has_kept, restricted_to}
use Rattle.candidates.specs.Numbers.{is_one_of, numbers_in}
use Rattle.std.proofs.lemmas.List.Folds.{list_any-append}
use Rattle.candidates.proofs.Normal.{in_force_kept, numbers_in-agree}

-- the items of a set are below its bound
pub numbers_below : {count bound : ℕ} {items numbers : List ℕ} → IsRisingBelow bound items → bound ≡ count
    → numbers ≡ items
    → All (λ number. number < count) numbers
numbers_below {count} {bound} {items} rises bound_is numbers_are =
    subst (λ (some : List ℕ). All (λ number. number < count) some) (sym numbers_are)
    (subst (λ (most : ℕ). All (λ number. number < most) items) bound_is (all_below bound items rises))

-- ---- the components in the lists of reference sets are those of the member rows
-- an item passes one of two tests exactly if an item passes the first or an item passes the second
any_or : {X : Type 0} (f g : X → Bool) (xs : List X) → list_any (λ x. f x || g x) xs ≡ (list_any f xs || list_any g xs)
any_or f g [] = refl
any_or f g (x ∷ xs) = ap (λ (b : Bool). (f x || g x) || b) (any_or f g xs)
    ∙ shuffled (f x) (g x) (list_any f xs) (list_any g xs)
  where
    following : (b c d : Bool) → (b || (c || d)) ≡ (c || (b || d))
    following true true d = refl
    following true false d = refl
    following false c d = refl

    shuffled : (a b c d : Bool) → ((a || b) || (c || d)) ≡ ((a || c) || (b || d))
    shuffled true b c d = refl
    shuffled false b c d = following b c d

-- no item passes a test that is always false
any_none : {X : Type 0} (xs : List X) → list_any (λ x. false) xs ≡ false
any_none [] = refl
any_none (x ∷ xs) = any_none xs

-- one of `refsets` has a row to x exactly if one of the rows leads from one of `refsets` to x
any_exchanged : (id : ℕ → ℕ) (refsets : List ℕ) (rows : List (ℕ × ℕ)) (x : ℕ)
    → list_any (λ refset. is_child rows (id refset) x) refsets
    ≡ list_any (λ row. list_any (λ refset. id refset == row.0) refsets && (row.1 == x)) rows
any_exchanged id [] rows x = sym (any_none rows)
any_exchanged id (refset ∷ refsets) rows x =
    ap (λ (b : Bool). is_child rows (id refset) x || b) (any_exchanged id refsets rows x)
    ∙ sym (any_or (λ row. (row.0 == id refset) && (row.1 == x)) (λ row. list_any (λ other. id other == row.0) refsets
    && (row.1 == x)) rows)
    ∙ any_agree rows _ _ (0, 0) (λ k there. both (get_or rows k (0, 0)).0 (id refset)
    (list_any (λ other. id other == (get_or rows k (0, 0)).0) refsets) ((get_or rows k (0, 0)).1 == x))
  where
    swapped : (a b : ℕ) → (a == b) ≡ (b == a)
    swapped a b = both_ways (a == b) (b == a) (λ told. eq-eqb b a (sym (eqb-true a b told)))
        (λ told. eq-eqb a b (sym (eqb-true b a told)))

    shared : (a b c : Bool) → ((a && c) || (b && c)) ≡ ((a || b) && c)
    shared true true true = refl
    shared true true false = refl
    shared true false true = refl
    shared true false false = refl
    shared false b c = refl

    both : (from to : ℕ) (some here : Bool)
        → (((from == to) && here) || (some && here)) ≡ (((to == from) || some) && here)
    both from to some here = shared (from == to) some here ∙ ap (λ (b : Bool). (b || some) && here) (swapped from to)

-- the lists of `concepts`, one after the other, have n exactly if the list of one of `concepts` has it
item_joined : (lists : List (List ℕ)) (concepts : List ℕ) (n : ℕ)
    → has (flat_map (list_of lists) concepts) n ≡ list_any (λ concept. has (list_of lists concept) n) concepts
item_joined lists [] n = refl
item_joined lists (concept ∷ concepts) n =
    list_any-append (λ item. item == n) (list_of lists concept) (flat_map (list_of lists) concepts)
    ∙ ap (λ (b : Bool). has (list_of lists concept) n || b) (item_joined lists concepts n)

-- whether a member row leads from a reference set to a component, by their numbers
abbrev is_member : Release → ℕ → ℕ → Bool
is_member release refset component =
    is_child release.members (get_or release.concepts refset 0) (get_or release.concepts component 0)

-- the list of a reference set has n exactly if concept n is its component
member_told : (release : Release) (refset n : ℕ) → refset < length release.concepts → n < length release.concepts
    → has (list_of (members_of release) refset) n ≡ is_member release refset n
member_told release refset n below inside =
    ap (λ (xs : List ℕ). has xs n) (list_of-where (length release.concepts) (is_member release) refset below)
    ∙ has-numbers_where (length release.concepts) (is_member release refset) n inside

-- the list of one of the reference sets has n exactly if a member row leads from one of them to concept n
component_told : (release : Release) (items : List ℕ) → All (λ item. item < length release.concepts) items
    → (n : ℕ) → n < length release.concepts
    → is_in_one_of (members_of release) items n
    ≡ list_any (λ row. list_any (λ refset. get_or release.concepts refset 0 == row.0) items
    && (row.1 == get_or release.concepts n 0)) release.members
component_told release items below n inside =
    any_agree items _ _ 0 (λ k there. member_told release (get_or items k 0) n (below k 0 there) inside)
    ∙ any_exchanged (λ refset. get_or release.concepts refset 0) items release.members (get_or release.concepts n 0)

-- the numbers in the lists of reference sets are the numbers of their components
pub members_listed : (release : Release) (items : List ℕ) → All (λ item. item < length release.concepts) items
    → listed_numbers (length release.concepts) (flat_map (list_of (members_of release)) items)
    ≡ components_of release items
members_listed release items below =
    numbers_where-agree (length release.concepts) _ _
    (λ n inside. item_joined (members_of release) items n ∙ component_told release items below n inside)

-- two lists of reference sets have the same components if a number is in the list of one of the first exactly if it is
-- in the list of one of the second
components_agree : (release : Release) (one other : List ℕ) → All (λ item. item < length release.concepts) one
    → All (λ item. item < length release.concepts) other
    → ((n : ℕ) → is_in_one_of (members_of release) one n ≡ is_in_one_of (members_of release) other n)
    → components_of release one ≡ components_of release other
components_agree release one other below also same =
    numbers_where-agree (length release.concepts) _ _
    (λ n inside. sym (component_told release one below n inside) ∙ same n
    ∙ component_told release other also n inside)

-- a reference set whose list has a number has members
has_members_if : (lists : List (List ℕ)) (refset n : ℕ) → has (list_of lists refset) n ≡ true
    → has_members lists refset ≡ true
has_members_if lists refset n there = not_empty (list_of lists refset) there
  where
    not_empty : (list : List ℕ) → has list n ≡ true → not (length list == 0) ≡ true
    not_empty [] there = absurd (false≢true there)
    not_empty (x ∷ list) there = ap not (ne_eqb (length (x ∷ list)) 0 (λ none. absurd (omega (arith, none))))

-- concepts have all components that they have themselves
pub own_components : (release : Release) (items : List ℕ) → IsRisingBelow (length release.concepts) items
    → HaveComponentsOf release items items
own_components release items rises = record {
  below = all_below (length release.concepts) items rises;
  components = refl;
  few = omega arith;
}

-- the concepts with members in a set have all components that the set has
pub with_members_enough : (release : Release) (items : List ℕ) → IsRisingBelow (length release.concepts) items
    → HaveComponentsOf release items (filter (has items) (with_members (members_of release)))
with_members_enough release items rises = record {
  below = kept_below;
  components = components_agree release kept items kept_below items_below same;
  few = sum_among kept items count count kept_rise rises (filter_passes (has items) (with_members lists))
      (λ refset. length (list_of lists refset));
}
  where
    count : ℕ
    count = length release.concepts

    lists : List (List ℕ)
    lists = members_of release

    kept : List ℕ
    kept = filter (has items) (with_members lists)

    long : length lists ≡ count
    long = length-where count _

    kept_rise : IsRisingBelow count kept
    kept_rise = rises_within-filter 0 count (has items) (with_members lists)
        (subst (λ (bound : ℕ). IsRisingBelow bound (with_members lists)) long
        (numbers_where-rising (length lists) (has_members lists)))

    kept_below : All (λ refset. refset < count) kept
    kept_below = all_below count kept kept_rise

    items_below : All (λ item. item < count) items
    items_below = all_below count items rises

    same : (n : ℕ) → is_in_one_of lists kept n ≡ is_in_one_of lists items n
    same n = both_ways (is_in_one_of lists kept n) (is_in_one_of lists items n) forth back
      where
        test : ℕ → Bool
        test refset = has (list_of lists refset) n

        forth : is_in_one_of lists kept n ≡ true → is_in_one_of lists items n ≡ true
        forth told =
            let found = passing_item test kept told in
            let there = and_parts (has (with_members lists) found.0) (has items found.0)
            (sym (has_kept (has items) (with_members lists) found.0) ∙ had_contained kept found.0 found.1) in
            some_item_passes test items found.0 (contains_had items found.0 there.1) found.2

        back : is_in_one_of lists items n ≡ true → is_in_one_of lists kept n ≡ true
        back told =
            let found = passing_item test items told in
            let had : has items found.0 ≡ true = had_contained items found.0 found.1 in
            let inside : found.0 < length lists =
            subst (λ (bound : ℕ). found.0 < bound) (sym long) (All-contains (λ item. item < count) items found.0
            items_below found.1) in
            let listed : has (with_members lists) found.0 ≡ true =
            has-numbers_where (length lists) (has_members lists) found.0 inside
            ∙ has_members_if lists found.0 n found.2 in
            some_item_passes test kept found.0
            (contains_had kept found.0 (has_kept (has items) (with_members lists) found.0
            ∙ (λ i. listed i && had i))) found.2

-- the numbers in `wanted` that are in the list of one of the reference sets are the components of these that are in
-- `wanted`
pub members_asked : (release : Release) (items : List ℕ) → All (λ item. item < length release.concepts) items
    → (wanted : List ℕ) → IsRisingBelow (length release.concepts) wanted
    → filter (is_in_one_of (members_of release) items) wanted ≡ filter (has wanted) (components_of release items)
members_asked release items below wanted rises =
    ap (filter asked) (rising_is_numbers_where count wanted rises)
    ∙ filter-numbers_where count (has wanted) asked
    ∙ numbers_where-agree count _ _
    (λ n inside. ap (λ (there : Bool). has wanted n && there) (component_told release items below n inside))
    ∙ sym (restricted_to count (has wanted) _ (components_of release items)
    (filter (has wanted) (components_of release items)) refl refl)
  where
    count : ℕ
    count = length release.concepts

    asked : ℕ → Bool
    asked = is_in_one_of (members_of release) items

-- the lists of reference sets have numbers of concepts alone
pub members_below : (release : Release) (items : List ℕ) → All (λ item. item < length release.concepts) items
    → All (λ number. number < length release.concepts) (flat_map (list_of (members_of release)) items)
members_below release [] below = All-nil (λ number. number < length release.concepts)
members_below release (item ∷ items) below =
    All-append (λ number. number < length release.concepts) (list_of (members_of release) item)
    (flat_map (list_of (members_of release)) items)
    (subst (All (λ number. number < length release.concepts))
    (sym (list_of-where (length release.concepts) (is_member release) item (below 0 0 (omega arith))))
    (λ k d within.
    let list : List ℕ = numbers_where (length release.concepts) (is_member release item) in
    (there_where (length release.concepts) (is_member release item) (get_or list k d)
    (k, within, get_or_default list k (get_or list k d) d within)).0))
    (members_below release items (All-tail (λ item. item < length release.concepts) item items below))

-- the numbers of a set stand for a concept exactly if it is in the set
pub one_of_set : (release : Release) (set : ℕ → Bool) (items : List ℕ) → items ≡ numbers_in release set
    → ((concept : ℕ) → set concept ≡ true → has_concept release concept ≡ true)
    → (id : ℕ) → is_one_of release.concepts items id ≡ set id
one_of_set release set items is forced id = both_ways (is_one_of release.concepts items id) (set id) there opposite
  where
    there : is_one_of release.concepts items id ≡ true → set id ≡ true
    there told =
        let found = passing_item (λ number. get_or release.concepts number 0 == id) items told in
        let at = there_where (length release.concepts) (λ m. set (get_or release.concepts m 0)) found.0
        (subst (λ (xs : List ℕ). Contains xs found.0) is found.1) in
        ap set (sym (eqb-true (get_or release.concepts found.0 0) id found.2)) ∙ at.1

    opposite : set id ≡ true → is_one_of release.concepts items id ≡ true
    opposite holds =
        let there = (tells_in_force release id).0 (forced id holds) in
        let k : ℕ = there.0 in
        let at : get_or release.concepts k 0 ≡ id = get_or_default release.concepts k 0 id there.1 ∙ there.2 in
        some_item_passes (λ number. get_or release.concepts number 0 == id) items k
        (subst (λ (xs : List ℕ). Contains xs k) (sym is)
        (where_there (length release.concepts) (λ m. set (get_or release.concepts m 0)) k there.1 (ap set at ∙ holds)))
        (eq-eqb (get_or release.concepts k 0) id at)

-- the components of the reference sets with the numbers of a set are the components of the reference sets in the set
pub components_in : (release : Release) (set : ℕ → Bool) (items : List ℕ) → items ≡ numbers_in release set
    → ((concept : ℕ) → set concept ≡ true → has_concept release concept ≡ true)
    → components_of release items ≡ numbers_in release (is_component release set)
components_in release set items is forced =
    numbers_in-agree release
    (λ concept. list_any (λ (row : ℕ × ℕ). list_any (λ refset. get_or release.concepts refset 0 == row.0) items
    && (row.1 == concept)) release.members)
    (λ concept. list_any (λ (row : ℕ × ℕ). set row.0 && (row.1 == concept)) release.members)
    (λ n within. any_agree release.members _ _ (0, 0)
    (λ k there i. one_of_set release set items is forced (get_or release.members k (0, 0)).0 i
    && ((get_or release.members k (0, 0)).1 == get_or release.concepts n 0)))
    ∙ in_force_kept release (λ concept. list_any (λ (row : ℕ × ℕ). set row.0 && (row.1 == concept)) release.members)
