-- The lists that the is-a rows of a release give are the hierarchy of the release.
use Rattle.std.proofs.Common.{ℕ, zero, suc, ◌+◌, ◌==◌, ◌≡◌, ◌≢◌, ◌<◌, ◌≤◌, ◌++◌, ◌∷◌, [], ◌∙◌, ⊎_elim, Bool, true}
use Rattle.std.proofs.Common.{false, cond, List, length, get_or, map, refl, sym, ap, subst, arith}
use Rattle.std.specs.Prelude.{Contains}
use Rattle.std.specs.List.{filter, range_with_len}
use Rattle.std.specs.List.Sorted.{IsStrictlyIncreasing}
use Rattle.std.proofs.lemmas.Bool.{cases_eq, cases_lt, eq-eqb, ne_eqb}
use Rattle.std.proofs.lemmas.List.{get_or_default}
use Rattle.std.proofs.lemmas.List.Elements.{Contains-get_or}
use Rattle.std.proofs.lemmas.Map.Steps.{length-le_from_distinct_below, le-length_from_below}
use Rattle.hierarchy.specs.Hierarchy.{IsWithin, Reaches, reaches}
use Rattle.release_model.specs.Release.{Release}
use Rattle.hierarchy.proofs.HierarchyLemmas.{chain_from_test, test_from_chain}
use Rattle.number_lists.specs.Members.{has}
use Rattle.number_lists.specs.Rising.{listed_numbers, numbers_where}
use Rattle.number_lists.proofs.WhereLemmas.{numbers_where-agree, there_where}
use Rattle.number_lists.specs.KeyedLists.{AreItemsBelow, items_of, lists_by, list_of, transposed, transposed_from}
use Rattle.number_lists.specs.KeyedLists.{with_key}
use Rattle.held_release.specs.Numbering.{row_of_numbers}
use Rattle.hierarchy.specs.ParentsFirst.{IsParentsFirst}
use Rattle.number_lists.proofs.ListLemmas.{both_ways, same_maps}
use Rattle.number_lists.proofs.KeyedLemmas.{items_of-append}
use Rattle.held_release.proofs.NumberingLemmas.{Reaches-map, numbers_again, row_by}
use Rattle.number_lists.proofs.BlockLemmas.{Contains-map}
use Rattle.number_lists.proofs.PlaceLemmas.{place_of, place_of-get_or}
use Rattle.number_lists.proofs.MemberLemmas.{any-has, contains_had, had_contained}
use Rattle.hierarchy.proofs.WayLemmas.{contained_items_of, items_of-contained}
use Rattle.ancestor_index.specs.HierarchyLists.{hierarchy_of, is_child, lists_where}
use Rattle.ancestor_index.specs.inside.Parents.{AreParentsBy}
use Rattle.ancestor_index.proofs.ClosureLemmas.{length-where, list_of-where, row_there, there_row}

-- two tests that agree on all concepts below `count` give the same lists
pub lists_where-agree : (count : ℕ) (test other : ℕ → ℕ → Bool)
    → ((a b : ℕ) → a < count → b < count → test a b ≡ other a b) → lists_where count test ≡ lists_where count other
lists_where-agree count test other agree =
    same_maps (λ concept. numbers_where count (test concept)) (λ concept. numbers_where count (other concept)) 0 count
    (λ a from below. numbers_where-agree count (test a) (other a) (λ b near. agree a b (omega arith) near))

-- all items of `lists_where count test` are below `count`
pub where_below : (count : ℕ) (test : ℕ → ℕ → Bool) (lists : List (List ℕ)) → lists ≡ lists_where count test
    → AreItemsBelow count lists
where_below count test lists is k d within j e inside =
    let near : k < count = omega
    (arith, within, ap (λ (all : List (List ℕ)). length all) is, length-where count test) in
    let list : get_or lists k d ≡ numbers_where count (test k) = get_or_default lists k d [] within
    ∙ ap (λ (all : List (List ℕ)). list_of all k) is ∙ list_of-where count test k near in
    (there_where count (test k) (get_or (get_or lists k d) j e)
    (subst (λ (xs : List ℕ). Contains xs (get_or (get_or lists k d) j e)) list
    (Contains-get_or (get_or lists k d) j e inside))).0

-- ---- the parents, by the rows
-- mapping twice is mapping once with the composed function
map-map : (f : List ℕ → List ℕ) (g : ℕ → List ℕ) (xs : List ℕ) → map f (map g xs) ≡ map (λ x. f (g x)) xs
map-map f g [] = refl
map-map f g (x ∷ xs) = ap (λ (rest : List (List ℕ)). f (g x) ∷ rest) (map-map f g xs)

-- the list of items of `child` has `parent` exactly if a row leads from `child` to `parent`
has_parent : (rows : List (ℕ × ℕ)) (child parent : ℕ) → has (items_of rows child) parent ≡ is_child rows child parent
has_parent rows child parent =
    both_ways (has (items_of rows child) parent) (is_child rows child parent)
    (λ told. there_row rows child parent (contained_items_of rows child parent
    (contains_had (items_of rows child) parent told)))
    (λ told. had_contained (items_of rows child) parent
    (items_of-contained rows child parent (row_there rows child parent told)))

-- if the list of the rows of each concept is sorted without repeats, it is the list of the concept's parents
pub parents_listed : (count : ℕ) (rows : List (ℕ × ℕ))
    → map (listed_numbers count) (lists_by count rows) ≡ lists_where count (is_child rows)
parents_listed count rows =
    map-map (listed_numbers count) (items_of rows) (range_with_len 0 count)
    ∙ same_maps (λ child. listed_numbers count (items_of rows child))
    (λ child. numbers_where count (is_child rows child)) 0 count
    (λ child from below. numbers_where-agree count (has (items_of rows child)) (is_child rows child)
    (λ parent near. has_parent rows child parent))

-- ---- transposed lists

-- in the pairs of a list of numbers from `low` on with `key`, a number below `low` has no item
with_key-out : (key x low count : ℕ) (test : ℕ → Bool) → x < low
    → items_of (with_key key (filter test (range_with_len low count))) x ≡ []
with_key-out key x low zero test below = refl
with_key-out key x low (suc count) test below =
    let rest = with_key-out key x (low + 1) count test (omega arith) in
    let apart : (low == x) ≡ false = ne_eqb low x (λ same. absurd (omega arith)) in
    elim (test low) as (λ b. items_of (with_key key (cond b (low ∷ filter test (range_with_len (low + 1) count))
    (filter test (range_with_len (low + 1) count)))) x ≡ []) [
      | true ↦ (λ i. map (λ (pair : ℕ × ℕ). pair.1)
          (cond (apart i) ((low, key)
          ∷ filter (λ (pair : ℕ × ℕ). pair.0 == x) (with_key key (filter test (range_with_len (low + 1) count))))
          (filter (λ (pair : ℕ × ℕ). pair.0 == x) (with_key key (filter test (range_with_len (low + 1) count))))))
          ∙ rest
      | false ↦ rest
    ]

-- in the pairs of a list of tested numbers with `key`, a number of the range has the one item `key` if it passes
-- the test, and otherwise no item
with_key-in : (key x low count : ℕ) (test : ℕ → Bool) → low ≤ x → x < low + count
    → items_of (with_key key (filter test (range_with_len low count))) x ≡ cond (test x) (key ∷ []) []
with_key-in key x low zero test above below = absurd (omega arith)
with_key-in key x low (suc count) test above below = ⊎_elim
    (λ (same : low ≡ x).
    let rest = with_key-out key x (low + 1) count test (omega arith) in
    let here : (low == x) ≡ true = eq-eqb low x same in
    (elim (test low) as (λ b. items_of (with_key key (cond b (low ∷ filter test (range_with_len (low + 1) count))
    (filter test (range_with_len (low + 1) count)))) x ≡ cond b (key ∷ []) []) [
      | true ↦ (λ i. map (λ (pair : ℕ × ℕ). pair.1)
          (cond (here i) ((low, key)
          ∷ filter (λ (pair : ℕ × ℕ). pair.0 == x) (with_key key (filter test (range_with_len (low + 1) count))))
          (filter (λ (pair : ℕ × ℕ). pair.0 == x) (with_key key (filter test (range_with_len (low + 1) count))))))
          ∙ ap (λ (xs : List ℕ). key ∷ xs) rest
      | false ↦ rest
    ])
    ∙ (λ i. cond (test (same i)) (key ∷ []) []))
    (λ (other : low ≢ x).
    let rest = with_key-in key x (low + 1) count test (further other) (omega arith) in
    let apart : (low == x) ≡ false = ne_eqb low x other in
    elim (test low) as (λ b. items_of (with_key key (cond b (low ∷ filter test (range_with_len (low + 1) count))
    (filter test (range_with_len (low + 1) count)))) x ≡ cond (test x) (key ∷ []) []) [
      | true ↦ (λ i. map (λ (pair : ℕ × ℕ). pair.1)
          (cond (apart i) ((low, key)
          ∷ filter (λ (pair : ℕ × ℕ). pair.0 == x) (with_key key (filter test (range_with_len (low + 1) count))))
          (filter (λ (pair : ℕ × ℕ). pair.0 == x) (with_key key (filter test (range_with_len (low + 1) count))))))
          ∙ rest
      | false ↦ rest
    ])
    (cases_eq low x)
  where
    further : low ≢ x → low + 1 ≤ x
    further other = ⊎_elim (λ (less : low < x). omega arith) (λ (le : x ≤ low). absurd (other (omega arith)))
        (cases_lt low x)

-- the transposed list of `x` has the keys whose lists hold `x`, in rising order
transposed_tested : (count : ℕ) (test : ℕ → ℕ → Bool) (x : ℕ) → x < count → (key many : ℕ)
    → items_of (transposed_from key (map (λ concept. numbers_where count (test concept)) (range_with_len key many))) x
    ≡ filter (λ concept. test concept x) (range_with_len key many)
transposed_tested count test x below key zero = refl
transposed_tested count test x below key (suc many) =
    let rest = transposed_tested count test x below (key + 1) many in
    let own = with_key-in key x 0 count (test key) (omega arith) (omega arith) in
    items_of-append (with_key key (numbers_where count (test key)))
    (transposed_from (key + 1) (map (λ concept. numbers_where count (test concept)) (range_with_len (key + 1) many))) x
    ∙ (λ i. own i ++ rest i)
    ∙ joined (test key x) key (filter (λ concept. test concept x) (range_with_len (key + 1) many))
  where
    -- a key in front of a list, if `b` holds, is the list with the key added
    joined : (b : Bool) (key : ℕ) (xs : List ℕ) → cond b (key ∷ []) [] ++ xs ≡ cond b (key ∷ xs) xs
    joined true key xs = refl
    joined false key xs = refl

-- the lists of a test, transposed, are the lists of the test with its arguments swapped
pub transposed_where : (count : ℕ) (test : ℕ → ℕ → Bool)
    → transposed count (lists_where count test) ≡ lists_where count (λ concept other. test other concept)
transposed_where count test =
    same_maps (items_of (transposed_from 0 (lists_where count test)))
    (λ concept. numbers_where count (λ other. test other concept)) 0 count
    (λ x from below. transposed_tested count test x (omega arith) 0 count)

-- ---- from numbers to identifiers
-- one number reaches another by the numbered rows exactly if its identifier reaches the other's by the is-a rows
pub same_reach : (concepts : List ℕ) (rows isa : List (ℕ × ℕ)) → IsStrictlyIncreasing concepts
    → IsWithin (length concepts) rows → map (row_of_numbers concepts) rows ≡ isa
    → (a b : ℕ) → a < length concepts → b < length concepts
    → reaches rows a b ≡ reaches isa (get_or concepts a 0) (get_or concepts b 0)
same_reach concepts rows isa rises within are a b near far =
    both_ways (reaches rows a b) (reaches isa (get_or concepts a 0) (get_or concepts b 0))
    (λ told. test_from_chain isa (subst (λ (found : List (ℕ × ℕ)). Reaches found (get_or concepts a 0)
    (get_or concepts b 0)) are (Reaches-map (λ n. get_or concepts n 0) (chain_from_test rows a b told))))
    (λ told. test_from_chain rows (back (Reaches-map (place_of concepts)
    (chain_from_test isa (get_or concepts a 0) (get_or concepts b 0) told))))
  where
    -- a chain between the places of identifiers is a chain of the numbered rows
    back : Reaches (map (row_by (place_of concepts)) isa) (place_of concepts (get_or concepts a 0))
        (place_of concepts (get_or concepts b 0)) → Reaches rows a b
    back chain =
        let again : map (row_by (place_of concepts)) isa ≡ rows = (λ i. map (row_by (place_of concepts)) (sym are i))
        ∙ numbers_again concepts rises rows within in
        subst (λ (found : List (ℕ × ℕ)). Reaches found a b) again
        (subst (λ (n : ℕ). Reaches (map (row_by (place_of concepts)) isa) n b) (place_of-get_or concepts rises a near)
        (subst (λ (n : ℕ). Reaches (map (row_by (place_of concepts)) isa)
        (place_of concepts (get_or concepts a 0)) n) (place_of-get_or concepts rises b far) chain))

-- there is a row from one number to another exactly if there is an is-a row between their identifiers
pub same_child : (concepts : List ℕ) (rows isa : List (ℕ × ℕ)) → IsStrictlyIncreasing concepts
    → IsWithin (length concepts) rows → map (row_of_numbers concepts) rows ≡ isa
    → (a b : ℕ) → a < length concepts → b < length concepts
    → is_child rows a b ≡ is_child isa (get_or concepts a 0) (get_or concepts b 0)
same_child concepts rows isa rises within are a b near far =
    both_ways (is_child rows a b) (is_child isa (get_or concepts a 0) (get_or concepts b 0))
    (λ told. there_row isa (get_or concepts a 0) (get_or concepts b 0)
    (subst (λ (found : List (ℕ × ℕ)). Contains found (get_or concepts a 0, get_or concepts b 0)) are
    (Contains-map (row_of_numbers concepts) rows (a, b) (row_there rows a b told))))
    (λ told. there_row rows a b (back (Contains-map (row_by (place_of concepts)) isa
    (get_or concepts a 0, get_or concepts b 0) (row_there isa (get_or concepts a 0) (get_or concepts b 0) told))))
  where
    -- a row between the places of identifiers is one of the numbered rows
    back : Contains (map (row_by (place_of concepts)) isa)
        (place_of concepts (get_or concepts a 0), place_of concepts (get_or concepts b 0)) → Contains rows (a, b)
    back there =
        let again : map (row_by (place_of concepts)) isa ≡ rows = (λ i. map (row_by (place_of concepts)) (sym are i))
        ∙ numbers_again concepts rises rows within in
        subst (λ (found : List (ℕ × ℕ)). Contains found (a, b)) again
        (subst (λ (n : ℕ). Contains (map (row_by (place_of concepts)) isa) (n, b))
        (place_of-get_or concepts rises a near)
        (subst (λ (n : ℕ). Contains (map (row_by (place_of concepts)) isa)
        (place_of concepts (get_or concepts a 0), n)) (place_of-get_or concepts rises b far) there))

-- an order with parents first has `count` concepts
pub order_count : (count : ℕ) (rows : List (ℕ × ℕ)) (order : List ℕ) → IsParentsFirst count rows order
    → length order ≡ count
order_count count rows order first =
    let most = length-le_from_distinct_below order count first.once
    (λ q told. (first.members q).0 (contains_had order q (sym (any-has order q) ∙ told))) in
    let least = le-length_from_below order count (λ q below. any-has order q
    ∙ had_contained order q ((first.members q).1 below)) in
    omega (arith, most, least)

-- the lists of parents by the rows, and an order with parents first, meet what `ancestor_lists` requires
pub given_parents : (count : ℕ) (rows : List (ℕ × ℕ)) (parents : List (List ℕ)) (order : List ℕ)
    → IsWithin count rows → parents ≡ lists_where count (is_child rows) → IsParentsFirst count rows order
    → AreParentsBy rows parents order
given_parents count rows parents order within are first =
    let long = order_count count rows order first in record {
      within = subst (λ (n : ℕ). IsWithin n rows) (sym long) within;
      lists = are ∙ (λ i. lists_where (sym long i) (is_child rows));
      first = subst (λ (n : ℕ). IsParentsFirst n rows order) (sym long) first;
    }

-- if the concepts rise, and `rows` are the is-a rows with each concept as its number, the lists of ancestors,
-- descendants, parents and children by `rows` are the hierarchy of the release
pub hierarchy_told : (release : Release) (rows : List (ℕ × ℕ)) (count : ℕ) → count ≡ length release.concepts
    → IsStrictlyIncreasing release.concepts → IsWithin (length release.concepts) rows
    → map (row_of_numbers release.concepts) rows ≡ release.isa
    → (ancestors descendants parents children : List (List ℕ)) → ancestors ≡ lists_where count (reaches rows)
    → descendants ≡ lists_where count (λ concept other. reaches rows other concept)
    → parents ≡ lists_where count (is_child rows)
    → children ≡ lists_where count (λ concept other. is_child rows other concept)
    → record { ancestors = ancestors; descendants = descendants; parents = parents; children = children }
    ≡ hierarchy_of release
hierarchy_told release rows count all rises within are ancestors descendants parents children above below before
    following = λ i. record {
      ancestors = (above ∙ (λ j. lists_where (all j) (reaches rows))
          ∙ lists_where-agree (length release.concepts) (reaches rows)
          (λ concept other. reaches release.isa (id concept) (id other)) reach) i;
      descendants = (below ∙ (λ j. lists_where (all j) (λ concept other. reaches rows other concept))
          ∙ lists_where-agree (length release.concepts) (λ concept other. reaches rows other concept)
          (λ concept other. reaches release.isa (id other) (id concept)) (λ a b near far. reach b a far near)) i;
      parents = (before ∙ (λ j. lists_where (all j) (is_child rows))
          ∙ lists_where-agree (length release.concepts) (is_child rows)
          (λ concept other. is_child release.isa (id concept) (id other)) child) i;
      children = (following ∙ (λ j. lists_where (all j) (λ concept other. is_child rows other concept))
          ∙ lists_where-agree (length release.concepts) (λ concept other. is_child rows other concept)
          (λ concept other. is_child release.isa (id other) (id concept)) (λ a b near far. child b a far near)) i;
    }
  where
    -- the identifier of a concept number
    id : ℕ → ℕ
    id n = get_or release.concepts n 0

    -- numbers reach one another exactly if their identifiers do
    reach : (a b : ℕ) → a < length release.concepts → b < length release.concepts
        → reaches rows a b ≡ reaches release.isa (id a) (id b)
    reach = same_reach release.concepts rows release.isa rises within are

    -- rows lead between numbers exactly if is-a rows lead between their identifiers
    child : (a b : ℕ) → a < length release.concepts → b < length release.concepts
        → is_child rows a b ≡ is_child release.isa (id a) (id b)
    child = same_child release.concepts rows release.isa rises within are

-- the lists that `ancestor_lists` promises, by the length of the order, are the lists of ancestors of all `count`
-- concepts
pub ancestors_told : (all count : ℕ) (rows : List (ℕ × ℕ)) (parents ancestors : List (List ℕ)) (order : List ℕ)
    → count ≡ all → IsWithin all rows → parents ≡ lists_where count (is_child rows) → IsParentsFirst all rows order
    → ((rows : List (ℕ × ℕ)) → AreParentsBy rows parents order
    → ancestors ≡ lists_where (length order) (reaches rows)) → ancestors ≡ lists_where count (reaches rows)
ancestors_told all count rows parents ancestors order same within are first found =
    found rows (given_parents all rows parents order within (are ∙ (λ i. lists_where (same i) (is_child rows))) first)
    ∙ (λ i. lists_where ((order_count all rows order first ∙ sym same) i) (reaches rows))
