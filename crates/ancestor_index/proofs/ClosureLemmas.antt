-- The ancestors of a concept are its parents and their ancestors.
use Rattle.std.proofs.Common.{ℕ, zero, suc, ◌==◌, ◌&&◌, ◌≡◌, ◌<◌, ◌∷◌, [], ◌∙◌, ⊎_elim, Bool, true, false, List, length}
use Rattle.std.proofs.Common.{get_or, map, take, refl, sym, ap, subst, arith, length-take, get_or-take}
use Rattle.std.specs.Prelude.{All, Contains, flat_map}
use Rattle.std.proofs.lemmas.Bool.{eq-eqb, eqb-true, or_cases, or_left, or_right}
use Rattle.std.proofs.lemmas.List.{get_or-map, get_or_default, length-map, same_lists}
use Rattle.std.proofs.lemmas.List.Elements.{All-contains, Contains-append_right, Contains-get_or}
use Rattle.std.proofs.lemmas.List.FromFn.{get_or-map-range_with_len, length-map-range_with_len}
use Rattle.hierarchy.specs.Hierarchy.{Reaches, one_row, more_rows, reaches}
use Rattle.hierarchy.proofs.HierarchyLemmas.{chain_from_test, test_from_chain}
use Rattle.number_lists.specs.Members.{has}
use Rattle.number_lists.specs.Rising.{listed_numbers, numbers_where}
use Rattle.number_lists.proofs.ListLemmas.{both_ways}
use Rattle.number_lists.proofs.MemberLemmas.{has-append, contains_had, had_contained}
use Rattle.number_lists.proofs.WhereLemmas.{has-numbers_where, numbers_where-agree, there_where, where_there}
use Rattle.number_lists.specs.KeyedLists.{list_of}
use Rattle.ancestor_index.specs.HierarchyLists.{is_child, lists_where}
use Rattle.ancestor_index.specs.inside.Gathered.{gathered_by}
use Rattle.ancestor_index.specs.inside.Parents.{AreParentsBy}

-- ---- the lists that a function gives for the items of a list, joined
-- a number in `flat_map f xs` is in `f y` for an item `y` of `xs`
joined_there : (f : ℕ → List ℕ) (xs : List ℕ) (x : ℕ) → has (flat_map f xs) x ≡ true
    → (y : ℕ) × Contains xs y × (has (f y) x ≡ true)
joined_there f [] x told = absurd (cc)
joined_there f (y ∷ xs) x told = ⊎_elim
    (λ (here : has (f y) x ≡ true). (y, (0, omega arith, refl), here))
    (λ (rest : has (flat_map f xs) x ≡ true). let found = joined_there f xs x rest in
    (found.0, Contains-append_right (y ∷ []) xs found.0 found.1, found.2))
    (or_cases (has (f y) x) (has (flat_map f xs) x) (sym (has-append (f y) (flat_map f xs) x) ∙ told))

-- a number in `f y` for an item `y` of `xs` is in `flat_map f xs`
there_joined : (f : ℕ → List ℕ) (xs : List ℕ) (x y : ℕ) → Contains xs y → has (f y) x ≡ true
    → has (flat_map f xs) x ≡ true
there_joined f [] x y there told = absurd (omega (arith, there.1))
there_joined f (z ∷ xs) x y (zero, within, is) told =
    has-append (f z) (flat_map f xs) x
    ∙ or_left (has (f z) x) (has (flat_map f xs) x) (ap (λ (n : ℕ). has (f n) x) is ∙ told)
there_joined f (z ∷ xs) x y (suc k, within, is) told =
    has-append (f z) (flat_map f xs) x
    ∙ or_right (has (f z) x) (has (flat_map f xs) x) (there_joined f xs x y (k, omega arith, is) told)

-- if the test `is_child` holds, there is a row from `child` to `parent`
pub row_there : (rows : List (ℕ × ℕ)) (child parent : ℕ) → is_child rows child parent ≡ true
    → Contains rows (child, parent)
row_there [] child parent told = absurd (cc)
row_there (row ∷ rows) child parent told = ⊎_elim
    (λ (here : ((row.0 == child) && (row.1 == parent)) ≡ true).
    let parts = both (row.0 == child) (row.1 == parent) here in
    (0, omega arith, λ i. (eqb-true row.0 child parts.0 i, eqb-true row.1 parent parts.1 i)))
    (λ (rest : is_child rows child parent ≡ true). Contains-append_right (row ∷ []) rows (child, parent)
    (row_there rows child parent rest))
    (or_cases ((row.0 == child) && (row.1 == parent)) (is_child rows child parent) told)
  where
    -- if a conjunction holds, both parts hold
    both : (a b : Bool) → (a && b) ≡ true → (a ≡ true) × (b ≡ true)
    both true b told = (refl, told)
    both false b told = absurd (cc)

-- if there is a row from `child` to `parent`, the test `is_child` holds
pub there_row : (rows : List (ℕ × ℕ)) (child parent : ℕ) → Contains rows (child, parent)
    → is_child rows child parent ≡ true
there_row [] child parent there = absurd (omega (arith, there.1))
there_row (row ∷ rows) child parent (zero, within, is) =
    or_left ((row.0 == child) && (row.1 == parent)) (is_child rows child parent)
    ((λ i. eq-eqb row.0 child (λ j. (is j).0) i && (row.1 == parent)) ∙ eq-eqb row.1 parent (λ j. (is j).1))
there_row (row ∷ rows) child parent (suc k, within, is) =
    or_right ((row.0 == child) && (row.1 == parent)) (is_child rows child parent)
    (there_row rows child parent (k, omega arith, is))

-- ---- lists for each concept
-- the list of a concept below `count` in `lists_where count test` has the numbers below `count` that pass `test
-- concept`
pub list_of-where : (count : ℕ) (test : ℕ → ℕ → Bool) (concept : ℕ) → concept < count
    → list_of (lists_where count test) concept ≡ numbers_where count (test concept)
list_of-where count test concept below =
    get_or-map-range_with_len (λ concept. numbers_where count (test concept)) 0 count concept concept [] below
    (omega arith)

-- `lists_where count test` has one list for each number below `count`
pub length-where : (count : ℕ) (test : ℕ → ℕ → Bool) → length (lists_where count test) ≡ count
length-where count test = length-map-range_with_len (λ concept. numbers_where count (test concept)) 0 count

-- ---- one step of the search: a concept of the order
-- the numbers below `count` that a concept reaches by the rows
pub ancestors_by : List (ℕ × ℕ) → ℕ → ℕ → List ℕ
ancestors_by rows count concept = numbers_where count (reaches rows concept)

-- the state of the search before concept `k` of the order: the lists of ancestors of the concepts before it are
-- known
pub record Turn (rows : List (ℕ × ℕ)) (parents : List (List ℕ)) (order places : List ℕ) (lists : List (List ℕ))
    (k : ℕ) : Type 0 where
  -- the parents are those of the rows, and the order has parents first
  pub given : AreParentsBy rows parents order
  -- each concept of the order has a place
  pub len : length places ≡ length order
  -- `places` maps the concept at each place of the order back to that place
  pub placed : (place : ℕ) → place < length order → get_or places (get_or order place 0) 0 ≡ place
  -- `k` is a place of the order
  pub within : k < length order
  -- the lists are the ancestors of the first `k` concepts of the order
  pub known : lists ≡ map (λ concept. numbers_where (length order) (reaches rows concept)) (take k order)

-- each concept of the order is below the length of the order
pub order_below : (rows : List (ℕ × ℕ)) (parents : List (List ℕ)) (order : List ℕ) → AreParentsBy rows parents order
    → (k : ℕ) (d : ℕ) → k < length order → get_or order k d < length order
order_below rows parents order given k d within =
    (given.first.members (get_or order k d)).0 (Contains-get_or order k d within)

-- the list of parents of concept `k` of the order has the parents that the rows give it
pub own_parents : {rows : List (ℕ × ℕ)} {parents : List (List ℕ)} {order places : List ℕ} {lists : List (List ℕ)}
    {k : ℕ} → Turn rows parents order places lists k
    → list_of parents (get_or order k 0) ≡ numbers_where (length order) (is_child rows (get_or order k 0))
own_parents {rows} {parents} {order} {places} {lists} {k} turn =
    ap (λ (all : List (List ℕ)). list_of all (get_or order k 0)) turn.given.lists
    ∙ list_of-where (length order) (is_child rows) (get_or order k 0)
    (order_below rows parents order turn.given k 0 turn.within)

-- a parent stands before concept `k` in the order, so its list of ancestors is known
pub record Placed (rows : List (ℕ × ℕ)) (order places : List ℕ) (lists : List (List ℕ)) (parent : ℕ) : Type 0 where
  -- the parent has a place
  pub near : parent < length places
  -- the place of the parent has a list
  pub early : get_or places parent 0 < length lists
  -- the list at the parent's place is its ancestors
  pub list : list_of lists (get_or places parent 0) ≡ numbers_where (length order) (reaches rows parent)

-- each parent of concept `k` of the order stands before it, and its list of ancestors is known
pub parent_placed : {rows : List (ℕ × ℕ)} {parents : List (List ℕ)} {order places : List ℕ} {lists : List (List ℕ)}
    {k : ℕ} → Turn rows parents order places lists k
    → (parent : ℕ) → Contains (numbers_where (length order) (is_child rows (get_or order k 0))) parent
    → Placed rows order places lists parent
parent_placed {rows} {parents} {order} {places} {lists} {k} turn parent there =
    let told = there_where (length order) (is_child rows (get_or order k 0)) parent there in
    let before = turn.given.first.first k parent turn.within (row_there rows (get_or order k 0) parent told.1) in
    let j = before.0 in
    let less : j < k = omega (arith, before.1, length-take k order) in
    let is : get_or order j 0 ≡ parent = sym (get_or-take k order j 0 less)
    ∙ get_or_default (take k order) j 0 parent before.1 ∙ before.2 in
    let place : get_or places parent 0 ≡ j = (λ i. get_or places (sym is i) 0)
    ∙ turn.placed j (omega (arith, less, turn.within)) in
    let count : length lists ≡ k = ap (λ (all : List (List ℕ)). length all) turn.known
    ∙ length-map (take k order) (λ concept. numbers_where (length order) (reaches rows concept))
    ∙ omega (arith, length-take k order, turn.within) in record {
      near = omega (arith, told.0, turn.len);
      early = omega (arith, place, less, count);
      list = (λ i. list_of lists (place i))
          ∙ ap (λ (all : List (List ℕ)). list_of all j) turn.known
          ∙ get_or-map (λ concept. numbers_where (length order) (reaches rows concept)) (take k order) j 0 []
          (omega (arith, less, length-take k order, turn.within))
          ∙ (λ i. numbers_where (length order) (reaches rows ((get_or-take k order j 0 less ∙ is) i)));
    }

-- ---- what is gathered for a concept: its parents, each with its list
-- each number that is gathered for concept `k` is an ancestor of it
gathered_told : {rows : List (ℕ × ℕ)} {parents : List (List ℕ)} {order places : List ℕ} {lists : List (List ℕ)} {k : ℕ}
    → Turn rows parents order places lists k
    → (d : ℕ) → has (gathered_by places lists (numbers_where (length order) (is_child rows (get_or order k 0))))
    d ≡ true → (d < length order) × Reaches rows (get_or order k 0) d
gathered_told {rows} {parents} {order} {places} {lists} {k} turn d told =
    let count = length order in
    let concept = get_or order k 0 in
    let found = joined_there (λ c. c ∷ list_of lists (get_or places c 0)) (numbers_where count (is_child rows concept))
    d told in
    let parent = found.0 in
    let child = there_where count (is_child rows concept) parent found.1 in
    let row = row_there rows concept parent child.1 in
    let placed = parent_placed turn parent found.1 in
    ⊎_elim
    (λ (same : (parent == d) ≡ true). let is = eqb-true parent d same in
    (omega (arith, child.0, is), subst (λ (n : ℕ). Reaches rows concept n) is (one_row row)))
    (λ (above : has (list_of lists (get_or places parent 0)) d ≡ true).
    let there = there_where count (reaches rows parent) d
    (contains_had (numbers_where count (reaches rows parent)) d
    (ap (λ (xs : List ℕ). has xs d) (sym placed.list) ∙ above)) in
    (there.0, more_rows row (chain_from_test rows parent d there.1)))
    (or_cases (parent == d) (has (list_of lists (get_or places parent 0)) d) found.2)

-- each ancestor of concept `k` is gathered for it
told_gathered : {rows : List (ℕ × ℕ)} {parents : List (List ℕ)} {order places : List ℕ} {lists : List (List ℕ)} {k : ℕ}
    → Turn rows parents order places lists k
    → (concept d : ℕ) → concept ≡ get_or order k 0 → d < length order → Reaches rows concept d
    → has (gathered_by places lists (numbers_where (length order) (is_child rows (get_or order k 0)))) d ≡ true
told_gathered {rows} {parents} {order} {places} {lists} {k} turn concept d is below (one_row row) =
    let count = length order in
    let there = where_there count (is_child rows (get_or order k 0)) d below
    (there_row rows (get_or order k 0) d (subst (λ (c : ℕ). Contains rows (c, d)) is row)) in
    there_joined (λ c. c ∷ list_of lists (get_or places c 0)) (numbers_where count (is_child rows (get_or order k 0))) d
    d there
    (or_left (d == d) (has (list_of lists (get_or places d 0)) d) (eq-eqb d d refl))
told_gathered {rows} {parents} {order} {places} {lists} {k} turn concept d is below
    (more_rows {parent = parent} row rest) =
    let count = length order in
    let own : Contains rows (get_or order k 0, parent) = subst (λ (c : ℕ). Contains rows (c, parent)) is row in
    let near = (All-contains (λ (row : ℕ × ℕ). (row.0 < count) × (row.1 < count)) rows (get_or order k 0, parent)
    turn.given.within own).1 in
    let there = where_there count (is_child rows (get_or order k 0)) parent near
    (there_row rows (get_or order k 0) parent own) in
    let placed = parent_placed turn parent there in
    there_joined (λ c. c ∷ list_of lists (get_or places c 0)) (numbers_where count (is_child rows (get_or order k 0))) d
    parent there
    (or_right (parent == d) (has (list_of lists (get_or places parent 0)) d)
    (ap (λ (xs : List ℕ). has xs d) placed.list ∙ has-numbers_where count (reaches rows parent) d below
    ∙ test_from_chain rows rest))

-- the parents of concept `k` of the order and the known lists of these, sorted without repeats, are the ancestors
-- of concept `k`
pub gathered_listed : {rows : List (ℕ × ℕ)} {parents : List (List ℕ)} {order places : List ℕ} {lists : List (List ℕ)}
    {k : ℕ} → Turn rows parents order places lists k
    → listed_numbers (length order) (gathered_by places lists (numbers_where (length order)
    (is_child rows (get_or order k 0)))) ≡ numbers_where (length order) (reaches rows (get_or order k 0))
gathered_listed {rows} {parents} {order} {places} {lists} {k} turn =
    numbers_where-agree (length order) (has (gathered_by places lists
    (numbers_where (length order) (is_child rows (get_or order k 0))))) (reaches rows (get_or order k 0))
    (λ d below. both_ways (has (gathered_by places lists (numbers_where (length order)
    (is_child rows (get_or order k 0)))) d) (reaches rows (get_or order k 0) d)
    (λ told. test_from_chain rows (gathered_told turn d told).1)
    (λ told. told_gathered turn (get_or order k 0) d refl below (chain_from_test rows (get_or order k 0) d told)))

-- the parents of concept `k` of the order and the items of their known lists are below the length of the order
pub gathered_below : {rows : List (ℕ × ℕ)} {parents : List (List ℕ)} {order places : List ℕ} {lists : List (List ℕ)}
    {k : ℕ} → Turn rows parents order places lists k
    → All (λ number. number < length order)
    (gathered_by places lists (numbers_where (length order) (is_child rows (get_or order k 0))))
gathered_below {rows} {parents} {order} {places} {lists} {k} turn i d within =
    let all = gathered_by places lists (numbers_where (length order) (is_child rows (get_or order k 0))) in
    (gathered_told turn (get_or all i d) (had_contained all (get_or all i d) (Contains-get_or all i d within))).0

-- ---- from the order to the numbers

-- the place of a concept in the order
pub record At (order places : List ℕ) (concept : ℕ) : Type 0 where
  -- the place
  pub place : ℕ
  -- the place is within the order
  pub within : place < length order
  -- the concept stands at the place
  pub is : get_or order place 0 ≡ concept
  -- `places` maps the concept to the place
  pub told : get_or places concept 0 ≡ place

-- each concept below the length of the order has a place in it
pub place_at : (rows : List (ℕ × ℕ)) (parents : List (List ℕ)) (order places : List ℕ) → AreParentsBy rows parents order
    → ((place : ℕ) → place < length order → get_or places (get_or order place 0) 0 ≡ place) → (concept : ℕ)
    → concept < length order → At order places concept
place_at rows parents order places given placed concept below =
    let there = (given.first.members concept).1 below in
    let is : get_or order there.0 0 ≡ concept = get_or_default order there.0 0 concept there.1 ∙ there.2 in record {
      place = there.0;
      within = there.1;
      is = is;
      told = (λ i. get_or places (sym is i) 0) ∙ placed there.0 there.1;
    }

-- if `lists` has the ancestors of each concept in the order of `order`, the lists at the concepts' places are the
-- ancestors of each concept by its number
pub lists_reordered : (rows : List (ℕ × ℕ)) (parents : List (List ℕ)) (order places : List ℕ) (lists : List (List ℕ))
    → AreParentsBy rows parents order → length places ≡ length order
    → ((place : ℕ) → place < length order → get_or places (get_or order place 0) 0 ≡ place)
    → lists ≡ map (λ concept. numbers_where (length order) (reaches rows concept)) order
    → map (λ place. list_of lists place) places ≡ lists_where (length order) (reaches rows)
lists_reordered rows parents order places lists given len placed known =
    same_lists (map (λ place. list_of lists place) places) (lists_where (length order) (reaches rows))
    (length-map places (λ place. list_of lists place) ∙ len ∙ sym (length-where (length order) (reaches rows)))
    (λ concept d within.
    let below : concept < length order = omega (arith, within, length-map places (λ place. list_of lists place), len) in
    let at = place_at rows parents order places given placed concept below in
    get_or_default (map (λ place. list_of lists place) places) concept d [] within
    ∙ get_or-map (λ place. list_of lists place) places concept 0 [] (omega (arith, below, len))
    ∙ (λ i. list_of lists (at.told i))
    ∙ ap (λ (all : List (List ℕ)). list_of all at.place) known
    ∙ get_or-map (λ concept. numbers_where (length order) (reaches rows concept)) order at.place 0 [] at.within
    ∙ (λ i. numbers_where (length order) (reaches rows (at.is i)))
    ∙ sym (list_of-where (length order) (reaches rows) concept below)
    ∙ get_or_default (lists_where (length order) (reaches rows)) concept [] d
    (omega (arith, below, length-where (length order) (reaches rows))))
