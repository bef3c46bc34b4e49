-- The invariant of the search for an order with parents first, and the result at its end.
use Rattle.std.proofs.Common.{ℕ, zero, suc, ◌+◌, ◌-◌, ◌==◌, ◌≡◌, ◌≢◌, ◌≤◌, ◌<◌, ◌↔◌, ◌++◌, ◌∷◌, [], ◌∙◌, ⊎_elim, true}
use Rattle.std.proofs.Common.{false, List, length, get_or, take, drop, refl, sym, ap, subst, arith, length-append}
use Rattle.std.proofs.Common.{length-take, get_or-take, All, Contains, nat_eq, eq-eqb, ne_eqb, eqb-true}
use Rattle.std.proofs.Common.{take-append-drop, take-take, take_all}
use Rattle.std.specs.List.{IsDistinct}
use Rattle.std.specs.Cmp.{nat_eq_equiv}
use Rattle.std.proofs.lemmas.Bool.{cases_eq, cases_lt, cases_Bool, eqb-false}
use Rattle.std.proofs.lemmas.List.{get_or_read, get_or-append_right, get_or_append_left, get_or_default, get_or_past}
use Rattle.std.proofs.lemmas.List.{take_more, take-append-le}
use Rattle.std.proofs.Math.ListN.{get_or-map}
use Rattle.std.proofs.lemmas.List.Elements.{All-contains, Contains-append_left, Contains-append_right}
use Rattle.std.proofs.lemmas.List.Elements.{Contains-append_cases, Contains-get_or, Contains-push_cases}
use Rattle.std.proofs.lemmas.Map.Keys.{IsDistinct-push, IsDistinct-from_apart, apart_from_distinct}
use Rattle.std.proofs.lemmas.Map.Steps.{length-le_from_distinct_below}
use Rattle.hierarchy.specs.Hierarchy.{IsWithin, Reaches, more_rows, one_row}
use Rattle.number_lists.specs.Members.{has, times}
use Rattle.number_lists.specs.KeyedLists.{AreItemsBelow, items_of, lists_by, list_of, transposed, transposed_from}
use Rattle.hierarchy.specs.ParentsFirst.{IsParentsFirst}
use Rattle.hierarchy.specs.inside.Released.{AreRoots, IsReleased}
use Rattle.hierarchy.proofs.HierarchyLemmas.{chain_of_two}
use Rattle.number_lists.proofs.ListLemmas.{contained_cases, first_contained, rest_contained}
use Rattle.number_lists.proofs.KeyedLemmas.{items_of-append, length-lengths, length-lists_by, lengths, list_of-lists_by}
use Rattle.hierarchy.proofs.OrderLemmas.{all_done, counted, open_all, open_count, open_less, some_open, times-children}
use Rattle.number_lists.proofs.MemberLemmas.{any-has, contains_had, had_not, not_contained}

-- if there is a row from `child` to `parent`, `parent` is among the items of `child`
pub items_of-contained : (rows : List (ℕ × ℕ)) (child parent : ℕ) → Contains rows (child, parent)
    → Contains (items_of rows child) parent
items_of-contained [] child parent there = absurd (omega (arith, there.1))
items_of-contained (row ∷ rows) child parent there = ⊎_elim
    (λ (is : row ≡ (child, parent)). subst (λ r. Contains (items_of (r ∷ rows) child) parent) (sym is)
    (rw (eq-eqb child child refl) (first_contained parent (items_of rows child))))
    (λ later. subst (λ xs. Contains xs parent) (sym (items_of-append (row ∷ []) rows child))
    (Contains-append_right (items_of (row ∷ []) child) (items_of rows child) parent
    (items_of-contained rows child parent later)))
    (contained_cases row rows (child, parent) there)

-- if `parent` is among the items of `child`, there is a row from `child` to `parent`
pub contained_items_of : (rows : List (ℕ × ℕ)) (child parent : ℕ) → Contains (items_of rows child) parent
    → Contains rows (child, parent)
contained_items_of [] child parent there = absurd (omega (arith, there.1))
contained_items_of (row ∷ rows) child parent there = ⊎_elim
    (λ (own : (row.0 == child) ≡ true). ⊎_elim
    (λ (is : row.1 ≡ parent). (0, omega arith, λ i. (eqb-true row.0 child own i, is i)))
    (λ (later : Contains (items_of rows child) parent). rest_contained row rows (child, parent)
    (contained_items_of rows child parent later))
    (contained_cases row.1 (items_of rows child) parent (let own_there = rw own at there in own_there)))
    (λ (other : (row.0 == child) ≡ false). rest_contained row rows (child, parent)
    (contained_items_of rows child parent (let later = rw other at there in later)))
    (cases_Bool (row.0 == child))

-- an item among the first `few` of a list is among the first `more`, if `few` is at most `more`
longer : (xs : List ℕ) (few more x : ℕ) → few ≤ more → Contains (take few xs) x → Contains (take more xs) x
longer xs few more x le there =
    subst (λ ys. Contains ys x) (take-append-drop few (take more xs))
    (Contains-append_left _ (drop few (take more xs)) x (rw (take-take few more xs le) there))

-- in a list without repeats, no item is among the items before it
once_apart : (xs : List ℕ) (k : ℕ) → IsDistinct nat_eq xs → k < length xs → Contains (take k xs) (get_or xs k 0) → ⊥
once_apart xs k once within (j, below, is) =
    let less : j < k = omega (arith, below, length-take k xs) in
    eqb-false (get_or xs j 0) (get_or xs k 0) (apart_from_distinct nat_eq xs j k 0 once less within)
    (sym (get_or-take k xs j 0 less) ∙ get_or_default (take k xs) j 0 (get_or xs k 0) below ∙ is)

-- two lists without repeats that share no item are one list without repeats
distinct-append : (xs ys : List ℕ) → IsDistinct nat_eq xs → IsDistinct nat_eq ys
    → ((x : ℕ) → Contains xs x → Contains ys x → ⊥) → IsDistinct nat_eq (xs ++ ys)
distinct-append xs ys once more apart = IsDistinct-from_apart nat_eq (xs ++ ys) (λ i j d less below. ⊎_elim
    (λ (early : j < length xs). grind (
      arith,
      get_or_append_left,
      (apart_from_distinct nat_eq xs i j d once less early),
    ))
    (λ (late : length xs ≤ j). ⊎_elim
    (λ (early : i < length xs). rw (
      get_or_append_left xs ys d i early,
      get_or-append_right xs ys (length xs) j d refl late,
    ) (ne_eqb (get_or xs i d) (get_or ys (j - length xs) d)
    (λ same. apart (get_or xs i d) (Contains-get_or xs i d early)
    (rw same (Contains-get_or ys (j - length xs) d (omega (arith, length-append xs ys)))))))
    (λ (later : length xs ≤ i). grind (
      arith,
      get_or-append_right,
      length-append,
      (apart_from_distinct nat_eq ys (i - length xs) (j - length xs) d more),
    ))
    (cases_lt i (length xs)))
    (cases_lt j (length xs)))

-- the state of the search after the children of the first `done` concepts of the order are released; these concepts
-- are done
pub record OnWay (count : ℕ) (rows : List (ℕ × ℕ)) (done : ℕ) (waiting order : List ℕ) : Type 0 where
  -- each concept has its count of open parents
  pub long : length waiting ≡ count
  -- `done` is within the order
  pub past : done ≤ length order
  -- the count of a concept is the number of its parents that are not done
  pub left : (concept : ℕ)
      → get_or waiting concept 0 ≡ open_count (take done order) (list_of (lists_by count rows) concept)
  -- the order has exactly the concepts that wait for no parent
  pub members : (concept : ℕ) → Contains order concept ↔ ((concept < count) × (get_or waiting concept 0 ≡ 0))
  -- the order has no concept twice
  pub once : IsDistinct nat_eq order
  -- each parent of a concept in the order stands before it
  pub first : (place parent : ℕ) → place < length order → Contains rows (get_or order place 0, parent)
      → Contains (take place order) parent

-- a concept below `count` has a row to `parent` exactly if its list by `rows` has `parent`
listed : (count : ℕ) (rows : List (ℕ × ℕ)) (concept parent : ℕ) → concept < count
    → Contains rows (concept, parent) ↔ Contains (list_of (lists_by count rows) concept) parent
listed count rows concept parent below =
    rw (list_of-lists_by count rows concept below)
    (items_of-contained rows concept parent, contained_items_of rows concept parent)

-- if the order has the roots and no concept is done, `OnWay` holds
pub way_start : {count : ℕ} {rows : List (ℕ × ℕ)} {waiting order left : List ℕ} {parents : List (List ℕ)}
    → waiting ≡ lengths parents → parents ≡ lists_by count rows → left ≡ waiting
    → AreRoots (length left) left order → OnWay count rows 0 waiting order
way_start {count} {rows} {waiting} {order} lengths_is parents_is same roots =
    let counts : waiting ≡ lengths (lists_by count rows) = lengths_is ∙ ap lengths parents_is in
    let long : length waiting ≡ count = ap (λ (xs : List ℕ). length xs) counts ∙ length-lengths count rows in
    let number : (concept : ℕ) → get_or waiting concept 0 ≡ open_count [] (list_of (lists_by count rows) concept) =
    λ concept. ap (λ (xs : List ℕ). get_or xs concept 0) counts
    ∙ get_or-map (λ (xs : List ℕ). length xs) (lists_by count rows) concept []
    ∙ sym (open_all (list_of (lists_by count rows) concept)) in record {
      long = long;
      past = omega arith;
      left = number;
      members = rw (sym long, sym same) roots.members;
      once = roots.once;
      first = λ place parent within row.
          let both : (get_or order place 0 < length waiting) × (get_or waiting (get_or order place 0) 0 ≡ 0) =
          rw same at ((roots.members (get_or order place 0)).0 (Contains-get_or order place 0 within)) in
          let there = (listed count rows (get_or order place 0) parent (omega (arith, both.0, long))).0 row in
          absurd (omega (
            arith,
            both.1,
            number (get_or order place 0),
            open_all
                (list_of (lists_by count rows) (get_or order place 0)),
            there.1,
          ));
    }

module _ {count done : ℕ} {rows : List (ℕ × ℕ)} {waiting order : List ℕ} (way : OnWay count rows done waiting order)
  where
    -- the order has at most `count` concepts
    pub order_fits : length order ≤ count
    order_fits = length-le_from_distinct_below order count way.once
        (λ q told. ((way.members q).0 (contains_had order q (sym (any-has order q) ∙ told))).0)

    -- the next concept of the order is below `count`
    next_below : done < length order → get_or order done 0 < count
    next_below within = ((way.members (get_or order done 0)).0 (Contains-get_or order done 0 within)).0

    -- if the next concept is done, each concept waits for it no longer, once for each time that it is listed
    next_left : done < length order → (concept : ℕ)
        → open_count (take done order ++ get_or order done 0 ∷ []) (list_of (lists_by count rows) concept)
        + times concept (list_of (transposed count (lists_by count rows)) (get_or order done 0))
        ≡ get_or waiting concept 0
    next_left within concept =
        let next = get_or order done 0 in
        let less = open_less (take done order) next (list_of (lists_by count rows) concept)
        (had_not (take done order) next (once_apart order done way.once within)) in
        omega (arith, less, way.left concept, times-children count rows concept next (next_below within))

    -- if the children of the next concept are released, it is done
    way_step : (after added : List ℕ) → done < length order
        → IsReleased (list_of (transposed count (lists_by count rows)) (get_or order done 0)) waiting after added
        → OnWay count rows (done + 1) after (order ++ added)
    way_step after added within released =
        let left : (concept : ℕ)
        → get_or after concept 0
        ≡ open_count (take (done + 1) (order ++ added)) (list_of (lists_by count rows) concept) =
        let now = take-append-le (done + 1) order added (omega arith) ∙ take_more order done 0 within in
        λ concept. omega (
          arith,
          released.less concept,
          next_left within concept,
          ap (λ (done : List ℕ). open_count done (list_of (lists_by count rows) concept)) now,
        ) in
        let forth : (concept : ℕ) → Contains (order ++ added) concept
        → (concept < count) × (get_or after concept 0 ≡ 0) =
        λ concept there. ⊎_elim
        (λ (old : Contains order concept).
        let both = (way.members concept).0 old in (both.0, omega (arith, both.1, released.less concept)))
        (λ (new : Contains added concept).
        let both = (released.members concept).0 new in (
          ⊎_elim
              (λ (near : concept < length waiting). omega (arith, near, way.long))
              (λ (past : length waiting ≤ concept). absurd (omega (arith, both.0, get_or_past waiting concept 0 past)))
              (cases_lt concept (length waiting)),
          both.1,
        ))
        (Contains-append_cases order added concept there) in record {
          long = released.len ∙ way.long;
          past = omega (arith, length-append order added);
          left = left;
          members = λ concept. (
            forth concept,
            λ both. ⊎_elim
                (λ none. Contains-append_left order added concept ((way.members concept).1 (both.0, none)))
                (λ some. Contains-append_right order added concept ((released.members concept).1 (omega arith, both.1)))
                (cases_eq (get_or waiting concept 0) 0),
          );
          once = distinct-append order added way.once released.once
              (λ x old new. omega (arith, ((way.members x).0 old).1, ((released.members x).0 new).0));
          first = λ place other below row. ⊎_elim
              (λ (early : place < length order). rw (take-append-le place order added (omega arith))
              (way.first place other early (subst (λ (c : ℕ). Contains rows (c, other))
              (get_or_append_left order added 0 place early) row)))
              (λ (late : length order ≤ place).
              let concept = get_or (order ++ added) place 0 in
              let both = forth concept (Contains-get_or (order ++ added) place 0 below) in
              longer (order ++ added) (done + 1) place other (omega arith)
              (contains_had (take (done + 1) (order ++ added)) other
              (all_done (take (done + 1) (order ++ added)) (list_of (lists_by count rows) concept) other
              (sym (left concept) ∙ both.1) ((listed count rows concept other both.0).0 row))))
              (cases_lt place (length order));
        }

    -- the children of the next concept meet what `release` requires, and `OnWay` holds with this concept done after
    -- their release
    pub way_turn : {parent : ℕ} {list : List ℕ} {parents children : List (List ℕ)} → done < length order
        → parents ≡ lists_by count rows → children ≡ transposed count parents → parent ≡ get_or order done parent
        → list ≡ list_of children parent
        → (parent < length children) × All (λ child. child < length waiting) list
        × ((concept : ℕ) → times concept list ≤ get_or waiting concept 0)
        × ((after added : List ℕ) → IsReleased list waiting after added
        → OnWay count rows (done + 1) after (order ++ added))
    way_turn {parent} {list} {parents} within parents_is children_is parent_is list_is =
        let read : parent ≡ get_or order done 0 = get_or_read order done parent within parent_is 0 in
        let own : list ≡ list_of (transposed count (lists_by count rows)) (get_or order done 0) = list_is
        ∙ (λ i. list_of ((children_is ∙ ap (transposed count) parents_is) i) (read i)) in
        let wait : (concept : ℕ) → times concept list ≤ get_or waiting concept 0 =
        λ concept. omega (arith, next_left within concept, ap (times concept) own) in (
          omega (
            arith,
            read,
            next_below within,
            ap (λ (xs : List (List ℕ)). length xs) children_is,
            length-lists_by count
                (transposed_from 0 parents),
          ),
          (λ i d inside.
              let child = get_or list i d in
              grind (
                arith,
                ⊎_elim,
                cases_lt,
                (counted (λ x. x == child) list child (Contains-get_or list i d inside) (eq-eqb child child refl)),
                (wait child),
                (get_or_past waiting child 0),
              )),
          wait,
          (λ after added released. way_step after added within
              (subst (λ (xs : List ℕ). IsReleased xs waiting after added) own released)),
        )

    -- if no concept waits for a parent any more, the order has all concepts below `count`, parents before their
    -- children
    pub way_end : {left : List ℕ} → left ≡ waiting → ((concept : ℕ) → concept < length left → get_or left concept 0 ≡ 0)
        → IsParentsFirst count rows order
    way_end is none =
        let none : (concept : ℕ) → concept < length waiting → get_or waiting concept 0 ≡ 0 = rw is at none in
        record {
          once = way.once;
          members = λ concept. grind (arith, (way.members concept), (none concept), way.long);
          first = way.first;
        }

    -- if all concepts of the order are done, a concept outside it has a parent outside it
    stuck : IsWithin count rows → length order ≤ done → (concept : ℕ) → concept < count → has order concept ≡ false
        → (parent : ℕ) × Contains rows (concept, parent) × (parent < count) × (has order parent ≡ false)
    stuck within full concept below lost =
        let waits : get_or waiting concept 0 ≢ 0 =
        λ none. not_contained order concept lost ((way.members concept).1 (below, none)) in
        let all = ap (λ (done : List ℕ). open_count done (list_of (lists_by count rows) concept))
        (take_all done order full) in
        let found = some_open order (list_of (lists_by count rows) concept)
        (omega (arith, waits, all, way.left concept)) in
        let row = (listed count rows concept found.0 below).1 found.1 in (
          found.0,
          row,
          (All-contains (λ (row : ℕ × ℕ). (row.0 < count) × (row.1 < count)) rows (concept, found.0) within
              row).1,
          found.2,
        )

    -- a path of concepts outside the order, each a child of the next, ends in a concept that reaches itself
    chain : IsWithin count rows → length order ≤ done → (steps : ℕ) (path : List ℕ) (concept : ℕ)
        → length path + steps ≡ count + 1 → IsDistinct nat_eq path
        → ((q : ℕ) → Contains path q → (q < count) × Reaches rows q concept)
        → concept < count → has order concept ≡ false → (cyclic : ℕ) × (cyclic < count) × Reaches rows cyclic cyclic
    chain within full zero path concept long once reach near lost =
        absurd (omega (
          arith,
          long,
          length-le_from_distinct_below path count once
              (λ q told. (reach q (contains_had path q (sym (any-has path q) ∙ told))).0),
        ))
    chain within full (suc steps) path concept long once reach near lost = ⊎_elim
        (λ (seen : has path concept ≡ true). (concept, near, (reach concept (contains_had path concept seen)).1))
        (λ (new : has path concept ≡ false).
        let next = stuck within full concept near lost in
        chain within full steps (path ++ concept ∷ []) next.0 (omega (arith, long, length-append path (concept ∷ [])))
        (IsDistinct-push nat_eq_equiv path concept once (any-has path concept ∙ new))
        (λ q there. ⊎_elim
        (λ (old : Contains path q). ((reach q old).0, chain_of_two (reach q old).1 (one_row next.1)))
        (λ (same : concept ≡ q). subst (λ (c : ℕ). (c < count) × Reaches rows c next.0) same (near, one_row next.1))
        (Contains-push_cases path concept q there))
        next.2 next.3)
        (cases_Bool (has path concept))

    -- if all concepts of the order are done and some concept still waits for a parent, some concept reaches itself
    pub way_stuck : {left : List ℕ} → IsWithin count rows → length order ≤ done → left ≡ waiting → (concept : ℕ)
        → (concept < length left) × (0 < get_or left concept 0)
        → (cyclic : ℕ) × (cyclic < count) × Reaches rows cyclic cyclic
    unfolding IsDistinct
    way_stuck within full is concept found =
        let found : (concept < length waiting) × (0 < get_or waiting concept 0) = rw is at found in
        chain within full (count + 1) [] concept (omega arith) tt (λ q there. absurd (omega (arith, there.1)))
        (omega (arith, found.0, way.long))
        (had_not order concept (λ there. absurd (omega (arith, found.1, ((way.members concept).0 there).1))))

-- if both ends of each row are below `count`, so are all parents in the lists by child
pub parents_below : (count : ℕ) (rows : List (ℕ × ℕ)) (lists : List (List ℕ)) → IsWithin count rows
    → lists ≡ lists_by count rows → AreItemsBelow count lists
parents_below count rows lists within is k d below j e inside =
    let near : k < count = omega
    (arith, below, ap (λ (xs : List (List ℕ)). length xs) is, length-lists_by count rows) in
    let list : get_or lists k d ≡ items_of rows k = get_or_default lists k d [] below
    ∙ ap (λ (xs : List (List ℕ)). get_or xs k []) is ∙ list_of-lists_by count rows k near in
    let row = contained_items_of rows k (get_or (get_or lists k d) j e)
    (subst (λ (xs : List ℕ). Contains xs (get_or (get_or lists k d) j e)) list
    (Contains-get_or (get_or lists k d) j e inside)) in
    (All-contains (λ (row : ℕ × ℕ). (row.0 < count) × (row.1 < count)) rows (k, get_or (get_or lists k d) j e) within
    row).1

-- in an order with parents first, a chain of rows leads from each concept to an earlier one
climbs : {rows : List (ℕ × ℕ)} {child ancestor count : ℕ} (order : List ℕ) → IsParentsFirst count rows order
    → Reaches rows child ancestor → (k : ℕ) → k < length order → get_or order k 0 ≡ child
    → Contains (take k order) ancestor
climbs {rows} {child} {ancestor} order first (one_row row) k within is =
    first.first k ancestor within (subst (λ (c : ℕ). Contains rows (c, ancestor)) (sym is) row)
climbs {rows} {child} {ancestor} order first (more_rows {parent = parent} row rest) k within is =
    let there = first.first k parent within (subst (λ (c : ℕ). Contains rows (c, parent)) (sym is) row) in
    let less : there.0 < k = omega (arith, there.1, length-take k order) in
    longer order there.0 k ancestor (omega arith)
    (climbs order first rest there.0 (omega arith)
    (sym (get_or-take k order there.0 0 less) ∙ get_or_default (take k order) there.0 0 parent there.1 ∙ there.2))

-- in an order with parents first no concept reaches itself
pub ordered_acyclic : (count : ℕ) (rows : List (ℕ × ℕ)) (order : List ℕ) → IsParentsFirst count rows order
    → (concept : ℕ) → concept < count → Reaches rows concept concept → ⊥
ordered_acyclic count rows order first concept below round =
    let there = (first.members concept).1 below in
    let is : get_or order there.0 0 ≡ concept = get_or_default order there.0 0 concept there.1 ∙ there.2 in
    once_apart order there.0 first.once there.1 (rw is (climbs order first round there.0 there.1 is))
