-- What one pass over the is-a rows finds, in which each concept has its turn before those that are one is-a row away.
use Rattle.std.proofs.Common.{ℕ, zero, suc, ◌≡◌, ◌==◌, ◌<◌, [], ◌∷◌, ◌≤◌, ◌+◌, ◌-◌, ◌∙◌, true, false, not, Bool, ◌&&◌}
use Rattle.std.proofs.Common.{◌||◌, List, length, get_or, map, take, inl, inr, refl, sym, ap, subst, arith}
use Rattle.std.specs.Prelude.{Contains, nat_eq}
use Rattle.std.specs.List.{concat, list_all, list_any}
use Rattle.std.specs.List.Sorted.{IsStrictlyIncreasing}
use Rattle.std.proofs.lemmas.Bool.{and_parts, cases_eq, eq-eqb, eqb-false, eqb-true, false≢true, or_cases, or_left}
use Rattle.std.proofs.lemmas.Bool.{or_right}
use Rattle.std.proofs.lemmas.List.{get_or-take, get_or_default, length-take}
use Rattle.std.proofs.lemmas.List.Elements.{Contains-get_or}
use Rattle.std.proofs.lemmas.Map.Keys.{apart_from_distinct}
use Rattle.std.proofs.lemmas.Map.Steps.{length-le_from_distinct_below}
use Rattle.release_model.specs.Release.{Release}
use Rattle.hierarchy.specs.Hierarchy.{IsWithin, Reaches, more_rows, one_row}
use Rattle.hierarchy.specs.ParentsFirst.{IsParentsFirst}
use Rattle.number_lists.specs.KeyedLists.{list_of}
use Rattle.hierarchy.proofs.HierarchyLemmas.{chain_from_test}
use Rattle.held_release.specs.Numbering.{row_of_numbers}
use Rattle.number_lists.proofs.ListLemmas.{passing_item, some_item_passes, both_ways}
use Rattle.number_lists.specs.Rising.{IsRisingBelow}
use Rattle.idset.specs.Sets.{all_items}
use Rattle.number_lists.specs.Members.{has}
use Rattle.ancestor_index.specs.HierarchyLists.{Hierarchy, is_child}
use Rattle.ancestor_index.proofs.BuildLemmas.{same_child, same_reach}
use Rattle.number_lists.proofs.MemberLemmas.{contains_had, had_contained}
use Rattle.ancestor_index.proofs.ClosureLemmas.{row_there, there_row}
use Rattle.reading.specs.Counted.{CountsWithin, HandsOut}
use Rattle.reading.specs.Orders.{IsOrderOf}
use Rattle.reading.specs.declared.counter.Counter.{Counter}
use Rattle.reading.proofs.CountLemmas.{counted_both, counted_out}
use Rattle.walks.specs.inside.Counts.{pass_items}
use Rattle.walks.specs.inside.Joined.{AreJoined, is_whole, direct_of, turn_of}
use Rattle.walks.specs.Related.{IsOf, IsOver}
use Rattle.walks.specs.Families.{lists_of}
use Rattle.walks.specs.declared.family.Family.{Family}
use Rattle.walks.specs.declared.family.Family.TheVariants as family
use Rattle.number_lists.proofs.RisingLemmas.{all_below}
use Rattle.walks.proofs.JoinedLemmas.{has_all, listed_stands, direct_stands, over_length, over_rising, over_whole}
use Rattle.walks.proofs.JoinedLemmas.{stands}
use Rattle.walks.proofs.JoinedLemmas.{stands_listed}

-- if all numbers in `found` are items, each of them is
all_have : (items found : List ℕ) → list_all (has items) found ≡ true → (n : ℕ) → has found n ≡ true
    → has items n ≡ true
all_have items [] all n there = absurd (false≢true there)
all_have items (x ∷ xs) all n there =
    let both = and_parts (has items x) (list_all (has items) xs) all in
    elim (or_cases (x == n) (has xs n) there) [
      | inl here ↦ subst (λ (m : ℕ). has items m ≡ true) (eqb-true x n here) both.0
      | inr later ↦ all_have items xs both.1 n later
    ]

-- what a pass that starts from `items` has found before step `turn`; `at` gives the concept that each step visits
pub record IsPassed (lists direct : List (List ℕ)) (at : ℕ → ℕ) (turn : ℕ) (items found : List ℕ) : Type 0 where
  -- each number that was found is in the list of an item
  pub sound : (n : ℕ) → has found n ≡ true → list_any (λ concept. has (list_of lists concept) n) items ≡ true
  -- if the concept of an earlier step is an item or was found, everything in its direct list was found
  pub full : (j : ℕ) → j < turn → (has items (at j) || has found (at j)) ≡ true
      → (n : ℕ) → has (list_of direct (at j)) n ≡ true → has found n ≡ true
  -- everything in the direct list of an item was found
  pub own : (concept : ℕ) → has items concept ≡ true → (n : ℕ) → has (list_of direct concept) n ≡ true
      → has found n ≡ true

-- each step of a pass visits a place that is below the number of steps
pub turn_within : (turns : ℕ) (f : Family) (turn : ℕ) → turn < turns → turn_of f turns turn < turns
turn_within turns family.Ancestors turn inside = omega arith
turn_within turns family.Descendants turn inside = inside
turn_within turns family.Parents turn inside = omega arith
turn_within turns family.Children turn inside = inside

-- an order has no more items than there are concepts
order_few : (count : ℕ) (rows : List (ℕ × ℕ)) (order : List ℕ) → IsParentsFirst count rows order → length order ≤ count
order_few count rows order first = length-le_from_distinct_below order count first.once
    (λ concept there. (first.members concept).0 (contains_had order concept (swapped concept order there)))
  where
    swapped : (concept : ℕ) (numbers : List ℕ) → list_any (nat_eq concept) numbers ≡ true → has numbers concept ≡ true
    swapped concept [] there = there
    swapped concept (number ∷ numbers) there =
        elim (or_cases (nat_eq concept number) (list_any (nat_eq concept) numbers) there) [
          | inl here ↦ or_left (number == concept) (has numbers concept)
              (eq-eqb number concept (sym (eqb-true concept number here)))
          | inr later ↦ or_right (number == concept) (has numbers concept) (swapped concept numbers later)
        ]

-- a pass that reads all is-a links and the order counts at most `pass_items`
pub pass_counted : (release : Release) (hierarchy : Hierarchy) (bound : ℕ)
    (order : List ℕ) {early between late : Counter}
    → bound ≡ length release.concepts → IsOrderOf release order
    → HandsOut (length (concat hierarchy.parents)) early between
    → HandsOut (length order) between late → CountsWithin (pass_items hierarchy bound) early late
pass_counted release hierarchy bound order counted is links concepts =
    counted_both {first = length (concat hierarchy.parents)} {second = length order} (counted_out links (omega arith))
    (counted_out concepts (omega arith))
    (omega (arith, counted, order_few (length release.concepts) is.rows order is.first))

module _ (release : Release) (order : List ℕ) (rising : IsStrictlyIncreasing release.concepts)
    (is_order : IsOrderOf release order) where
  abbrev rows : List (ℕ × ℕ)
  rows = is_order.rows

  abbrev within : IsWithin (length release.concepts) rows
  within = is_order.within

  abbrev are : map (row_of_numbers release.concepts) rows ≡ release.isa
  are = is_order.rows_are

  abbrev first : IsParentsFirst (length release.concepts) rows order
  first = is_order.first

  abbrev count : ℕ
  count = length release.concepts

  abbrev turns : ℕ
  turns = length order

  -- the concept of a turn
  abbrev pub at : Family → ℕ → ℕ
  at f turn = get_or order (turn_of f turns turn) 0

  -- each step of a pass visits the number of a concept
  pub at_below : (f : Family) (turn : ℕ) → turn < turns → at f turn < count
  at_below f turn inside =
      (first.members (at f turn)).0 (Contains-get_or order (turn_of f turns turn) 0 (turn_within turns f turn inside))

  -- each concept has its turn
  has_turn : (f : Family) → is_whole f ≡ true → (concept : ℕ) → concept < count → (turn : ℕ) × (turn < turns)
      × (at f turn ≡ concept)
  has_turn f whole concept below = by_family f whole ((first.members concept).1 below)
    where
      by_family : (f : Family) → is_whole f ≡ true → Contains order concept → (turn : ℕ) × (turn < turns)
          × (at f turn ≡ concept)
      by_family family.Ancestors whole there =
          let place = there.0 in
          let inside : place < turns = there.1 in
          let opposite : turns - ((turns - (place + 1)) + 1) ≡ place = omega (arith, inside) in (
            turns - (place + 1),
            omega (arith, inside),
            ap (λ (n : ℕ). get_or order n 0) opposite
                ∙ get_or_default order place 0 concept there.1 ∙ there.2,
          )
      by_family family.Descendants whole there =
          (there.0, there.1, get_or_default order there.0 0 concept there.1 ∙ there.2)
      by_family family.Parents whole there = absurd (false≢true whole)
      by_family family.Children whole there = absurd (false≢true whole)

  -- the item at place q is not among the first p items if p is at most q
  not_ahead : (p q : ℕ) → p ≤ q → q < turns → Contains (take p order) (get_or order q 0) → ⊥
  not_ahead p q before inside there =
      let i = there.0 in
      let less : i < p = omega (arith, there.1, length-take p order) in
      let same : get_or order i 0 ≡ get_or order q 0 =
      sym (get_or-take p order i 0 less) ∙ get_or_default (take p order) i 0 (get_or order q 0) there.1 ∙ there.2 in
      eqb-false (get_or order i 0) (get_or order q 0)
      (apart_from_distinct nat_eq order i q 0 first.once (omega (arith, less, before)) inside) same

  -- a concept that is one is-a row away from the concept of turn k had no earlier turn j
  no_turn_before : (f : Family) → is_whole f ≡ true → (j k : ℕ) → j < k → k < turns
      → stands release (direct_of f) (at f k) (at f j) ≡ true → ⊥
  no_turn_before family.Ancestors whole j k before inside direct =
      let row = row_there rows (at family.Ancestors k) (at family.Ancestors j)
      (same_child release.concepts rows release.isa rising within are (at family.Ancestors k) (at family.Ancestors j)
      (at_below family.Ancestors k inside) (at_below family.Ancestors j (omega (arith, before, inside))) ∙ direct) in
      not_ahead (turns - (k + 1)) (turns - (j + 1)) (omega (arith, before, inside)) (omega (arith, before, inside))
      (first.first (turns - (k + 1)) (at family.Ancestors j) (omega (arith, inside)) row)
  no_turn_before family.Descendants whole j k before inside direct =
      let row = row_there rows (at family.Descendants j) (at family.Descendants k)
      (same_child release.concepts rows release.isa rising within are (at family.Descendants j)
      (at family.Descendants k)
      (at_below family.Descendants j (omega (arith, before, inside))) (at_below family.Descendants k inside)
      ∙ direct) in
      not_ahead j k (omega (arith, before)) inside
      (first.first j (at family.Descendants k) (omega (arith, before, inside)) row)
  no_turn_before family.Parents whole j k before inside direct = absurd (false≢true whole)
  no_turn_before family.Children whole j k before inside direct = absurd (false≢true whole)

  module _ (bound : ℕ) (hierarchy : Hierarchy) (is_of : IsOf release bound hierarchy)
      (f : Family) (whole : is_whole f ≡ true) (items : List ℕ) (items_rise : IsRisingBelow bound items) where
    abbrev counted : bound ≡ count
    counted = is_of.count_is

    abbrev over : IsOver bound hierarchy
    over = record { release = release; hierarchy_is = is_of.hierarchy_is; count_is = counted }

    abbrev lists : List (List ℕ)
    lists = lists_of hierarchy f

    abbrev direct : List (List ℕ)
    direct = lists_of hierarchy (direct_of f)

    -- what the pass in family `f` has found before a turn
    abbrev pub Passed : ℕ → List ℕ → Type 0
    Passed turn found = IsPassed lists direct (at f) turn items found

    below : (turn : ℕ) → turn < turns → at f turn < bound
    below turn inside = omega (arith, at_below f turn inside, counted)

    -- what the direct list of `concept` has, its list has
    direct_listed : (concept n : ℕ) → concept < bound → has (list_of direct concept) n ≡ true
        → has (list_of lists concept) n ≡ true
    direct_listed concept n inside told =
        let stood = listed_stands bound hierarchy over (direct_of f) concept n inside told in
        stands_listed bound hierarchy over f concept n inside stood.0 (direct_stands release f concept n stood.1)

    -- the concept that a step visits has a direct list
    pub direct_there : (turn : ℕ) → turn < turns → at f turn < length direct
    direct_there turn inside = omega (arith, below turn inside, over_length bound hierarchy over (direct_of f))

    -- the direct list of the concept that a step visits rises
    pub direct_rises : (turn : ℕ) → turn < turns → IsRisingBelow bound (list_of direct (at f turn))
    direct_rises turn inside = over_rising bound hierarchy over (direct_of f) (at f turn) (below turn inside)

    -- if a concept is an item, or is found, what its direct list has is in the list of an item
    related_on : (found : List ℕ) → ((n : ℕ) → has found n ≡ true
        → list_any (λ concept. has (list_of lists concept) n) items ≡ true)
        → (concept n : ℕ) → concept < bound → (has items concept || has found concept) ≡ true
        → has (list_of direct concept) n ≡ true
        → list_any (λ concept. has (list_of lists concept) n) items ≡ true
    related_on found sound concept n inside told direct_told =
        elim (or_cases (has items concept) (has found concept) told) [
          | inl own ↦
              some_item_passes (λ c. has (list_of lists c) n) items concept (contains_had items concept own)
              (direct_listed concept n inside direct_told)
          | inr was ↦
              let from = passing_item (λ c. has (list_of lists c) concept) items (sound concept was) in
              let from_below : from.0 < bound = subst (λ (m : ℕ). m < bound) (from.1.2)
              (all_below bound items items_rise from.1.0 from.0 from.1.1) in
              some_item_passes (λ c. has (list_of lists c) n) items from.0 from.1
              (over_whole bound hierarchy over f whole from.0 concept n from_below inside from.2
              (direct_listed concept n inside direct_told))
        ]

    first_true : (one other : Bool) → (one && other) ≡ true → one ≡ true
    first_true true other both = refl
    first_true false other both = both

    -- if the concept that step `turn` visits was found and is not an item, adding its direct list to what was found
    -- keeps the invariant for the next step
    pub passed_on : (turn : ℕ) (found list next : List ℕ) → turn < turns → IsRisingBelow bound found
        → list ≡ list_of direct (at f turn)
        → next ≡ all_items bound found list → (has found (at f turn) && not (has items (at f turn))) ≡ true
        → Passed turn found → Passed (turn + 1) next
    passed_on turn found list next inside rises list_is next_is chosen passed = record {
      sound = λ n told. elim (or_cases (has found n) (has (list_of direct (at f turn)) n) (sym (grown n) ∙ told)) [
        | inl before ↦ passed.sound n before
        | inr now ↦ related_on found passed.sound (at f turn) n (below turn inside)
            (or_right (has items (at f turn)) (has found (at f turn))
            (first_true (has found (at f turn)) (not (has items (at f turn))) chosen)) now
      ];
      full = λ j less told n away. elim (cases_eq j turn) [
        | inl same ↦
            grown n ∙ or_right (has found n) (has (list_of direct (at f turn)) n)
            (subst (λ (m : ℕ). has (list_of direct (at f m)) n ≡ true) same away)
        | inr other ↦
            let before : j < turn = omega (arith, less, other) in
            grown n ∙ or_left (has found n) (has (list_of direct (at f turn)) n)
            (passed.full j before (still j before told) n away)
      ];
      own = λ concept there n away.
          grown n ∙ or_left (has found n) (has (list_of direct (at f turn)) n) (passed.own concept there n away);
    }
      where
        grown : (n : ℕ) → has next n ≡ (has found n || has (list_of direct (at f turn)) n)
        grown n =
            has_all bound found list next rises
            (subst (λ (xs : List ℕ). IsRisingBelow bound xs) (sym list_is) (direct_rises turn inside)) next_is n
            ∙ ap (λ (xs : List ℕ). has found n || has xs n) list_is

        -- a concept that had an earlier turn is not found now
        still : (j : ℕ) → j < turn → (has items (at f j) || has next (at f j)) ≡ true
            → (has items (at f j) || has found (at f j)) ≡ true
        still j before told = elim (or_cases (has items (at f j)) (has next (at f j)) told) [
          | inl own ↦ or_left (has items (at f j)) (has found (at f j)) own
          | inr was ↦ elim (or_cases (has found (at f j)) (has (list_of direct (at f turn)) (at f j))
              (sym (grown (at f j)) ∙ was)) [
                | inl then ↦ or_right (has items (at f j)) (has found (at f j)) then
                | inr now ↦ absurd (no_turn_before f whole j turn before inside
                    (listed_stands bound hierarchy over (direct_of f) (at f turn) (at f j) (below turn inside) now).1)
              ]
        ]

    -- if the concept that step `turn` visits was not found, or is an item, the invariant holds for the next step
    -- without a change
    pub passed_over : (turn : ℕ) (found : List ℕ) → (has found (at f turn) && not (has items (at f turn))) ≡ false
        → Passed turn found → Passed (turn + 1) found
    passed_over turn found not_chosen passed = record {
      sound = passed.sound;
      full = λ j less told n away. elim (cases_eq j turn) [
        | inl same ↦
            passed.own (at f j)
            (an_item (has items (at f j)) (has found (at f j)) told
            (subst (λ (m : ℕ). (has found (at f m) && not (has items (at f m))) ≡ false) (sym same) not_chosen)) n away
        | inr other ↦ passed.full j (omega (arith, less, other)) told n away
      ];
      own = passed.own;
    }
      where
        an_item : (item was : Bool) → (item || was) ≡ true → (was && not item) ≡ false → item ≡ true
        an_item true was told not_chosen = refl
        an_item false true told not_chosen = sym not_chosen
        an_item false false told not_chosen = told

    -- before the first step, the union of the direct lists of the items satisfies the invariant
    pub passed_first : (found : List ℕ) → AreJoined direct items found → Passed 0 found
    passed_first found joined = record {
      sound = λ n told.
          let from = passing_item (λ c. has (list_of direct c) n) items (sym (joined n) ∙ told) in
          let from_below : from.0 < bound = subst (λ (m : ℕ). m < bound) from.1.2
          (all_below bound items items_rise from.1.0 from.0 from.1.1) in
          some_item_passes (λ c. has (list_of lists c) n) items from.0 from.1
          (direct_listed from.0 n from_below from.2);
      full = λ j less. absurd (omega (arith, less));
      own = λ concept there n away.
          joined n ∙ some_item_passes (λ c. has (list_of direct c) n) items concept (contains_had items concept there)
          away;
    }

    -- after the last step, what was found is the union of the items' lists
    pub passed_all : (turn : ℕ) (found : List ℕ) → turns ≤ turn → Passed turn found → AreJoined lists items found
    passed_all turn found end passed n =
        both_ways (has found n) (list_any (λ concept. has (list_of lists concept) n) items) (passed.sound n) opposite
      where
        -- what is one is-a row away from a concept that is an item or found is found
        one_on : (concept m : ℕ) → concept < count → m < count → (has items concept || has found concept) ≡ true
            → stands release (direct_of f) concept m ≡ true → has found m ≡ true
        one_on concept m inside m_inside told away =
            let its = has_turn f whole concept inside in
            passed.full its.0 (omega (arith, its.1, end))
            (subst (λ (c : ℕ). (has items c || has found c) ≡ true) (sym its.2) told) m
            (ap (λ (c : ℕ). has (list_of direct c) m) its.2
            ∙ stands_listed bound hierarchy over (direct_of f) concept m (omega (arith, inside, counted))
            (omega (arith, m_inside, counted)) away)

        ends : {a b : ℕ} → Contains rows (a, b) → (a < count) × (b < count)
        ends {a} {b} there =
            subst (λ (row : ℕ × ℕ). (row.0 < count) × (row.1 < count)) there.2 (within there.0 (a, b) there.1)

        child : (a b : ℕ) → Contains rows (a, b) → is_child release.isa (get_or release.concepts a 0)
            (get_or release.concepts b 0) ≡ true
        child a b there =
            sym (same_child release.concepts rows release.isa rising within are a b (ends there).0 (ends there).1)
            ∙ there_row rows a b there

        up : f ≡ family.Ancestors → {a b : ℕ} → Reaches rows a b → (has items a || has found a) ≡ true
            → has found b ≡ true
        up above {a} {b} (one_row there) told =
            one_on a b (ends there).0 (ends there).1 told
            (ap (λ (g : Family). stands release (direct_of g) a b) above ∙ child a b there)
        up above {a} {b} (more_rows {parent = p} there chain) told =
            up above chain (or_right (has items p) (has found p)
            (one_on a p (ends there).0 (ends there).1 told
            (ap (λ (g : Family). stands release (direct_of g) a p) above ∙ child a p there)))

        down : f ≡ family.Descendants → {a b : ℕ} → Reaches rows a b → (has items b || has found b) ≡ true
            → has found a ≡ true
        down beneath {a} {b} (one_row there) told =
            one_on b a (ends there).1 (ends there).0 told
            (ap (λ (g : Family). stands release (direct_of g) b a) beneath ∙ child a b there)
        down beneath {a} {b} (more_rows {parent = p} there chain) told =
            one_on p a (ends there).1 (ends there).0 (or_right (has items p) (has found p) (down beneath chain told))
            (ap (λ (g : Family). stands release (direct_of g) p a) beneath ∙ child a p there)

        related : (g : Family) → f ≡ g → (concept : ℕ) → concept < count → n < count → has items concept ≡ true
            → stands release g concept n ≡ true
            → has found n ≡ true
        related family.Ancestors same concept inside n_inside own stood =
            up same (chain_from_test rows concept n
            (same_reach release.concepts rows release.isa rising within are concept n inside n_inside ∙ stood))
            (or_left (has items concept) (has found concept) own)
        related family.Descendants same concept inside n_inside own stood =
            down same (chain_from_test rows n concept
            (same_reach release.concepts rows release.isa rising within are n concept n_inside inside ∙ stood))
            (or_left (has items concept) (has found concept) own)
        related family.Parents same concept inside n_inside own stood =
            absurd (false≢true (ap is_whole (sym same) ∙ whole))
        related family.Children same concept inside n_inside own stood =
            absurd (false≢true (ap is_whole (sym same) ∙ whole))

        opposite : list_any (λ concept. has (list_of lists concept) n) items ≡ true → has found n ≡ true
        opposite told =
            let from = passing_item (λ c. has (list_of lists c) n) items told in
            let from_below : from.0 < bound = subst (λ (m : ℕ). m < bound) (from.1.2)
            (all_below bound items items_rise from.1.0 from.0 from.1.1) in
            let stood = listed_stands bound hierarchy over f from.0 n from_below from.2 in
            related f refl from.0 (omega (arith, from_below, counted)) (omega (arith, stood.0, counted))
            (had_contained items from.0 from.1) stood.1

    -- if the union of the direct lists of the items contains only items, it is also the union of their lists
    pub all_among : (found : List ℕ) → AreJoined direct items found → list_all (has items) found ≡ true
        → AreJoined lists items found
    all_among found joined among = passed_all turns found (omega arith) (passed_by turns)
      where
        inside : (n : ℕ) → (b : Bool) → has found n ≡ b → (b && not (has items n)) ≡ false
        inside n true there = ap not (all_have items found among n there)
        inside n false there = refl

        passed_by : (turn : ℕ) → Passed turn found
        passed_by zero = passed_first found joined
        passed_by (suc turn) =
            subst (λ (t : ℕ). Passed t found) (omega arith)
            (passed_over turn found (inside (at f turn) (has found (at f turn)) refl) (passed_by turn))
