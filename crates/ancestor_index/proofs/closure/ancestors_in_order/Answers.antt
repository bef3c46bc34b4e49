use Rattle.std.proofs.Common.{ℕ, ◌≡◌, ◌<◌, ◌++◌, ◌∷◌, [], ◌∙◌, List, length, get_or, map, sym, subst, ap, arith}
use Rattle.std.specs.Prelude.{All, Contains}
use Rattle.std.proofs.lemmas.List.{take_all}
use Rattle.std.proofs.lemmas.List.Elements.{All-nil, Contains-get_or}
use Rattle.number_lists.specs.KeyedLists.{AreItemsBelow}
use Rattle.number_lists.specs.Rising.{IsRisingBelow, listed_numbers, numbers_where}
use Rattle.number_lists.proofs.RisingLemmas.{numbers_where-rising}
use Rattle.hierarchy.specs.Hierarchy.{reaches}
use Rattle.ancestor_index.specs.HierarchyLists.{is_child}
use Rattle.ancestor_index.proofs.ClosureLemmas.{Turn, gathered_listed, length-where, order_below, own_parents}
use Rattle.ancestor_index.proofs.ClosureLemmas.{parent_placed}
use Rattle.ancestor_index.specs.inside.Gathered.{AreRisingBelow, gathered_by}
use Rattle.ancestor_index.specs.Wide.{AreWide}
use Rattle.ancestor_index.proofs.GatherLemmas.{items_more, rising_more, where_below}
use Rattle.ancestor_index.proofs.ListLemmas.{map_more}
use Rattle.ancestor_index.proofs.closure.ancestors_in_order.Goals as goal

-- the concept of the order has a list of parents
pub of-requires : goal.of-requires
of-requires c =
    let order = c.args.order.now in
    let given = c.requires.parents.1 in
    omega (
      arith,
      order_below c.requires.parents.0 c.args.parents.now order given c.loop-concept.concept-index 0
          c.loop-concept-test.true,
      ap (λ (all : List (List ℕ)). length all) given.lists,
      length-where (length order) (is_child c.requires.parents.0),
    )

-- each parent of the concept is below `count` and has a place whose list is known
pub join-requires-clause-concepts : goal.join-requires-clause-concepts
join-requires-clause-concepts c = λ i d inside.
    let order = c.args.order.now in
    let rows = c.requires.parents.0 in
    let given = c.requires.parents.1 in
    let turn : Turn rows c.args.parents.now order c.args.places.now c.loop-concept.lists c.loop-concept.concept-index =
    record {
      given = given;
      len = c.requires.len;
      placed = c.requires.places;
      within = c.loop-concept-test.true;
      known = c.loop-concept.invariant.known rows given;
    } in
    let own : c.of.result.now
    ≡ numbers_where (length order) (is_child rows (get_or order c.loop-concept.concept-index 0)) =
    c.of.ensures ∙ own_parents turn in
    let placed = parent_placed turn (get_or c.of.result.now i d)
    (subst (λ (xs : List ℕ). Contains xs (get_or c.of.result.now i d)) own
    (Contains-get_or c.of.result.now i d inside)) in
    (omega (arith, placed.near, c.requires.len), placed.near, placed.early)

-- the lists so far rise
pub join-requires-clause-rising : goal.join-requires-clause-rising
join-requires-clause-rising c = c.loop-concept.invariant.rising

-- the items of the lists so far are below `count`
pub join-requires-clause-items : goal.join-requires-clause-items
join-requires-clause-items c = c.loop-concept.invariant.items

-- the long ones of the lists so far are kept as words
pub join-requires-clause-wide : goal.join-requires-clause-wide
join-requires-clause-wide c = c.loop-concept.invariant.wide

-- the joined numbers are below `count`
pub push-requires : goal.push-requires
push-requires c =
    where_below (length c.args.order.now) _ c.as_slice.result.now (c.as_slice.ensures.value ∙ c.in_ok-join.ensures)

-- the joined numbers are the ancestors of the concept, so one concept more has its list
pub loop-concept-preserved : goal.loop-concept-preserved
loop-concept-preserved c =
    let order = c.args.order.now in
    let count = length order in
    let k = c.loop-concept.concept-index in
    let list = c.as_slice-in-loop-concept.result.now in
    let below : All (λ item. item < count) list =
    where_below count _ list (c.as_slice-in-loop-concept.ensures.value ∙ c.in_ok-join.ensures) in
    let same = c.as_slice.ensures.value ∙ sym c.as_slice-in-loop-concept.ensures.value in
    record {
      known = λ rows given.
          let concept = get_or order k 0 in
          let turn : Turn rows c.args.parents.now order c.args.places.now c.loop-concept.lists k =
          record {
            given = given;
            len = c.requires.len;
            placed = c.requires.places;
            within = c.loop-concept-test.true;
            known = c.loop-concept.invariant.known rows given;
          } in
          let own : c.of.result.now ≡ numbers_where count (is_child rows concept) = c.of.ensures ∙ own_parents turn in
          let made : c.as_slice-in-loop-concept.result.now ≡ numbers_where count (reaches rows concept) =
          c.as_slice-in-loop-concept.ensures.value
          ∙ c.in_ok-join.ensures
          ∙ ap (λ (concepts : List ℕ). listed_numbers count
          (gathered_by c.args.places.now c.loop-concept.lists concepts)) own
          ∙ gathered_listed turn in
          c.in_ok-push_list.ensures
          ∙ (λ i. c.loop-concept.invariant.known rows given i ++ made i ∷ [])
          ∙ sym (map_more (λ concept. numbers_where count (reaches rows concept)) order k 0 c.loop-concept-test.true);
      rising = subst (AreRisingBelow count) (sym c.in_ok-push_list.ensures)
          (rising_more count c.loop-concept.lists list c.loop-concept.invariant.rising
          (subst (IsRisingBelow count) (sym (c.as_slice-in-loop-concept.ensures.value ∙ c.in_ok-join.ensures))
          (numbers_where-rising count _)));
      items = subst (AreItemsBelow count) (sym c.in_ok-push_list.ensures)
          (items_more count c.loop-concept.lists list c.loop-concept.invariant.items below);
      wide = subst (λ (lists : List (List ℕ)). AreWide count lists c.push.new.self.ends.items
          c.push.new.self.words.items) (sym c.in_ok-push_list.ensures)
          (subst (λ (pushed : List ℕ). AreWide count (c.loop-concept.lists ++ pushed ∷ []) c.push.new.self.ends.items
          c.push.new.self.words.items) same
          (c.in_ok-push.ensures c.loop-concept.lists c.loop-concept.invariant.wide));
    }

-- before the first concept there is no list
pub loop-concept-init : goal.loop-concept-init
loop-concept-init c = record {
  known = λ rows given. c.in_ok-lists.ensures;
  rising = subst (AreRisingBelow (length c.args.order.now)) (sym c.in_ok-lists.ensures)
      (All-nil (λ (list : List ℕ). IsRisingBelow (length c.args.order.now) list));
  items = subst (AreItemsBelow (length c.args.order.now)) (sym c.in_ok-lists.ensures)
      (All-nil (λ (items : List ℕ). All (λ item. item < length c.args.order.now) items));
  wide = subst (λ (lists : List (List ℕ)). AreWide
      (length c.args.order.now) lists c.in_ok-wide.wide.ends.items c.in_ok-wide.wide.words.items)
      (sym c.in_ok-lists.ensures)
      (c.in_ok-wide.ensures (length c.args.order.now));
}

-- after the last concept each concept of the order has its list
pub returns : goal.returns
returns c = λ rows given.
    c.loop-concept.invariant.known rows given
    ∙ ap (map (λ concept. numbers_where (length c.args.order.now) (reaches rows concept)))
    (take_all c.loop-concept.concept-index c.args.order.now (omega arith))
