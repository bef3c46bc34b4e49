use Rattle.std.proofs.Common.{ℕ, ◌≡◌, ◌<◌, ◌∙◌, List, length, get_or, map, ap, arith}
use Rattle.std.proofs.lemmas.List.{get_or_default, length-map}
use Rattle.std.proofs.lemmas.Result.{IfOk-weaker}
use Rattle.number_lists.specs.Rising.{numbers_where}
use Rattle.hierarchy.specs.Hierarchy.{reaches}
use Rattle.number_lists.specs.KeyedLists.{list_of}
use Rattle.ancestor_index.proofs.ClosureLemmas.{lists_reordered, order_below, place_at}
use Rattle.ancestor_index.proofs.closure.ancestor_lists.Goals as goal

-- the order has each concept once
pub places_in-requires-clause-once : goal.places_in-requires-clause-once
places_in-requires-clause-once c = c.requires.parents.1.first.once

-- each concept of the order is below its length
pub places_in-requires-clause-below : goal.places_in-requires-clause-below
places_in-requires-clause-below c =
    order_below c.requires.parents.0 c.args.parents.now c.args.order.now c.requires.parents.1

-- each concept's place in the order has a list
pub reordered-requires : goal.reordered-requires
reordered-requires c = λ concept d within.
    let order = c.args.order.now in
    let given = c.requires.parents.1 in
    let below : concept < length order =
    omega (arith, within, ap (λ (xs : List ℕ). length xs) c.as_slice-2.ensures.value, c.in_ok-places.ensures.len) in
    let at = place_at c.requires.parents.0 c.args.parents.now order c.in_ok-places.places.items given
    c.in_ok-places.ensures.places concept below in
    let read : get_or c.as_slice-2.result.now concept d ≡ at.place =
    get_or_default c.as_slice-2.result.now concept d 0 within
    ∙ ap (λ (xs : List ℕ). get_or xs concept 0) c.as_slice-2.ensures.value ∙ at.told in
    let count : length c.in_ok-by_place.by_place ≡ length order =
    ap (λ (lists : List (List ℕ)). length lists) (c.in_ok-by_place.ensures c.requires.parents.0 given)
    ∙ length-map order (λ concept. numbers_where (length order) (reaches c.requires.parents.0 concept)) in
    omega (arith, read, count, at.within)

-- the lists by place, taken by the places of the concepts, are the lists of ancestors
pub returns : goal.returns
returns c = λ rows given.
    c.in_ok-lists.ensures
    ∙ ap (map (λ place. list_of c.in_ok-by_place.by_place place)) c.as_slice-2.ensures.value
    ∙ lists_reordered rows c.args.parents.now c.args.order.now c.in_ok-places.places.items c.in_ok-by_place.by_place
    given (omega (arith, c.in_ok-places.ensures.len)) c.in_ok-places.ensures.places
    (c.in_ok-by_place.ensures rows given)
