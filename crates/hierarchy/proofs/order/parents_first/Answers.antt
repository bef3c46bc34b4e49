use Rattle.std.proofs.Common.{◌≡◌, ◌<◌, ◌^◌, ◌∙◌, ℕ, List, ap, arith, length, refl}
use Rattle.std.proofs.lemmas.List.{length-map}
use Rattle.number_lists.specs.KeyedLists.{lists_by}
use Rattle.number_lists.proofs.KeyedLemmas.{length_by}
use Rattle.hierarchy.proofs.WayLemmas.{parents_below, order_fits, way_end, way_start, way_stuck, way_turn}
use Rattle.hierarchy.proofs.order.parents_first.Goals as goal

-- there are as many lists as concepts, so fewer than 2^32
few_lists : (count : ℕ) (rows : List (ℕ × ℕ)) {lists : List (List ℕ)}
    → lists ≡ lists_by count rows → count < 2 ^ 32 → length lists < 2 ^ 32
few_lists count rows {lists} is few = omega (arith, length_by count rows lists is)

-- the parents are below `count`
pub transposed-requires-clause-items : goal.transposed-requires-clause-items
transposed-requires-clause-items c =
    parents_below c.args.count c.args.rows.now c.in_ok-parents.parents c.requires.within c.in_ok-parents.ensures

-- there are fewer than 2^32 lists of parents to transpose
pub transposed-requires-clause-few : goal.transposed-requires-clause-few
transposed-requires-clause-few c = few_lists c.args.count c.args.rows.now c.in_ok-parents.ensures c.ranges.count.fits

-- there are fewer than 2^32 lists of parents to measure
pub lengths-requires : goal.lengths-requires
lengths-requires c = few_lists c.args.count c.args.rows.now c.in_ok-parents.ensures c.ranges.count.fits

-- there are fewer than 2^32 counts of open parents
pub roots-requires : goal.roots-requires
roots-requires c =
    omega (
      arith,
      ap (λ (xs : List ℕ). length xs) (c.as_slice.ensures.value ∙ c.in_ok-waiting.ensures),
      length-map c.in_ok-parents.parents (λ (xs : List ℕ). length xs),
      few_lists c.args.count c.args.rows.now c.in_ok-parents.ensures c.ranges.count.fits,
    )

-- at the start the order has the roots
pub loop-done-init : goal.loop-done-init
loop-done-init c = way_start c.in_ok-waiting.ensures c.in_ok-parents.ensures c.as_slice.ensures.value
    c.in_ok-order.ensures

-- the concept of the order has a list of children
pub of-requires : goal.of-requires
of-requires c = (way_turn c.loop-done.invariant (omega arith) c.in_ok-parents.ensures c.in_ok-children.ensures
    c.index-parent.ensures refl).0

-- each child of the concept has a count of open parents
pub release-requires-clause-within : goal.release-requires-clause-within
release-requires-clause-within c =
    (way_turn c.loop-done.invariant (omega arith) c.in_ok-parents.ensures c.in_ok-children.ensures
    c.index-parent.ensures c.of.ensures).1

-- each child waits at least as often as it is listed
pub release-requires-clause-waits : goal.release-requires-clause-waits
release-requires-clause-waits c =
    (way_turn c.loop-done.invariant (omega arith) c.in_ok-parents.ensures c.in_ok-children.ensures
    c.index-parent.ensures c.of.ensures).2

-- the order is not longer than `count`, so the distance from `done` to `count` gets less
pub loop-done-smaller : goal.loop-done-smaller
loop-done-smaller c = omega (arith, order_fits c.loop-done.invariant)

-- after the release of its children, the concept is done
pub loop-done-preserved : goal.loop-done-preserved
loop-done-preserved c = rw c.in_ok-release.ensures.1
    ((way_turn c.loop-done.invariant (omega arith) c.in_ok-parents.ensures c.in_ok-children.ensures
    c.index-parent.ensures c.of.ensures).3 _ _ c.in_ok-release.ensures.2)

-- if a concept still waits, some concept reaches itself
pub returns-in-Some-clause-cycle : goal.returns-in-Some-clause-cycle
returns-in-Some-clause-cycle c =
    way_stuck c.loop-done.invariant c.requires.within
    (omega arith) c.as_slice-2.ensures.value c.in-Some.field-0 c.in-Some.ensures.some

-- if no concept waits, the order has all concepts with parents first
pub returns-clause-order : goal.returns-clause-order
returns-clause-order c = way_end c.loop-done.invariant c.as_slice-2.ensures.value c.in-None.ensures.none
