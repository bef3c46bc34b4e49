use Rattle.std.proofs.Common.{◌+◌, ◌*◌, ◌++◌, ◌∙◌, IfOk, refl, subst, sym}
use Rattle.set_algebra.specs.Physical.{physical_of, physical_test_of, physical_groups_list_of, physicals_of}
use Rattle.plan_bounds.specs.Alternatives.{leaf_bound, leaf_size}
use Rattle.plan_bounds.specs.Bounds.{capped, values_bound}
use Rattle.plan_bounds.specs.Counts.{leaf_of}
use Rattle.plan_bounds.specs.Leaves.{group_count, plan_count}
use Rattle.plan_bounds.specs.Sizes.{group_sizes, sizes, total, values_size}
use Rattle.plan_bounds.proofs.ListLemmas.{at_within, capped_least, capped_product, closed_list, two_after}
use Rattle.plan_bounds.proofs.LoopLemmas.{list_end, list_turn, sizes_end, sizes_turn}
use Rattle.plan_bounds.proofs.PartLemmas.{group_count-parts, plan_count-parts, values_are}
use Rattle.planner.specs.inside.ListedNodes.{IsNode}
use Rattle.planner.proofs.ListedLemmas.{listed}
use Rattle.planner.proofs.bound_list.+list.Goals as goal

-- a turn that lists one plan of concepts keeps the invariants of the summary and the list
pub list_parts-loop-place-preserved : goal.list_parts-loop-place-preserved
list_parts-loop-place-preserved t c =
    let left = c.loop-place.invariant in
    let part = c.in_ok-part.ensures in
    record {
      sizes = sizes_turn left.sizes c.loop-place-test.true c.index-parts-place.is part.size c.with-summary.ensures;
      bounds = list_turn left.bounds c.loop-place-test.true c.index-parts-place.is part.bounds;
    }

-- at the end the list has the bounds of all plans of concepts, and the summary their sizes
pub list_parts-returns : goal.list_parts-returns
list_parts-returns t c = record {
  bounds = list_end c.loop-place.invariant.bounds c.loop-place-test.false;
  summary = sizes_end c.loop-place.invariant.sizes c.loop-place-test.false;
}

-- a turn that lists one plan of groups keeps the invariants of the summary and the list
pub list_group_parts-loop-place-preserved : goal.list_group_parts-loop-place-preserved
list_group_parts-loop-place-preserved t c =
    let left = c.loop-place.invariant in
    let part = c.in_ok-part.ensures in
    record {
      sizes = sizes_turn left.sizes c.loop-place-test.true c.index-parts-place.is part.size c.with-summary.ensures;
      bounds = list_turn left.bounds c.loop-place-test.true c.index-parts-place.is part.bounds;
    }

-- at the end the list has the bounds of all plans of groups, and the summary their sizes
pub list_group_parts-returns : goal.list_group_parts-returns
list_group_parts-returns t c = record {
  bounds = list_end c.loop-place.invariant.bounds c.loop-place-test.false;
  summary = sizes_end c.loop-place.invariant.sizes c.loop-place-test.false;
}

-- ---- a node whose sub-plans are listed
-- a plan of concepts lists its own bound and then those of its sub-plans
pub list-returns : goal.list-returns
list-returns t c =
    let node = c.in_ok-node.ensures in
    record {
      bounds = closed_list c.args.bounds.now.items c.closed.ensures.bounds node.bounds c.in_ok-at.ensures.bounds
          c.in_ok-at.ensures.at refl
          node.bound;
      size = c.closed.ensures.size ∙ node.size;
    }

-- the place that a plan of concepts kept free lies within the list
pub list-closed-requires : goal.list-closed-requires
list-closed-requires t c = at_within _ _ _ c.in_ok-at.ensures.at c.in_ok-at.ensures.bounds c.in_ok-node.ensures.bounds

-- a plan of groups lists its own bound and then those of its sub-plans
pub list_groups-returns : goal.list_groups-returns
list_groups-returns t c =
    let node = c.in_ok-node.ensures in
    record {
      bounds = closed_list c.args.bounds.now.items c.closed.ensures.bounds node.bounds c.in_ok-at.ensures.bounds
          c.in_ok-at.ensures.at refl
          node.bound;
      size = c.closed.ensures.size ∙ node.size;
    }

-- the place that a plan of groups kept free lies within the list
pub list_groups-closed-requires : goal.list_groups-closed-requires
list_groups-closed-requires t c =
    at_within _ _ _ c.in_ok-at.ensures.at c.in_ok-at.ensures.bounds c.in_ok-node.ensures.bounds

-- ---- the sub-plans of each kind of node
-- `list_values` lists the sub-plans of a `Values` node
pub list_after-returns-in-Values : goal.list_after-returns-in-Values
list_after-returns-in-Values t c =
    let given = c.args.bounds.now.items in
    let all = c.list_values.new.bounds.items in
    let is = values_are c.in-Values.start c.in-Values.names c.in-Values.is c.deref-in-Values.ensures
    c.deref-in-Values-2.ensures.value in
    subst (λ plan. IfOk c.list_values.result (λ node. IsNode c.args.lengths.indexes.now plan given all node))
    (sym is) c.list_values.ensures

-- an `Or` node of concepts lists its parts; its own bound is the total of their sizes for each part
pub list_or-returns : goal.list_or-returns
list_or-returns t c =
    let all = total (sizes c.args.lengths.indexes.now (physicals_of c.args.parts.now)) in
    let inner = c.in_ok-inner.ensures in
    let count = sym (plan_count-parts c.args.parts.now) in
    listed inner.bounds
    (c.cost_of_or-own.ensures.bound
    ∙ (λ i. capped (inner.summary.sum i * count i))
    ∙ capped_product all (plan_count (physicals_of c.args.parts.now)))
    (capped_least all c.cost_of_or-own.ensures.size inner.summary.sum c.concepts-all.ensures c.concepts-all.type_inv)

-- an `Or` node of groups lists its parts; its own bound is the total of their sizes for each part
pub list_groups_or-returns : goal.list_groups_or-returns
list_groups_or-returns t c =
    let all = total (group_sizes c.args.lengths.indexes.now (physical_groups_list_of c.args.parts.now)) in
    let inner = c.in_ok-inner.ensures in
    let count = sym (group_count-parts c.args.parts.now) in
    listed inner.bounds
    (c.cost_of_or-own.ensures.bound
    ∙ (λ i. capped (inner.summary.sum i * count i))
    ∙ capped_product all (group_count (physical_groups_list_of c.args.parts.now)))
    (capped_least all c.cost_of_or-own.ensures.size inner.summary.sum c.groups-all.ensures c.groups-all.type_inv)

-- a `Minus` node of concepts lists both parts; its own bound is the sum of their sizes
pub list_minus-returns : goal.list_minus-returns
list_minus-returns t c =
    let left = c.in_ok-left.ensures in
    let right = c.in_ok-right.ensures in
    listed (two_after _ _ _ right.bounds left.bounds)
    (c.cost_of_minus.ensures.bound ∙ (λ i. capped (left.size i + right.size i)))
    (c.cost_of_minus.ensures.size ∙ left.size)

-- a `Minus` node of groups lists both parts; its own bound is the sum of their sizes
pub list_groups_minus-returns : goal.list_groups_minus-returns
list_groups_minus-returns t c =
    let left = c.in_ok-left.ensures in
    let right = c.in_ok-right.ensures in
    listed (two_after _ _ _ right.bounds left.bounds)
    (c.cost_of_minus.ensures.bound ∙ (λ i. capped (left.size i + right.size i)))
    (c.cost_of_minus.ensures.size ∙ left.size)

-- a `Values` node lists its start and then its types, of which it has as many as names
pub list_values-returns : goal.list_values-returns
list_values-returns t c =
    let indexed = c.args.lengths.indexes.now in
    let from = c.in_ok-from.ensures in
    let count = sym (plan_count-parts c.args.names.now) in
    listed (two_after _ _ _ c.in_ok-types.ensures.bounds from.bounds)
    (c.cost_of_values-own.ensures.bound ∙ (λ i. capped (values_bound indexed (count i) (from.size i))))
    (c.cost_of_values-own.ensures.size ∙ (λ i. values_size indexed (count i) (from.size i)))

-- a leaf lists its types and then its test; its own bound follows from their sizes
pub list_pairs-returns : goal.list_pairs-returns
list_pairs-returns t c =
    let test = physical_test_of c.args.test.now in
    let types = physical_of c.args.types.now in
    let of_types = c.in_ok-of_types.ensures in
    let of_test = c.in_ok-of_test.ensures in
    let leaf = c.counts_of_leaf-leaf.ensures
    ∙ (λ i. leaf_of c.args.lengths.indexes.now c.args.all c.args.back c.args.count types test
    (of_types.size i) (of_test.size i)) in
    listed (two_after _ _ _ of_test.bounds of_types.bounds)
    (c.cost.ensures.bound ∙ (λ i. capped (leaf_bound (leaf i) c.args.choice)))
    (c.cost.ensures.size ∙ (λ i. leaf_size (leaf i) c.args.choice))
