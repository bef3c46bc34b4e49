use Rattle.std.proofs.Common.{ℕ, ◌≡◌, ◌==◌, ◌+◌, ◌*◌, ◌∙◌, false, sym, ap, arith}
use Rattle.set_algebra.specs.Physical.{Physical, PhysicalGroups, physical_of, physical_test_of, physical_groups_list_of}
use Rattle.set_algebra.specs.Physical.{physicals_of}
use Rattle.plan_bounds.specs.Alternatives.{leaf_bound, leaf_size, passed_over}
use Rattle.plan_bounds.specs.Bounds.{bound, capped, leaf_bound_at, own_number, values_bound}
use Rattle.plan_bounds.specs.Counts.{leaf_of}
use Rattle.plan_bounds.specs.Leaves.{group_count, plan_count}
use Rattle.plan_bounds.specs.Nodes.{group_sum, test_sum}
use Rattle.plan_bounds.specs.Sizes.{group_size, group_sizes, least_of, size, sizes, total, values_size}
use Rattle.plan_bounds.proofs.ListLemmas.{capped_least, capped_product, capped_three, capped_two}
use Rattle.plan_bounds.proofs.LoopLemmas.{sizes_end, sizes_turn, sum_end, sum_turn}
use Rattle.plan_bounds.proofs.PartLemmas.{and_are, and_group_plan_is, group_count-parts, minus_are, minus_group_plan_is}
use Rattle.plan_bounds.proofs.PartLemmas.{or_are}
use Rattle.plan_bounds.proofs.PartLemmas.{or_group_plan_is, pairs_are, pairs_group_plan_is, plan_count-parts}
use Rattle.plan_bounds.proofs.PartLemmas.{group_plan_is, values_are}
use Rattle.plan_bounds.proofs.costs.+cost.Goals as goal

-- a turn that takes the size and the bound of one part keeps the invariants of the summary and the sum
pub parts_cost-loop-place-preserved : goal.parts_cost-loop-place-preserved
parts_cost-loop-place-preserved t c =
    let left = c.loop-place.invariant in
    let part = c.cost-part.ensures in
    record {
      sizes = sizes_turn left.sizes c.loop-place-test.true c.index-parts-place.is part.size c.with-summary.ensures;
      sum = sum_turn left.sum c.loop-place-test.true c.index-parts-place.is part.bound c.saturating_add-bound.ensures;
    }

-- at the end the summary and the bound are those of all parts
pub parts_cost-returns : goal.parts_cost-returns
parts_cost-returns t c = record {
  summary = sizes_end c.loop-place.invariant.sizes c.loop-place-test.false;
  bound = sum_end c.loop-place.invariant.sum c.loop-place-test.false;
}

-- a turn that takes the size and the bound of one group plan keeps the invariants of the summary and the sum
pub group_parts_cost-loop-place-preserved : goal.group_parts_cost-loop-place-preserved
group_parts_cost-loop-place-preserved t c =
    let left = c.loop-place.invariant in
    let part = c.group_cost-part.ensures in
    record {
      sizes = sizes_turn left.sizes c.loop-place-test.true c.index-parts-place.is part.size c.with-summary.ensures;
      sum = sum_turn left.sum c.loop-place-test.true c.index-parts-place.is part.bound c.saturating_add-bound.ensures;
    }

-- at the end the summary and the bound are those of all group plans
pub group_parts_cost-returns : goal.group_parts_cost-returns
group_parts_cost-returns t c = record {
  summary = sizes_end c.loop-place.invariant.sizes c.loop-place-test.false;
  bound = sum_end c.loop-place.invariant.sum c.loop-place-test.false;
}

-- the size of a conjunction is the least of its parts, and its own bound is twice the total of their sizes
pub cost-returns-in-And : goal.cost-returns-in-And
cost-returns-in-And t c =
    let indexed = c.args.lengths.indexes.now in
    let parts = physicals_of c.deref-in-And.result.now in
    let inner = c.parts_cost-inner.ensures in
    let is = and_are c.in-And.parts c.in-And.is c.deref-in-And.ensures.value in
    record {
      size = c.with_parts-in-And.ensures.size
          ∙ c.cost_of_and.ensures.size
          ∙ inner.summary.least
          ∙ ap (λ (all : ℕ). least_of all (sizes indexed parts)) c.concepts-all.ensures
          ∙ sym (ap (size indexed) is);
      bound = capped_two _ _ c.with_parts-in-And.ensures.bound
          (c.cost_of_and.ensures.bound ∙ (λ i. capped (inner.summary.sum i * 2))
          ∙ capped_product (total (sizes indexed parts)) 2) inner.bound
          ∙ sym (ap (λ (plan : Physical). capped (bound indexed plan)) is);
    }

-- the size of a disjunction is at most the total of its parts, and its own bound is that total for each part
pub cost-returns-in-Or : goal.cost-returns-in-Or
cost-returns-in-Or t c =
    let indexed = c.args.lengths.indexes.now in
    let parts = physicals_of c.deref-in-Or.result.now in
    let inner = c.parts_cost-inner-in-Or.ensures in
    let count : c.len.result ≡ plan_count parts = omega (arith, plan_count-parts c.deref-in-Or.result.now) in
    let is = or_are c.in-Or.parts c.in-Or.is c.deref-in-Or.ensures.value in
    record {
      size = capped_least (total (sizes indexed parts)) (c.with_parts-in-Or.ensures.size
          ∙ c.cost_of_or-own.ensures.size)
          inner.summary.sum c.concepts-all.ensures c.concepts-all.type_inv
          ∙ sym (ap (size indexed) is);
      bound = capped_two _ _ c.with_parts-in-Or.ensures.bound
          (c.cost_of_or-own.ensures.bound
          ∙ (λ i. capped (inner.summary.sum i * count i))
          ∙ capped_product (total (sizes indexed parts)) (plan_count parts)) inner.bound
          ∙ sym (ap (λ (plan : Physical). capped (bound indexed plan)) is);
    }

-- the own bound of a difference is the sum of the sizes of its two parts
pub cost-returns-in-Minus-clause-bound : goal.cost-returns-in-Minus-clause-bound
cost-returns-in-Minus-clause-bound t c =
    let left = c.cost-left.ensures in
    let right = c.cost-right.ensures in
    let is = minus_are c.in-Minus.first c.in-Minus.second c.in-Minus.is c.deref-in-Minus.ensures
    c.deref-in-Minus-2.ensures in
    capped_three _ _ _ c.with_two.ensures.bound (c.cost_of_minus.ensures.bound
    ∙ (λ i. capped (left.size i + right.size i)))
    left.bound right.bound
    ∙ sym (ap (λ (plan : Physical). capped (bound c.args.lengths.indexes.now plan)) is)

-- the size and the bound of a `Values` node are those that `values_cost` returns
pub cost-returns-in-Values : goal.cost-returns-in-Values
cost-returns-in-Values t c =
    let indexed = c.args.lengths.indexes.now in
    let is = values_are c.in-Values.start c.in-Values.names c.in-Values.is c.deref-in-Values.ensures
    c.deref-in-Values-2.ensures.value in
    record {
      size = c.values_cost.ensures.size ∙ sym (ap (size indexed) is);
      bound = c.values_cost.ensures.bound ∙ sym (ap (λ (plan : Physical). capped (bound indexed plan)) is);
    }

-- the bound of a leaf of concepts is the one that `pairs_cost` returns for all concepts
pub cost-returns-in-Pairs-clause-bound : goal.cost-returns-in-Pairs-clause-bound
cost-returns-in-Pairs-clause-bound t c =
    let indexed = c.args.lengths.indexes.now in
    let types = physical_of c.deref-in-Pairs.result.now in
    let test = physical_test_of c.in-Pairs.test in
    c.pairs_cost.ensures.bound
    ∙ ap (λ (all : ℕ). capped (leaf_bound_at indexed all c.in-Pairs.back c.in-Pairs.count types test c.in-Pairs.choice
    + (bound indexed types + test_sum (own_number indexed) test))) c.concepts-all.ensures
    ∙ sym (ap (λ (plan : Physical). capped (bound indexed plan))
    (pairs_are c.in-Pairs.types c.in-Pairs.is c.deref-in-Pairs.ensures))

-- the own bound of a node that counts groups is the size of its plan of groups, and all concepts if none may pass
pub cost-returns-in-Units-clause-bound : goal.cost-returns-in-Units-clause-bound
cost-returns-in-Units-clause-bound t c =
    let inner = c.group_cost-inner.ensures in
    capped_two _ _ c.with_parts-in-Units.ensures.bound
    (c.cost_of_groups-own.ensures.bound
    ∙ (λ i. capped (inner.size i + passed_over (c.in-Units.count.min == 0) (c.concepts-all.ensures i)))) inner.bound
    ∙ sym (ap (λ (plan : Physical). capped (bound c.args.lengths.indexes.now plan))
    (group_plan_is c.in-Units.units c.in-Units.is c.deref-in-Units.ensures))

-- the size and the bound of a `Values` node count as many types as the node has names
pub values_cost-returns : goal.values_cost-returns
values_cost-returns t c =
    let indexed = c.args.lengths.indexes.now in
    let from = c.cost-from.ensures in
    let count = sym (plan_count-parts c.args.names.now) in
    record {
      size = c.with_parts.ensures.size ∙ c.cost_of_values-own.ensures.size
          ∙ (λ i. values_size indexed (count i) (from.size i));
      bound = omega (
        arith,
        c.cost_of_values-own.ensures.bound ∙ (λ i. capped (values_bound indexed (count i) (from.size i))),
      );
    }

-- the size and the bound of a leaf follow from the sizes of its types and its test
pub pairs_cost-returns : goal.pairs_cost-returns
pairs_cost-returns t c =
    let test = physical_test_of c.args.test.now in
    let types = physical_of c.args.types.now in
    let leaf = c.counts_of_leaf-leaf.ensures
    ∙ (λ i. leaf_of c.args.lengths.indexes.now c.args.all c.args.back c.args.count types test
    (c.cost-of_types.ensures.size i) (c.test_cost-of_test.ensures.size i)) in
    record {
      size = c.with_two.ensures.size ∙ c.cost.ensures.size ∙ (λ i. leaf_size (leaf i) c.args.choice);
      bound = capped_three _ _ _ c.with_two.ensures.bound
          (c.cost.ensures.bound ∙ (λ i. capped (leaf_bound (leaf i) c.args.choice)))
          c.cost-of_types.ensures.bound c.test_cost-of_test.ensures.bound;
    }

-- the size of a conjunction of group plans is the least of its parts, and its own bound is twice the total of their
-- sizes
pub group_cost-returns-in-And : goal.group_cost-returns-in-And
group_cost-returns-in-And t c =
    let indexed = c.args.lengths.indexes.now in
    let parts = physical_groups_list_of c.deref.result.now in
    let inner = c.group_parts_cost-inner.ensures in
    let is = and_group_plan_is c.in-And.parts c.in-And.is c.deref.ensures.value in
    record {
      size = c.with_parts.ensures.size
          ∙ c.cost_of_and.ensures.size
          ∙ inner.summary.least
          ∙ ap (λ (all : ℕ). least_of all (group_sizes indexed parts)) c.groups-all.ensures
          ∙ sym (ap (group_size indexed) is);
      bound = capped_two _ _ c.with_parts.ensures.bound
          (c.cost_of_and.ensures.bound ∙ (λ i. capped (inner.summary.sum i * 2))
          ∙ capped_product (total (group_sizes indexed parts)) 2)
          inner.bound
          ∙ sym (ap (λ (plan : PhysicalGroups). capped (group_sum (own_number indexed) plan)) is);
    }

-- the size of a disjunction of group plans is at most the total of its parts, and its own bound is that total for
-- each part
pub group_cost-returns-in-Or : goal.group_cost-returns-in-Or
group_cost-returns-in-Or t c =
    let indexed = c.args.lengths.indexes.now in
    let parts = physical_groups_list_of c.deref-in-Or.result.now in
    let inner = c.group_parts_cost-inner-in-Or.ensures in
    let count : c.len.result ≡ group_count parts = omega (arith, group_count-parts c.deref-in-Or.result.now) in
    let is = or_group_plan_is c.in-Or.parts c.in-Or.is c.deref-in-Or.ensures.value in
    record {
      size = capped_least (total (group_sizes indexed parts)) (c.with_parts-in-Or.ensures.size
          ∙ c.cost_of_or-own.ensures.size)
          inner.summary.sum c.groups-all.ensures c.groups-all.type_inv
          ∙ sym (ap (group_size indexed) is);
      bound = capped_two _ _ c.with_parts-in-Or.ensures.bound
          (c.cost_of_or-own.ensures.bound
          ∙ (λ i. capped (inner.summary.sum i * count i))
          ∙ capped_product (total (group_sizes indexed parts)) (group_count parts)) inner.bound
          ∙ sym (ap (λ (plan : PhysicalGroups). capped (group_sum (own_number indexed) plan)) is);
    }

-- the own bound of a difference of group plans is the sum of the sizes of its two parts
pub group_cost-returns-in-Minus-clause-bound : goal.group_cost-returns-in-Minus-clause-bound
group_cost-returns-in-Minus-clause-bound t c =
    let left = c.group_cost-left.ensures in
    let right = c.group_cost-right.ensures in
    let is = minus_group_plan_is c.in-Minus.first c.in-Minus.second c.in-Minus.is c.deref-in-Minus.ensures
    c.deref-in-Minus-2.ensures in
    capped_three _ _ _ c.with_two.ensures.bound (c.cost_of_minus.ensures.bound
    ∙ (λ i. capped (left.size i + right.size i)))
    left.bound right.bound
    ∙ sym (ap (λ (plan : PhysicalGroups). capped (group_sum (own_number c.args.lengths.indexes.now) plan)) is)

-- the bound of a leaf of groups is the one that `pairs_cost` returns for all groups
pub group_cost-returns-in-Pairs-clause-bound : goal.group_cost-returns-in-Pairs-clause-bound
group_cost-returns-in-Pairs-clause-bound t c =
    let indexed = c.args.lengths.indexes.now in
    let types = physical_of c.deref-in-Pairs.result.now in
    let test = physical_test_of c.in-Pairs.test in
    let is = pairs_group_plan_is c.in-Pairs.types c.in-Pairs.is c.deref-in-Pairs.ensures in
    c.pairs_cost.ensures.bound
    ∙ ap (λ (all : ℕ). capped (leaf_bound_at indexed all false c.in-Pairs.count types test c.in-Pairs.choice
    + (bound indexed types + test_sum (own_number indexed) test))) c.groups-all.ensures
    ∙ sym (ap (λ (plan : PhysicalGroups). capped (group_sum (own_number indexed) plan)) is)
