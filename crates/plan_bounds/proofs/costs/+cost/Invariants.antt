-- The summary and the bound so far, continued over the parts that are left, are those of all parts.
use denote.Param.Weighed.{most}
use Rattle.std.proofs.Common.{◌+◌, ◌*◌, max}
use Rattle.set_algebra.proofs.plan.ConceptPlan.TheLaws as concept_plan
use Rattle.set_algebra.proofs.plan.ValueTest.TheLaws as value_test
use Rattle.plan_bounds.specs.Bounds.{own_number}
use Rattle.plan_bounds.proofs.LoopLemmas.{SizesLeft, SumLeft, concept_sizes, concept_sum, group_plan_sizes}
use Rattle.plan_bounds.proofs.LoopLemmas.{group_plan_sum}
use Rattle.plan_bounds.proofs.costs.+cost.Given as goal

-- the summary and the bound so far, continued over the parts from `place` on, are those of all parts
abbrev pub invariant-parts_cost-loop-place : goal.invariant-parts_cost-loop-place
invariant-parts_cost-loop-place l = record {
  sizes : SizesLeft (concept_sizes l.lengths.indexes.now) l.all l.parts l.place l.summary;
  sum : SumLeft (concept_sum (own_number l.lengths.indexes.now)) l.parts l.place l.bound;
}

-- the summary and the bound so far, continued over the group plans from `place` on, are those of all of them
abbrev pub invariant-group_parts_cost-loop-place : goal.invariant-group_parts_cost-loop-place
invariant-group_parts_cost-loop-place l = record {
  sizes : SizesLeft (group_plan_sizes l.lengths.indexes.now) l.all l.parts l.place l.summary;
  sum : SumLeft (group_plan_sum (own_number l.lengths.indexes.now)) l.parts l.place l.bound;
}

-- the functions go down a plan; what is called for the same plan comes after its caller
abbrev pub decreases-cost : goal.decreases-cost
decreases-cost l = 4 * goal.size-cost l

abbrev pub decreases-group_cost : goal.decreases-group_cost
decreases-group_cost l = 4 * goal.size-group_cost l

abbrev pub decreases-test_cost : goal.decreases-test_cost
decreases-test_cost l = 4 * goal.size-test_cost l + 1

abbrev pub decreases-parts_cost : goal.decreases-parts_cost
decreases-parts_cost l = 4 * goal.size-parts_cost l + 1

abbrev pub decreases-group_parts_cost : goal.decreases-group_parts_cost
decreases-group_parts_cost l = 4 * goal.size-group_parts_cost l + 1

-- two sub-plans are as deep as the deeper of them
abbrev pub decreases-values_cost : goal.decreases-values_cost
decreases-values_cost l = 4 * max (concept_plan.the_size l.start.now) (most concept_plan.the_size l.names.now) + 2

abbrev pub decreases-pairs_cost : goal.decreases-pairs_cost
decreases-pairs_cost l = 4 * max (concept_plan.the_size l.types.now) (value_test.the_size l.test.now) + 2
