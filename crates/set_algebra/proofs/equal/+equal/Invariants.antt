use Rattle.std.proofs.Common.{◌≡◌, ◌+◌, ◌*◌, max, take}
use denote.Param.Weighed.{most}
use Rattle.set_algebra.proofs.plan.ConceptPlan.TheLaws as concept_plan
use Rattle.set_algebra.proofs.plan.UnitPlan.TheLaws as group_plan
use Rattle.set_algebra.proofs.plan.ValueTest.TheLaws as value_test
use Rattle.set_algebra.specs.Plan.{plans_of, group_plans_of}
use Rattle.set_algebra.proofs.equal.+equal.Given as goal

-- the first `i` plans of the two lists of plans of concepts are equal
abbrev pub invariant-same_each-loop-i : goal.invariant-same_each-loop-i
invariant-same_each-loop-i l = plans_of (take l.i l.parts) ≡ plans_of (take l.i l.others)

-- the first `i` plans of the two lists of plans of groups are equal
abbrev pub invariant-same_each_group-loop-i : goal.invariant-same_each_group-loop-i
invariant-same_each_group-loop-i l = group_plans_of (take l.i l.parts) ≡ group_plans_of (take l.i l.others)

-- the functions go down the first plan; on one plan, a called function has a smaller measure than its caller
abbrev pub decreases-same : goal.decreases-same
decreases-same l = 4 * goal.size-same l

abbrev pub decreases-same_group_plan : goal.decreases-same_group_plan
decreases-same_group_plan l = 4 * goal.size-same_group_plan l

abbrev pub decreases-same_value_test : goal.decreases-same_value_test
decreases-same_value_test l = 4 * goal.size-same_value_test l

abbrev pub decreases-same_each : goal.decreases-same_each
decreases-same_each l = 4 * goal.size-same_each l + 1

abbrev pub decreases-same_each_group : goal.decreases-same_each_group
decreases-same_each_group l = 4 * goal.size-same_each_group l + 1

abbrev pub decreases-same_walk : goal.decreases-same_walk
decreases-same_walk l = 4 * goal.size-same_walk l + 2

abbrev pub decreases-same_groups : goal.decreases-same_groups
decreases-same_groups l = 4 * goal.size-same_groups l + 2

-- the measure of two sub-plans is that of the deeper one
abbrev pub decreases-same_minus : goal.decreases-same_minus
decreases-same_minus l = 4 * max (concept_plan.the_size l.first.now) (concept_plan.the_size l.second.now) + 2

abbrev pub decreases-same_values : goal.decreases-same_values
decreases-same_values l = 4 * max (concept_plan.the_size l.start.now) (most concept_plan.the_size l.names.now) + 2

abbrev pub decreases-same_pairs : goal.decreases-same_pairs
decreases-same_pairs l = 4 * max (concept_plan.the_size l.types.now) (value_test.the_size l.test.now) + 2

abbrev pub decreases-same_group_minus : goal.decreases-same_group_minus
decreases-same_group_minus l = 4 * max (group_plan.the_size l.first.now) (group_plan.the_size l.second.now) + 2
