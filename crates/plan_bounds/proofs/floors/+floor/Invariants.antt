-- The sum so far and the floors of the parts that are left are the floors of all parts.
use Rattle.std.proofs.Common.{◌+◌, ◌*◌, max}
use Rattle.set_algebra.proofs.plan.ConceptPlan.TheLaws as concept_plan
use Rattle.set_algebra.proofs.plan.ValueTest.TheLaws as value_test
use Rattle.plan_bounds.specs.Floors.{floor_number}
use Rattle.plan_bounds.proofs.LoopLemmas.{SumLeft, concept_sum, group_plan_sum}
use Rattle.plan_bounds.proofs.floors.+floor.Given as goal

-- the floor so far and the floors of the parts from `part-index` on are the capped floors of all parts
abbrev pub invariant-parts_floor-loop-part : goal.invariant-parts_floor-loop-part
invariant-parts_floor-loop-part l =
    SumLeft (concept_sum (floor_number l.lengths.indexes.now)) l.parts l.part-index l.floor

-- the floor so far and the floors of the group plans from `part-index` on are the capped floors of all of them
abbrev pub invariant-group_parts_floor-loop-part : goal.invariant-group_parts_floor-loop-part
invariant-group_parts_floor-loop-part l =
    SumLeft (group_plan_sum (floor_number l.lengths.indexes.now)) l.parts l.part-index l.floor

-- the functions go down a plan; what is called for the same plan comes after its caller
abbrev pub decreases-plan_floor : goal.decreases-plan_floor
decreases-plan_floor l = 4 * goal.size-plan_floor l

abbrev pub decreases-group_plan_floor : goal.decreases-group_plan_floor
decreases-group_plan_floor l = 4 * goal.size-group_plan_floor l

abbrev pub decreases-test_floor : goal.decreases-test_floor
decreases-test_floor l = 4 * goal.size-test_floor l + 1

abbrev pub decreases-parts_floor : goal.decreases-parts_floor
decreases-parts_floor l = 4 * goal.size-parts_floor l + 1

abbrev pub decreases-group_parts_floor : goal.decreases-group_parts_floor
decreases-group_parts_floor l = 4 * goal.size-group_parts_floor l + 1

-- two sub-plans are as deep as the deeper of them
abbrev pub decreases-pairs_floor : goal.decreases-pairs_floor
decreases-pairs_floor l = 4 * max (concept_plan.the_size l.types.now) (value_test.the_size l.test.now) + 2
