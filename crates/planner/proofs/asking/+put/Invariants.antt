-- The parts before the place have their choices, the others are unchanged, and `rest` is what the parts before the
-- place have left of the list.
use Rattle.std.proofs.Common.{◌≡◌, ◌+◌, ◌*◌, max, take}
use Rattle.set_algebra.proofs.plan.ConceptPlan.TheLaws as concept_plan
use Rattle.set_algebra.proofs.plan.ValueTest.TheLaws as value_test
use Rattle.planner.proofs.PassLemmas.{Each, asking_concepts, asking_groups}
use Rattle.planner.proofs.asking.+put.Given as goal

-- the plans of concepts before `place` have their choices, the others are unchanged, and `rest` is what is left of
-- the list
abbrev pub invariant-put_in_each-loop-place : goal.invariant-put_in_each-loop-place
invariant-put_in_each-loop-place l = record {
  unvisited : goal.unvisited-put_in_each-loop-place l;
  each : Each asking_concepts l.asked l.parts.items l.initial.parts.items l.place;
  left : l.rest ≡ asking_concepts.rest l.asked (take l.place l.initial.parts.items);
}

-- the plans of groups before `place` have their choices, the others are unchanged, and `rest` is what is left of the
-- list
abbrev pub invariant-put_in_each_groups-loop-place : goal.invariant-put_in_each_groups-loop-place
invariant-put_in_each_groups-loop-place l = record {
  unvisited : goal.unvisited-put_in_each_groups-loop-place l;
  each : Each asking_groups l.asked l.parts.items l.initial.parts.items l.place;
  left : l.rest ≡ asking_groups.rest l.asked (take l.place l.initial.parts.items);
}

-- the functions go down a plan; what is called for the same plan comes after its caller
abbrev pub decreases-put_asked : goal.decreases-put_asked
decreases-put_asked l = 4 * goal.size-put_asked l

abbrev pub decreases-put_in_groups : goal.decreases-put_in_groups
decreases-put_in_groups l = 4 * goal.size-put_in_groups l

abbrev pub decreases-put_in_test : goal.decreases-put_in_test
decreases-put_in_test l = 4 * goal.size-put_in_test l + 1

abbrev pub decreases-put_in_each : goal.decreases-put_in_each
decreases-put_in_each l = 4 * goal.size-put_in_each l + 1

abbrev pub decreases-put_in_each_groups : goal.decreases-put_in_each_groups
decreases-put_in_each_groups l = 4 * goal.size-put_in_each_groups l + 1

-- two sub-plans are as deep as the deeper of them
abbrev pub decreases-put_in_leaf : goal.decreases-put_in_leaf
decreases-put_in_leaf l = 4 * max (concept_plan.the_size l.types.now) (value_test.the_size l.test.now) + 2
