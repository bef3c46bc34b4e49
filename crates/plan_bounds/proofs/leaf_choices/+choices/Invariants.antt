-- The list so far, followed by the choices of the parts that are left, is the given list and the choices of all
-- parts.
use Rattle.std.proofs.Common.{◌+◌, ◌*◌, max}
use Rattle.set_algebra.proofs.plan.ConceptPlan.TheLaws as concept_plan
use Rattle.set_algebra.proofs.plan.ValueTest.TheLaws as value_test
use Rattle.plan_bounds.proofs.LoopLemmas.{ListLeft, concept_choices, group_choices}
use Rattle.plan_bounds.proofs.leaf_choices.+choices.Given as goal

-- the choices so far, followed by those of the parts from `part-index` on, are the given ones and those of all parts
abbrev pub invariant-add_each-loop-part : goal.invariant-add_each-loop-part
invariant-add_each-loop-part l = ListLeft concept_choices l.initial.choices.items l.parts l.part-index l.choices.items

-- the choices so far, followed by those of the group plans from `part-index` on, are the given ones and those of all
-- of them
abbrev pub invariant-add_each_groups-loop-part : goal.invariant-add_each_groups-loop-part
invariant-add_each_groups-loop-part l =
    ListLeft group_choices l.initial.choices.items l.parts l.part-index l.choices.items

-- the functions go down a plan; what is called for the same plan comes after its caller
abbrev pub decreases-add_choices : goal.decreases-add_choices
decreases-add_choices l = 3 * goal.size-add_choices l

abbrev pub decreases-add_groups : goal.decreases-add_groups
decreases-add_groups l = 3 * goal.size-add_groups l

abbrev pub decreases-add_each : goal.decreases-add_each
decreases-add_each l = 3 * goal.size-add_each l + 1

abbrev pub decreases-add_each_groups : goal.decreases-add_each_groups
decreases-add_each_groups l = 3 * goal.size-add_each_groups l + 1

-- two sub-plans are as deep as the deeper of them
abbrev pub decreases-add_leaf : goal.decreases-add_leaf
decreases-add_leaf l = 3 * max (concept_plan.the_size l.types.now) (value_test.the_size l.test.now) + 1
