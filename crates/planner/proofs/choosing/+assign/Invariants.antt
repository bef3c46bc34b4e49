-- The parts before the place have their choices, the others are unchanged, and the summary so far, continued over the
-- sizes that the others will have, is that of all parts.
use denote.Param.Weighed.{most}
use Rattle.std.proofs.Common.{◌+◌, ◌*◌, max}
use Rattle.set_algebra.proofs.plan.ConceptPlan.TheLaws as concept_plan
use Rattle.set_algebra.proofs.plan.ValueTest.TheLaws as value_test
use Rattle.plan_bounds.proofs.LoopLemmas.{SizesLeft}
use Rattle.planner.proofs.PassLemmas.{Each, choosing_concepts, choosing_groups, chosen_sizes, group_chosen_sizes}
use Rattle.planner.proofs.choosing.+assign.Given as goal

-- the plans of concepts before `place` have their choices, the others are unchanged, and the summary continues to that
-- of all
abbrev pub invariant-assign_parts-loop-place : goal.invariant-assign_parts-loop-place
invariant-assign_parts-loop-place l = record {
  unvisited : goal.unvisited-assign_parts-loop-place l;
  each : Each (choosing_concepts l.lengths.indexes.now) tt l.parts.items l.initial.parts.items l.place;
  sizes : SizesLeft (chosen_sizes l.lengths.indexes.now) l.all l.initial.parts.items l.place l.summary;
}

-- the plans of groups before `place` have their choices, the others are unchanged, and the summary continues to that of
-- all
abbrev pub invariant-assign_group_parts-loop-place : goal.invariant-assign_group_parts-loop-place
invariant-assign_group_parts-loop-place l = record {
  unvisited : goal.unvisited-assign_group_parts-loop-place l;
  each : Each (choosing_groups l.lengths.indexes.now) tt l.parts.items l.initial.parts.items l.place;
  sizes : SizesLeft (group_chosen_sizes l.lengths.indexes.now) l.all l.initial.parts.items l.place l.summary;
}

-- the functions go down a plan; what is called for the same plan comes after its caller
abbrev pub decreases-assign_choices : goal.decreases-assign_choices
decreases-assign_choices l = 4 * goal.size-assign_choices l

abbrev pub decreases-assign_groups : goal.decreases-assign_groups
decreases-assign_groups l = 4 * goal.size-assign_groups l

abbrev pub decreases-assign_test : goal.decreases-assign_test
decreases-assign_test l = 4 * goal.size-assign_test l + 1

abbrev pub decreases-assign_parts : goal.decreases-assign_parts
decreases-assign_parts l = 4 * goal.size-assign_parts l + 1

abbrev pub decreases-assign_group_parts : goal.decreases-assign_group_parts
decreases-assign_group_parts l = 4 * goal.size-assign_group_parts l + 1

-- two sub-plans are as deep as the deeper of them
abbrev pub decreases-assign_leaf : goal.decreases-assign_leaf
decreases-assign_leaf l = 4 * max (concept_plan.the_size l.types.now) (value_test.the_size l.test.now) + 2

abbrev pub decreases-assign_values : goal.decreases-assign_values
decreases-assign_values l = 4 * max (concept_plan.the_size l.start.now) (most concept_plan.the_size l.names.now.items)
    + 2
