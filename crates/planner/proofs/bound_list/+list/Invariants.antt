-- The summary and the list so far, continued over the parts that are left, are those of all parts.
use Rattle.std.proofs.Common.{◌+◌, ◌*◌, max}
use denote.Param.Weighed.{most}
use Rattle.set_algebra.proofs.plan.ConceptPlan.TheLaws as concept_plan
use Rattle.set_algebra.proofs.plan.UnitPlan.TheLaws as group_plan
use Rattle.set_algebra.proofs.plan.ValueTest.TheLaws as value_test
use Rattle.plan_bounds.specs.Bounds.{own_list}
use Rattle.plan_bounds.proofs.LoopLemmas.{ListLeft, SizesLeft, concept_list, concept_sizes, group_plan_list}
use Rattle.plan_bounds.proofs.LoopLemmas.{group_plan_sizes}
use Rattle.planner.proofs.bound_list.+list.Given as goal

-- the summary and the list so far, continued over the plans of concepts from `place` on, are those of all of them
abbrev pub invariant-list_parts-loop-place : goal.invariant-list_parts-loop-place
invariant-list_parts-loop-place l = record {
  sizes : SizesLeft (concept_sizes l.lengths.indexes.now) l.all l.parts l.place l.summary;
  bounds : ListLeft (concept_list (own_list l.lengths.indexes.now)) l.fn.bounds.items l.parts l.place l.bounds.items;
}

-- the summary and the list so far, continued over the plans of groups from `place` on, are those of all of them
abbrev pub invariant-list_group_parts-loop-place : goal.invariant-list_group_parts-loop-place
invariant-list_group_parts-loop-place l = record {
  sizes : SizesLeft (group_plan_sizes l.lengths.indexes.now) l.all l.parts l.place l.summary;
  bounds : ListLeft (group_plan_list (own_list l.lengths.indexes.now)) l.fn.bounds.items l.parts l.place l.bounds.items;
}

-- the functions go down a plan; what is called for the same plan comes after its caller
abbrev pub decreases-list_after : goal.decreases-list_after
decreases-list_after l = 4 * goal.size-list_after l

abbrev pub decreases-list_groups_after : goal.decreases-list_groups_after
decreases-list_groups_after l = 4 * goal.size-list_groups_after l

abbrev pub decreases-list : goal.decreases-list
decreases-list l = 4 * goal.size-list l + 1

abbrev pub decreases-list_groups : goal.decreases-list_groups
decreases-list_groups l = 4 * goal.size-list_groups l + 1

abbrev pub decreases-list_test : goal.decreases-list_test
decreases-list_test l = 4 * goal.size-list_test l

abbrev pub decreases-list_parts : goal.decreases-list_parts
decreases-list_parts l = 4 * goal.size-list_parts l + 2

abbrev pub decreases-list_group_parts : goal.decreases-list_group_parts
decreases-list_group_parts l = 4 * goal.size-list_group_parts l + 2

abbrev pub decreases-list_walk : goal.decreases-list_walk
decreases-list_walk l = 4 * goal.size-list_walk l + 2

abbrev pub decreases-list_members : goal.decreases-list_members
decreases-list_members l = 4 * goal.size-list_members l + 2

abbrev pub decreases-list_of_groups : goal.decreases-list_of_groups
decreases-list_of_groups l = 4 * goal.size-list_of_groups l + 2

abbrev pub decreases-list_and : goal.decreases-list_and
decreases-list_and l = 4 * goal.size-list_and l + 3

abbrev pub decreases-list_or : goal.decreases-list_or
decreases-list_or l = 4 * goal.size-list_or l + 3

abbrev pub decreases-list_groups_and : goal.decreases-list_groups_and
decreases-list_groups_and l = 4 * goal.size-list_groups_and l + 3

abbrev pub decreases-list_groups_or : goal.decreases-list_groups_or
decreases-list_groups_or l = 4 * goal.size-list_groups_or l + 3

-- two sub-plans are as deep as the deeper of them
abbrev pub decreases-list_minus : goal.decreases-list_minus
decreases-list_minus l = 4 * max (concept_plan.the_size l.first.now) (concept_plan.the_size l.second.now) + 2

abbrev pub decreases-list_groups_minus : goal.decreases-list_groups_minus
decreases-list_groups_minus l = 4 * max (group_plan.the_size l.first.now) (group_plan.the_size l.second.now) + 2

abbrev pub decreases-list_values : goal.decreases-list_values
decreases-list_values l = 4 * max (concept_plan.the_size l.start.now) (most concept_plan.the_size l.names.now) + 3

abbrev pub decreases-list_pairs : goal.decreases-list_pairs
decreases-list_pairs l = 4 * max (concept_plan.the_size l.types.now) (value_test.the_size l.test.now) + 2
