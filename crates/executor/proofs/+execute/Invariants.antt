use Rattle.std.proofs.Common.{◌≡◌, ◌≤◌, ◌<◌, ◌+◌, ◌*◌, ◌&&◌, ℕ, List, length, get_or, max, min, take}
use Rattle.std.specs.Prelude.{slice_get}
use Rattle.std.specs.List.{list_any}
use Rattle.number_lists.specs.Rising.{numbers_where}
use Rattle.postings.specs.Groups.{all_groups}
use Rattle.set_algebra.specs.Meaning.{group_means, leads, means}
use Rattle.set_algebra.specs.declared.plan.ConceptPlan.{ConceptPlan}
use Rattle.set_algebra.specs.declared.plan.UnitPlan.{UnitPlan}
use Rattle.set_algebra.specs.Plan.{Plan}
use Rattle.set_algebra.specs.Physical.{physical_groups_list_of, physicals_of}
use Rattle.executor.specs.inside.Logical.{logical_of, logical_groups_of, logicals_of}
use Rattle.plan_bounds.specs.Bounds.{own_number, values_bound}
use Rattle.plan_bounds.specs.Floors.{floor_number}
use Rattle.plan_bounds.specs.Sizes.{group_sizes, sizes, total}
use Rattle.plan_bounds.proofs.LoopLemmas.{concept_sum, group_plan_sum}
use Rattle.candidates.specs.Extents.{IsStatsOf, IsGroupStatsOf}
use Rattle.candidates.specs.Groups.{some_group_in}
use Rattle.candidates.specs.Numbers.{numbers_in}
use Rattle.executor.specs.inside.Named.{HasNamed}
use Rattle.candidates.specs.RowEstimates.{Adds}
use Rattle.candidates.specs.Within.{may_be}
use Rattle.executor.proofs.PartWork.{concepts_read, groups_read}
use Rattle.executor.proofs.OrderLemmas.{TurnsSoFar, passed}
use Rattle.executor.proofs.WithinNodes.{means_concept, means_group}
use Rattle.executor.proofs.WorkLemmas.{SomeSoFar}
use Rattle.set_algebra.proofs.plan.ConceptPlan.TheLaws as concept_plan
use Rattle.set_algebra.proofs.plan.UnitPlan.TheLaws as group_plan
use Rattle.set_algebra.proofs.plan.ValueTest.TheLaws as value_test
use Rattle.set_algebra.specs.declared.plan.ConceptPlan.TheVariants.{the_data as concept_data}
use Rattle.set_algebra.specs.declared.plan.UnitPlan.TheVariants.{the_data as group_data}
use denote.Param.Weighed.{most}
use Rattle.executor.proofs.+execute.Given as goal

-- what was found is what the parts of concepts of the first `turn` turns mean among the candidates
abbrev pub invariant-joined_plans::execute_in_order-loop-turn :
    goal.invariant-joined_plans::execute_in_order-loop-turn
invariant-joined_plans::execute_in_order-loop-turn g l = record {
  items : g.S.ConceptSet.items_of l.found
      ≡ passed (length l.reader.snapshot.now.release.concepts) (means_concept l.reader.snapshot.now.release)
      l.parts l.order (may_be g.S.ConceptSet.items_of l.candidates) l.turn;
  bound : g.S.ConceptSet.bound_of l.found ≡ length l.reader.snapshot.now.release.concepts;
  work : TurnsSoFar (concept_sum (floor_number l.reader.indexes.now)) (concepts_read l.reader.indexes.now) l.parts
      l.order l.turn l.fn.visits l.visits;
  stats : IsStatsOf l.reader.indexes.now (g.S.ConceptSet.items_of l.found) l.stats;
}

-- what was found is what at least one of the parts of concepts before `part-index` means among the candidates
abbrev pub invariant-joined_plans::execute_or-loop-part : goal.invariant-joined_plans::execute_or-loop-part
invariant-joined_plans::execute_or-loop-part g l = record {
  items : g.S.ConceptSet.items_of l.found
      ≡ numbers_where (length l.reader.snapshot.now.release.concepts)
      (λ n. may_be g.S.ConceptSet.items_of l.candidates n
      && list_any (λ part. means l.reader.snapshot.now.release (logical_of part)
      (get_or l.reader.snapshot.now.release.concepts n 0)) (take l.part-index l.parts));
  bound : g.S.ConceptSet.bound_of l.found ≡ length l.reader.snapshot.now.release.concepts;
  adds : Adds (g.S.ConceptSet.items_of l.found) l.fn.estimate l.estimate;
  work : SomeSoFar (concept_sum (floor_number l.reader.indexes.now)) (concept_sum (own_number l.reader.indexes.now))
      (λ place. place * total (sizes l.reader.indexes.now (physicals_of l.parts))) l.parts l.part-index
      l.fn.visits.count l.visits.count;
}

-- the groups found are what the parts of groups of the first `turn` turns mean among the candidates
abbrev pub invariant-group_plans::execute_groups_in_order-loop-turn :
    goal.invariant-group_plans::execute_groups_in_order-loop-turn
invariant-group_plans::execute_groups_in_order-loop-turn g l = record {
  items : g.S.ConceptSet.items_of l.groups
      ≡ passed (length (all_groups l.reader.snapshot.now.release)) (means_group l.reader.snapshot.now.release)
      l.parts l.order (may_be g.S.ConceptSet.items_of l.candidates) l.turn;
  bound : g.S.ConceptSet.bound_of l.groups ≡ length (all_groups l.reader.snapshot.now.release);
  work : TurnsSoFar (group_plan_sum (floor_number l.reader.indexes.now)) (groups_read l.reader.indexes.now) l.parts
      l.order l.turn l.fn.visits l.visits;
  stats : IsGroupStatsOf l.reader.indexes.now (g.S.ConceptSet.items_of l.groups) l.stats;
}

-- the groups found are what at least one of the parts of groups before `part-index` means among the candidates
abbrev pub invariant-group_plans::execute_group_or-loop-part : goal.invariant-group_plans::execute_group_or-loop-part
invariant-group_plans::execute_group_or-loop-part g l = record {
  items : g.S.ConceptSet.items_of l.groups
      ≡ numbers_where (length (all_groups l.reader.snapshot.now.release))
      (λ n. may_be g.S.ConceptSet.items_of l.candidates n
      && list_any (λ part. some_group_in l.reader.snapshot.now.release
      (group_means l.reader.snapshot.now.release (logical_groups_of part))
      (slice_get (all_groups l.reader.snapshot.now.release) n)) (take l.part-index l.parts));
  bound : g.S.ConceptSet.bound_of l.groups ≡ length (all_groups l.reader.snapshot.now.release);
  work : SomeSoFar (group_plan_sum (floor_number l.reader.indexes.now))
      (group_plan_sum (own_number l.reader.indexes.now))
      (λ place. place * total (group_sizes l.reader.indexes.now (physical_groups_list_of l.parts))) l.parts l.part-index
      l.fn.visits.count l.visits.count;
}

-- what was found is what the first `name-index` names lead to from the start
abbrev pub invariant-dotted_plans::execute_attributes-loop-name :
    goal.invariant-dotted_plans::execute_attributes-loop-name
invariant-dotted_plans::execute_attributes-loop-name g l = record {
  items : (plan : Plan) → g.S.ConceptSet.items_of l.initial.found
      ≡ numbers_in l.reader.snapshot.now.release (means l.reader.snapshot.now.release plan)
      → g.S.ConceptSet.items_of l.found
      ≡ numbers_in l.reader.snapshot.now.release
      (leads l.reader.snapshot.now.release (means l.reader.snapshot.now.release plan)
      (logicals_of (take l.name-index l.names)));
  bound : g.S.ConceptSet.bound_of l.found ≡ length l.reader.snapshot.now.release.concepts;
  few : 0 < l.name-index → length (g.S.ConceptSet.items_of l.found)
      ≤ min (length l.reader.indexes.now.concepts) (length l.reader.indexes.now.rows);
  start : l.name-index ≡ 0 → length (g.S.ConceptSet.items_of l.found)
      ≡ length (g.S.ConceptSet.items_of l.initial.found);
  work : SomeSoFar (concept_sum (floor_number l.reader.indexes.now)) (concept_sum (own_number l.reader.indexes.now))
      (λ place. values_bound l.reader.indexes.now place (length (g.S.ConceptSet.items_of l.initial.found))) l.names
      l.name-index
      l.fn.visits.count l.visits.count;
  known : HasNamed l.reader.snapshot.now.release (logical_of l.before.0.now)
      (g.S.ConceptSet.items_of l.before.1) (g.S.ConceptSet.bound_of l.before.1);
}

-- ---- termination: each call goes down to less depth, or to a lower rank at one depth
-- the depth of the deepest of several plans of concepts
abbrev deepest : List ConceptPlan → ℕ
deepest parts = most {X = concept_data} (λ x. concept_plan.the_size x) parts

-- the depth of the deepest of several plans of groups
abbrev deepest_groups : List UnitPlan → ℕ
deepest_groups parts = most {X = group_data} (λ x. group_plan.the_size x) parts

abbrev pub decreases-plans::execute_node : goal.decreases-plans::execute_node
decreases-plans::execute_node g l = 6 * (concept_plan.the_size l.plan.now) + 0

abbrev pub decreases-plans::execute_estimated : goal.decreases-plans::execute_estimated
decreases-plans::execute_estimated g l = 6 * (concept_plan.the_size l.plan.now) + 1

abbrev pub decreases-plans::execute_within : goal.decreases-plans::execute_within
decreases-plans::execute_within g l = 6 * (concept_plan.the_size l.plan.now) + 2

abbrev pub decreases-plans::members_of : goal.decreases-plans::members_of
decreases-plans::members_of g l = 6 * (concept_plan.the_size l.operand.now) + 3

abbrev pub decreases-plans::execute_minus : goal.decreases-plans::execute_minus
decreases-plans::execute_minus g l = 6 * (max (concept_plan.the_size l.first.now) (concept_plan.the_size l.second.now))
    + 3

abbrev pub decreases-plans::pairs_within : goal.decreases-plans::pairs_within
decreases-plans::pairs_within g l =
    6 * (max (concept_plan.the_size l.leaf.types.now) (value_test.the_size l.leaf.test.now)) + 3

abbrev pub decreases-plans::execute_units : goal.decreases-plans::execute_units
decreases-plans::execute_units g l = 6 * (group_plan.the_size l.units.now) + 2

abbrev pub decreases-plans::tested_of : goal.decreases-plans::tested_of
decreases-plans::tested_of g l = 6 * (value_test.the_size l.test.now) + 0

abbrev pub decreases-plans::execute_operand : goal.decreases-plans::execute_operand
decreases-plans::execute_operand g l = 6 * (concept_plan.the_size l.operand.now) + 2

abbrev pub decreases-joined_plans::execute_and : goal.decreases-joined_plans::execute_and
decreases-joined_plans::execute_and g l = 6 * (deepest l.parts.now) + 4

abbrev pub decreases-joined_plans::execute_in_order : goal.decreases-joined_plans::execute_in_order
decreases-joined_plans::execute_in_order g l = 6 * (deepest l.parts.now) + 3

abbrev pub decreases-joined_plans::execute_or : goal.decreases-joined_plans::execute_or
decreases-joined_plans::execute_or g l = 6 * (deepest l.parts.now) + 2

abbrev pub decreases-walk_plans::walk_from : goal.decreases-walk_plans::walk_from
decreases-walk_plans::walk_from g l = 6 * (concept_plan.the_size l.walk.operand.now) + 4

abbrev pub decreases-walk_plans::walk_to_few : goal.decreases-walk_plans::walk_to_few
decreases-walk_plans::walk_to_few g l = 6 * (concept_plan.the_size l.walk.operand.now) + 3

abbrev pub decreases-dotted_plans::execute_dotted : goal.decreases-dotted_plans::execute_dotted
decreases-dotted_plans::execute_dotted g l = 6 * (max (concept_plan.the_size l.start.now) (deepest l.names.now)) + 5

abbrev pub decreases-dotted_plans::execute_start : goal.decreases-dotted_plans::execute_start
decreases-dotted_plans::execute_start g l = 6 * (concept_plan.the_size l.start.now) + 4

abbrev pub decreases-dotted_plans::execute_from_few : goal.decreases-dotted_plans::execute_from_few
decreases-dotted_plans::execute_from_few g l = 6 * (concept_plan.the_size l.start.now) + 3

abbrev pub decreases-dotted_plans::execute_attributes : goal.decreases-dotted_plans::execute_attributes
decreases-dotted_plans::execute_attributes g l = 6 * (deepest l.names.now) + 4

abbrev pub decreases-dotted_plans::named_by : goal.decreases-dotted_plans::named_by
decreases-dotted_plans::named_by g l = 6 * (concept_plan.the_size l.name.now) + 3

abbrev pub decreases-group_plans::execute_group_node : goal.decreases-group_plans::execute_group_node
decreases-group_plans::execute_group_node g l = 6 * (group_plan.the_size l.plan.now) + 0

abbrev pub decreases-group_plans::execute_groups : goal.decreases-group_plans::execute_groups
decreases-group_plans::execute_groups g l = 6 * (group_plan.the_size l.plan.now) + 1

abbrev pub decreases-group_plans::execute_group_minus : goal.decreases-group_plans::execute_group_minus
decreases-group_plans::execute_group_minus g l = 6
    * (max (group_plan.the_size l.first.now) (group_plan.the_size l.second.now)) + 2

abbrev pub decreases-group_plans::groups_with_pairs : goal.decreases-group_plans::groups_with_pairs
decreases-group_plans::groups_with_pairs g l = 6
    * (max (concept_plan.the_size l.leaf.types.now) (value_test.the_size l.leaf.test.now)) + 3

abbrev pub decreases-group_plans::execute_group_and : goal.decreases-group_plans::execute_group_and
decreases-group_plans::execute_group_and g l = 6 * (deepest_groups l.parts.now) + 3

abbrev pub decreases-group_plans::execute_groups_in_order : goal.decreases-group_plans::execute_groups_in_order
decreases-group_plans::execute_groups_in_order g l = 6 * (deepest_groups l.parts.now) + 2

abbrev pub decreases-group_plans::execute_group_or : goal.decreases-group_plans::execute_group_or
decreases-group_plans::execute_group_or g l = 6 * (deepest_groups l.parts.now) + 2
