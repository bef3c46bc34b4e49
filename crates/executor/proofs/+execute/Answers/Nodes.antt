-- Answers of the functions that execute any node; without a candidate they execute nothing.
use Rattle.std.proofs.Common.{subst, ℕ, List, ◌∙◌, ◌&&◌, ◌==◌, Bool}
use Rattle.std.proofs.Common.{length, get_or, sym, ap, refl, arith}
use Rattle.std.specs.Prelude.{slice_get}
use Rattle.std.specs.List.{range_with_len}
use Rattle.set_algebra.specs.Meaning.{group_means, means}
use Rattle.candidates.specs.Numbers.{numbers_in}
use Rattle.set_algebra.specs.Plan.{plan_of}
use Rattle.set_algebra.specs.Physical.{Physical, PhysicalGroups, physical_of}
use Rattle.set_algebra.specs.Physical.{physical_groups_of}
use Rattle.executor.specs.inside.Logical.{logical_of, logical_groups_of}
use Rattle.postings.specs.Groups.{all_groups}
use Rattle.candidates.specs.Groups.{some_group_in}
use Rattle.constraint_tree.specs.Walks.{has_concept}
use Rattle.candidates.specs.RowEstimates.{Adds}
use Rattle.candidates.specs.Within.{may_be}
use Rattle.candidates.proofs.AddsLemmas.{adds_some}
use Rattle.executor.proofs.NamedLemmas.{named_adds}
use Rattle.std.proofs.lemmas.Result.{IfOk-weaker}
use Rattle.plan_bounds.specs.Floors.{floor_number}
use Rattle.plan_bounds.specs.Nodes.{group_sum, node_sum}
use Rattle.plan_bounds.proofs.FloorLemmas.{group_floor-le-bound}
use Rattle.plan_bounds.proofs.PartLemmas.{minus_are, minus_group_plan_is}
use Rattle.plan_bounds.proofs.PartLemmas.{values_are}
use Rattle.executor.proofs.GroupNodeLemmas as groups
use Rattle.pair_sets.proofs.LeafLemmas.{sources_known}
use Rattle.executor.proofs.NodeLemmas.{all_node, one_node}
use Rattle.executor.proofs.NodeWork.{floor_counted, leaf_found}
use Rattle.executor.proofs.NodeWork.{plan_answers}
use Rattle.executor.proofs.NodeWork.{groups_answer}
use Rattle.executor.proofs.PartWork.{few_found}
use Rattle.executor.proofs.PartWork.{few_groups}
use Rattle.candidates.proofs.WithinLemmas.{kept_groups, none_within}
use Rattle.executor.proofs.WithinNodes.{empty_within}
use Rattle.executor.proofs.WithinNodes.{kept_node, nothing_within}
use Rattle.executor.proofs.+execute.Goals as goal

-- without a candidate, the empty set is what the plan means among the candidates, and its floor is counted
pub execute_estimated-returns-then-none_left-clause-found :
    goal.plans::execute_estimated-returns-then-none_left-clause-found
execute_estimated-returns-then-none_left-clause-found g t c =
    let release = c.args.reader.snapshot.now.release in
    let may : ℕ → Bool = may_be g.S.ConceptSet.items_of c.args.candidates.now in
    record {
      items = none_within (length release.concepts) may (λ n. means release (logical_of c.args.plan.now)
          (get_or release.concepts n 0))
          (g.S.ConceptSet.items_of c.in_ok-found.found)
          (c.none_left.ensures c.if-none_left.true) c.in_ok-found.ensures.items;
      bound = c.in_ok-found.ensures.bound;
      floor = omega (arith, (rw c.lengths.ensures at c.plan_floor.ensures), c.add.ensures.count);
    }

-- without a candidate, the floor that is counted is within the bound of the plan
pub execute_estimated-returns-then-none_left-clause-counted :
    goal.plans::execute_estimated-returns-then-none_left-clause-counted
execute_estimated-returns-then-none_left-clause-counted g t c =
    floor_counted c.args.reader.indexes.now (physical_of c.args.plan.now)
    (rw c.lengths.ensures at c.plan_floor.ensures) c.add.ensures.count c.add.ensures.grows

-- if memory is refused for the empty set, the floor that is counted is within the bound of the plan
pub execute_estimated-returns-in_err-found-clause-counted :
    goal.plans::execute_estimated-returns-in_err-found-clause-counted
execute_estimated-returns-in_err-found-clause-counted g t c =
    floor_counted c.args.reader.indexes.now (physical_of c.args.plan.now)
    (rw c.lengths.ensures at c.plan_floor.ensures) c.add.ensures.count c.add.ensures.grows

-- a set that is prepared for the estimate keeps its items, so it answers the plan
pub execute_estimated-returns-clause-found : goal.plans::execute_estimated-returns-clause-found
execute_estimated-returns-clause-found g t c = record {
  items = c.in_ok-found-2.ensures.items ∙ c.in_ok-made.ensures.found.items;
  bound = c.in_ok-found-2.ensures.bound ∙ c.in_ok-made.ensures.found.bound;
  floor = c.in_ok-made.ensures.found.floor;
}

-- the answer to a plan of concepts has at most as many concepts as the size of the plan
pub execute_estimated-returns-clause-size : goal.plans::execute_estimated-returns-clause-size
execute_estimated-returns-clause-size g t c =
    few_found c.args.reader.snapshot.now.release c.args.reader.indexes.now c.args.reader.index
    c.concept_count.ensures.rising
    (sources_known c.args.reader.snapshot.now.release c.concept_count.ensures.rising
    c.attribute_count.ensures.by_source)
    (physical_of c.args.plan.now) (may_be g.S.ConceptSet.items_of c.args.candidates.now)
    (g.S.ConceptSet.items_of c.in_ok-found-2.found) (c.in_ok-found-2.ensures.items ∙ c.in_ok-made.ensures.found.items)

-- without a candidate, the empty set is what the plan of groups means among the candidates, and its floor is counted
pub execute_groups-returns-then-none_left-clause-found :
    goal.group_plans::execute_groups-returns-then-none_left-clause-found
execute_groups-returns-then-none_left-clause-found g t c =
    let release = c.args.reader.snapshot.now.release in
    let may : ℕ → Bool = may_be g.S.ConceptSet.items_of c.args.candidates.now in
    record {
      items = none_within (length (all_groups release)) may
          (λ n. some_group_in release (group_means release (logical_groups_of c.args.plan.now))
          (slice_get (all_groups release) n)) (g.S.ConceptSet.items_of c.in_ok-found.found)
          (c.none_left.ensures c.if-none_left.true) c.in_ok-found.ensures.items;
      bound = c.in_ok-found.ensures.bound;
      floor = omega (arith, (rw c.lengths.ensures at c.group_plan_floor.ensures), c.add.ensures.count);
    }

-- without a candidate, the floor that is counted is within the bound of the plan of groups
pub execute_groups-returns-then-none_left-clause-counted :
    goal.group_plans::execute_groups-returns-then-none_left-clause-counted
execute_groups-returns-then-none_left-clause-counted g t c = record {
  grows = c.add.ensures.grows;
  within = omega (
    arith,
    (rw c.lengths.ensures at c.group_plan_floor.ensures),
    c.add.ensures.count,
    group_floor-le-bound c.args.reader.indexes.now (physical_groups_of c.args.plan.now),
  );
}

-- if memory is refused for the empty set of groups, the floor that is counted is within the bound of the plan
pub execute_groups-returns-in_err-found-clause-counted :
    goal.group_plans::execute_groups-returns-in_err-found-clause-counted
execute_groups-returns-in_err-found-clause-counted g t c = record {
  grows = c.add.ensures.grows;
  within = omega (
    arith,
    (rw c.lengths.ensures at c.group_plan_floor.ensures),
    c.add.ensures.count,
    group_floor-le-bound c.args.reader.indexes.now (physical_groups_of c.args.plan.now),
  );
}

-- the answer to a plan of groups has at most as many groups as the size of the plan
pub execute_groups-returns-clause-size : goal.group_plans::execute_groups-returns-clause-size
execute_groups-returns-clause-size g t c =
    few_groups c.args.reader.snapshot.now.release c.args.reader.indexes.now c.args.reader.index
    c.concept_count.ensures.rising
    (sources_known c.args.reader.snapshot.now.release c.concept_count.ensures.rising
    c.attribute_count.ensures.by_source)
    (physical_groups_of c.args.plan.now) (may_be g.S.ConceptSet.items_of c.args.candidates.now)
    (g.S.ConceptSet.items_of c.in_ok-found-2.found) c.in_ok-found-2.ensures.found.items

-- the empty set is what the empty plan means among the candidates
pub execute_node-returns-in-Empty-clause-found : goal.plans::execute_node-returns-in-Empty-clause-found
execute_node-returns-in-Empty-clause-found g t c =
    let release = c.args.reader.snapshot.now.release in
    let may : ℕ → Bool = may_be g.S.ConceptSet.items_of c.args.candidates.now in
    leaf_found g.S.ConceptSet c.args.visits.now c.no_concept.result (length release.concepts)
    (ap (λ (plan : Physical). node_sum (floor_number c.args.reader.indexes.now) plan) (ap physical_of c.in-Empty.is))
    (λ found is. empty_within release may (logical_of c.args.plan.now) found (ap logical_of c.in-Empty.is) is)
    c.no_concept.ensures.items c.no_concept.ensures.bound

-- all candidates are what a plan of all concepts means among them
pub execute_node-returns-in-All-clause-found : goal.plans::execute_node-returns-in-All-clause-found
execute_node-returns-in-All-clause-found g t c =
    let release = c.args.reader.snapshot.now.release in
    let may : ℕ → Bool = may_be g.S.ConceptSet.items_of c.args.candidates.now in
    let every : List ℕ = range_with_len 0 (length release.concepts) in
    leaf_found g.S.ConceptSet c.args.visits.now c.every_candidate.result (length release.concepts)
    (ap (λ (plan : Physical). node_sum (floor_number c.args.reader.indexes.now) plan) (ap physical_of c.in-All.is))
    (λ found is. kept_node release may (logical_of c.args.plan.now) every found
    (all_node release (logical_of c.args.plan.now) every (ap logical_of c.in-All.is) refl) is)
    c.every_candidate.ensures.items c.every_candidate.ensures.bound

-- the concept with the identifier, if it is a candidate, is what a plan of one concept means among them
pub execute_node-returns-in-One-clause-found : goal.plans::execute_node-returns-in-One-clause-found
execute_node-returns-in-One-clause-found g t c =
    let release = c.args.reader.snapshot.now.release in
    let may : ℕ → Bool = may_be g.S.ConceptSet.items_of c.args.candidates.now in
    let one : List ℕ = numbers_in release (λ concept. has_concept release concept && (concept == c.in-One.id)) in
    leaf_found g.S.ConceptSet c.args.visits.now c.one_candidate.result (length release.concepts)
    (ap (λ (plan : Physical). node_sum (floor_number c.args.reader.indexes.now) plan) (ap physical_of c.in-One.is))
    (λ found is. kept_node release may (logical_of c.args.plan.now) one found
    (one_node release (logical_of c.args.plan.now) one c.in-One.id (ap logical_of c.in-One.is) refl) is)
    c.one_candidate.ensures.items c.one_candidate.ensures.bound

-- `execute_minus` finds what a `Minus` node means among the candidates
pub execute_node-returns-in-Minus-clause-found : goal.plans::execute_node-returns-in-Minus-clause-found
execute_node-returns-in-Minus-clause-found g t c =
    plan_answers g.S.ConceptSet c.args.reader.snapshot.now.release c.args.reader.indexes.now c.args.candidates.now
    c.args.visits.now c.execute_minus.new.visits c.execute_minus.result
    (minus_are c.in-Minus.first c.in-Minus.second c.in-Minus.is c.deref-in-Minus.ensures c.deref-in-Minus-2.ensures)
    c.execute_minus.ensures.found

-- `execute_dotted` finds what a `Values` node means among the candidates
pub execute_node-returns-in-Values-clause-found : goal.plans::execute_node-returns-in-Values-clause-found
execute_node-returns-in-Values-clause-found g t c =
    plan_answers g.S.ConceptSet c.args.reader.snapshot.now.release c.args.reader.indexes.now c.args.candidates.now
    c.args.visits.now c.execute_dotted.new.visits c.execute_dotted.result
    (values_are c.in-Values.start c.in-Values.names c.in-Values.is c.deref-in-Values.ensures
    c.deref-in-Values-2.ensures.value) c.execute_dotted.ensures.found

-- the empty set is what the plan of no group means among the candidates
pub execute_group_node-returns-in-Nothing-clause-found :
    goal.group_plans::execute_group_node-returns-in-Nothing-clause-found
execute_group_node-returns-in-Nothing-clause-found g t c =
    let release = c.args.reader.snapshot.now.release in
    let may : ℕ → Bool = may_be g.S.ConceptSet.items_of c.args.candidates.now in
    leaf_found g.S.ConceptSet c.args.visits.now c.no_group.result (length (all_groups release))
    (ap (λ (plan : PhysicalGroups). group_sum (floor_number c.args.reader.indexes.now) plan)
    (ap physical_groups_of c.in-Nothing.is))
    (λ found is. nothing_within release may (logical_groups_of c.args.plan.now) found
    (ap logical_groups_of c.in-Nothing.is) is)
    c.no_group.ensures.items c.no_group.ensures.bound

-- all candidate groups are what the plan of every group means among them
pub execute_group_node-returns-in-Every-clause-found :
    goal.group_plans::execute_group_node-returns-in-Every-clause-found
execute_group_node-returns-in-Every-clause-found g t c =
    let release = c.args.reader.snapshot.now.release in
    let may : ℕ → Bool = may_be g.S.ConceptSet.items_of c.args.candidates.now in
    let every : List ℕ = range_with_len 0 (length (all_groups release)) in
    leaf_found g.S.ConceptSet c.args.visits.now c.every_candidate_group.result (length (all_groups release))
    (ap (λ (plan : PhysicalGroups). group_sum (floor_number c.args.reader.indexes.now) plan)
    (ap physical_groups_of c.in-Every.is))
    (λ found is. kept_groups release may (group_means release (logical_groups_of c.args.plan.now)) every found
    (groups.every_node release (logical_groups_of c.args.plan.now) every (ap logical_groups_of c.in-Every.is) refl) is)
    c.every_candidate_group.ensures.items c.every_candidate_group.ensures.bound

-- `execute_group_minus` finds what a `Minus` node of groups means among the candidates
pub execute_group_node-returns-in-Minus-clause-found :
    goal.group_plans::execute_group_node-returns-in-Minus-clause-found
execute_group_node-returns-in-Minus-clause-found g t c =
    groups_answer g.S.ConceptSet c.args.reader.snapshot.now.release c.args.reader.indexes.now c.args.candidates.now
    c.args.visits.now c.execute_group_minus.new.visits c.execute_group_minus.result
    (minus_group_plan_is c.in-Minus.first c.in-Minus.second c.in-Minus.is c.deref-in-Minus.ensures
    c.deref-in-Minus-2.ensures) c.execute_group_minus.ensures.found

-- the rows of the concept that the plan names are the rows of what the node finds
pub execute_node-returns-in-One-clause-adds : goal.plans::execute_node-returns-in-One-clause-adds
execute_node-returns-in-One-clause-adds g t c =
    let release = c.args.reader.snapshot.now.release in
    let one : List ℕ = numbers_in release (λ concept. has_concept release concept && (concept == c.in-One.id)) in
    IfOk-weaker c.one_candidate.result _ _
    (λ found is.
    subst (λ (values : List ℕ). Adds values c.args.estimate.now c.estimate_named.new.estimate) (sym is)
    (adds_some (may_be g.S.ConceptSet.items_of c.args.candidates.now) one c.args.estimate.now
    c.estimate_named.new.estimate
    (named_adds release c.in-One.id c.args.estimate.now c.estimate_named.new.estimate (plan_of c.args.plan.now)
    (ap plan_of c.in-One.is) c.estimate_named.ensures)))
    c.one_candidate.ensures.items
