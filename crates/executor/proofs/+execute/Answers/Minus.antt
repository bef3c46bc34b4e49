-- Answers of the nodes that mean what their first part means and their second part does not.
use Rattle.std.proofs.Common.{ℕ, Bool}
use Rattle.std.proofs.Common.{length, get_or, refl, arith, rules}
use Rattle.std.specs.Prelude.{slice_get}
use Rattle.set_algebra.specs.Meaning.{group_means, means}
use Rattle.set_algebra.specs.Plan.{Plan, PlanOfGroups, minus_plan, minus_group_plan}
use Rattle.executor.specs.inside.Logical.{logical_of, logical_groups_of}
use Rattle.postings.specs.Groups.{all_groups}
use Rattle.candidates.specs.Groups.{some_group_in}
use Rattle.candidates.specs.Within.{may_be}
use Rattle.executor.proofs.NodeWork.{counted_minus}
use Rattle.executor.proofs.PartWork.{are_candidates, few_of_candidates}
use Rattle.executor.proofs.WithinNodes.{minus_groups, minus_node}
use Rattle.executor.proofs.+execute.Goals as goal

-- what the first part has found and the second has not is what the difference means among the candidates
pub execute_minus-returns-clause-found : goal.plans::execute_minus-returns-clause-found
execute_minus-returns-clause-found g t c =
    let release = c.args.reader.snapshot.now.release in
    let may : ℕ → Bool = may_be g.S.ConceptSet.items_of c.args.candidates.now in
    let first : Plan = logical_of c.args.first.now in
    let second : Plan = logical_of c.args.second.now in
    record {
      items = minus_node release may (minus_plan first second) first second (g.S.ConceptSet.items_of c.in_ok-left.left)
          (g.S.ConceptSet.items_of c.in_ok-right.right) (g.S.ConceptSet.items_of c.in_ok-found.found) refl
          c.in_ok-left.ensures.found.items c.in_ok-right.ensures.found.items c.in_ok-found.ensures.items;
      bound = search rules;
      floor = omega (
        arith,
        c.in_ok-left.ensures.found.floor,
        c.second_part.ensures.counted.grows,
        c.in_ok-right.ensures.found.floor,
        c.minus.ensures.counted.grows,
      );
    }

-- the groups that the first part has found and the second has not are what the difference means among the candidates
pub execute_group_minus-returns-clause-found : goal.group_plans::execute_group_minus-returns-clause-found
execute_group_minus-returns-clause-found g t c =
    let release = c.args.reader.snapshot.now.release in
    let may : ℕ → Bool = may_be g.S.ConceptSet.items_of c.args.candidates.now in
    let first : PlanOfGroups = logical_groups_of c.args.first.now in
    let second : PlanOfGroups = logical_groups_of c.args.second.now in
    record {
      items = minus_groups release may (minus_group_plan first second) first second
          (g.S.ConceptSet.items_of c.in_ok-left.left)
          (g.S.ConceptSet.items_of c.in_ok-right.right) (g.S.ConceptSet.items_of c.in_ok-groups.groups) refl
          c.in_ok-left.ensures.found.items c.in_ok-right.ensures.found.items c.in_ok-groups.ensures.items;
      bound = search rules;
      floor = omega (
        arith,
        c.in_ok-left.ensures.found.floor,
        c.second_group_part.ensures.counted.grows,
        c.in_ok-right.ensures.found.floor,
        c.minus.ensures.counted.grows,
      );
    }

-- what the first part has found are candidates, as `second_part` requires
pub execute_minus-second_part-requires-clause-among :
    goal.plans::execute_minus-second_part-requires-clause-among
execute_minus-second_part-requires-clause-among g t c =
    let release = c.args.reader.snapshot.now.release in
    are_candidates (length release.concepts) (may_be g.S.ConceptSet.items_of c.args.candidates.now)
    (λ n. means release (logical_of c.args.first.now) (get_or release.concepts n 0))
    (g.S.ConceptSet.items_of c.in_ok-left.left) c.in_ok-left.ensures.found.items

-- the groups that the first part has found are candidates, as `second_group_part` requires
pub execute_group_minus-second_group_part-requires-clause-among :
    goal.group_plans::execute_group_minus-second_group_part-requires-clause-among
execute_group_minus-second_group_part-requires-clause-among g t c =
    let release = c.args.reader.snapshot.now.release in
    are_candidates (length (all_groups release)) (may_be g.S.ConceptSet.items_of c.args.candidates.now)
    (λ n. some_group_in release (group_means release (logical_groups_of c.args.first.now))
    (slice_get (all_groups release) n))
    (g.S.ConceptSet.items_of c.in_ok-left.left) c.in_ok-left.ensures.found.items

-- the visits of both parts and of the difference itself are within the bound of the difference
pub execute_minus-returns-clause-counted : goal.plans::execute_minus-returns-clause-counted
execute_minus-returns-clause-counted g t c =
    counted_minus c.execute_within.ensures.counted c.second_part.ensures.counted c.execute_within-2.ensures.counted
    c.minus.ensures.counted
    (few_of_candidates (length c.args.reader.snapshot.now.release.concepts) (g.S.ConceptSet.items_of c.in_ok-left.left)
    _
    (g.S.ConceptSet.items_of c.in_ok-right.right) c.in_ok-right.ensures.found.items)
    c.in_ok-right.ensures.size (omega (arith, c.in_ok-left.ensures.size)) (omega arith)

-- if memory is refused while what the second part has found is taken away, the visits are within the bound of the
-- difference
pub execute_minus-returns-in_err-found-clause-counted : goal.plans::execute_minus-returns-in_err-found-clause-counted
execute_minus-returns-in_err-found-clause-counted g t c =
    counted_minus c.execute_within.ensures.counted c.second_part.ensures.counted c.execute_within-2.ensures.counted
    c.minus.ensures.counted
    (few_of_candidates (length c.args.reader.snapshot.now.release.concepts) (g.S.ConceptSet.items_of c.in_ok-left.left)
    _
    (g.S.ConceptSet.items_of c.in_ok-right.right) c.in_ok-right.ensures.found.items)
    c.in_ok-right.ensures.size (omega (arith, c.in_ok-left.ensures.size)) (omega arith)

-- the visits of both parts of groups and of the difference itself are within the bound of the difference
pub execute_group_minus-returns-clause-counted : goal.group_plans::execute_group_minus-returns-clause-counted
execute_group_minus-returns-clause-counted g t c =
    counted_minus c.execute_groups.ensures.counted c.second_group_part.ensures.counted
    c.execute_groups-2.ensures.counted c.minus.ensures.counted
    (few_of_candidates (length (all_groups c.args.reader.snapshot.now.release))
    (g.S.ConceptSet.items_of c.in_ok-left.left) _
    (g.S.ConceptSet.items_of c.in_ok-right.right) c.in_ok-right.ensures.found.items)
    c.in_ok-right.ensures.size (omega (arith, c.in_ok-left.ensures.size)) (omega arith)

-- if memory is refused while the groups that the second part has found are taken away, the visits are within the
-- bound of the difference
pub execute_group_minus-returns-in_err-groups-clause-counted :
    goal.group_plans::execute_group_minus-returns-in_err-groups-clause-counted
execute_group_minus-returns-in_err-groups-clause-counted g t c =
    counted_minus c.execute_groups.ensures.counted c.second_group_part.ensures.counted
    c.execute_groups-2.ensures.counted c.minus.ensures.counted
    (few_of_candidates (length (all_groups c.args.reader.snapshot.now.release))
    (g.S.ConceptSet.items_of c.in_ok-left.left) _
    (g.S.ConceptSet.items_of c.in_ok-right.right) c.in_ok-right.ensures.found.items)
    c.in_ok-right.ensures.size (omega (arith, c.in_ok-left.ensures.size)) (omega arith)
