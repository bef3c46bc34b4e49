-- Answers of the nodes that count groups.
use Rattle.std.proofs.Common.{subst, ℕ, List, ◌∙◌, Bool}
use Rattle.std.proofs.Common.{length, sym, ap, refl, arith}
use Rattle.std.specs.Prelude.{filter}
use Rattle.set_algebra.specs.Meaning.{group_means, has_groups}
use Rattle.candidates.specs.declared.candidates.Candidates.{Candidates}
use Rattle.pair_sets.proofs.GroupNumberLemmas.{groups_found, group_plan_within as groups_of_candidates}
use Rattle.executor.specs.inside.Logical.{logical_groups_of}
use Rattle.postings.specs.Groups.{all_groups}
use Rattle.executor.specs.inside.WithGroups.{having_groups}
use Rattle.candidates.specs.Extents.{IsStatsOf}
use Rattle.candidates.specs.Within.{HaveStats, may_be, numbers_within}
use Rattle.candidates.specs.declared.candidates.Candidates.TheVariants as candidates
use Rattle.executor.proofs.PartWork.{few_of_candidates}
use Rattle.candidates.proofs.WithinLemmas.{kept_set}
use Rattle.executor.proofs.WithinNodes.{execute_units as groups_as_plan}
use Rattle.executor.proofs.+execute.Goals as goal

-- if the groups of the candidates are few, executing the plan for these groups finds the candidates that the node
-- means
pub execute_units-returns-then-has_few_groups-clause-found :
    goal.plans::execute_units-returns-then-has_few_groups-clause-found
execute_units-returns-then-has_few_groups-clause-found g t c =
    let release = c.args.reader.snapshot.now.release in
    let some : List ℕ = having_groups release c.args.count (g.S.ConceptSet.items_of c.in_ok-groups.groups) in
    record {
      items = groups_of_candidates release c.concept_count.ensures.rising c.args.count
          (group_means release (logical_groups_of c.args.units.now))
          (g.S.ConceptSet.items_of c.in-Within.wanted.now) (g.S.ConceptSet.items_of c.in_ok-own.own)
          (g.S.ConceptSet.items_of c.in_ok-groups.groups)
          some (g.S.ConceptSet.items_of c.in_ok-found.found) c.in_ok-own.ensures.groups
          c.in_ok-groups.ensures.found.items refl
          (c.in_ok-found.ensures.found.items
          ∙ ap (λ (candidates : Candidates _). filter (may_be g.S.ConceptSet.items_of candidates) some) c.in-Within.is)
          ∙ ap (λ (candidates : Candidates _). numbers_within release (may_be g.S.ConceptSet.items_of candidates)
          (has_groups release c.args.count (group_means release (logical_groups_of c.args.units.now))))
          (sym c.in-Within.is)
          ∙ groups_as_plan release (may_be g.S.ConceptSet.items_of c.args.candidates.now) c.args.count
          (logical_groups_of c.args.units.now);
      bound = c.in_ok-found.ensures.found.bound;
      floor = omega (arith, c.in_ok-groups.ensures.found.floor, c.in_ok-found.ensures.found.floor);
    }

-- if the plan is executed for all groups, restricting the concepts found to the candidates gives what the node means
pub execute_units-returns-clause-found : goal.plans::execute_units-returns-clause-found
execute_units-returns-clause-found g t c =
    let release = c.args.reader.snapshot.now.release in
    let may : ℕ → Bool = may_be g.S.ConceptSet.items_of c.args.candidates.now in
    let some : List ℕ = having_groups release c.args.count (g.S.ConceptSet.items_of c.in_ok-groups-2.groups) in
    record {
      items = kept_set release may
          (has_groups release c.args.count (group_means release (logical_groups_of c.args.units.now)))
          some (g.S.ConceptSet.items_of c.in_ok-found-2.found)
          (groups_found release c.concept_count.ensures.rising c.args.count
          (group_means release (logical_groups_of c.args.units.now))
          (g.S.ConceptSet.items_of c.in_ok-groups-2.groups) some c.in_ok-groups-2.ensures.found.items refl)
          c.in_ok-found-2.ensures.found.items
          ∙ groups_as_plan release (may_be g.S.ConceptSet.items_of c.args.candidates.now) c.args.count
          (logical_groups_of c.args.units.now);
      bound = c.in_ok-found-2.ensures.found.bound;
      floor = omega (arith, c.in_ok-groups-2.ensures.found.floor, c.in_ok-found-2.ensures.found.floor);
    }

-- if the groups of the candidates are few, the visits are within the bound of the node that counts groups
pub execute_units-returns-then-has_few_groups-clause-counted :
    goal.plans::execute_units-returns-then-has_few_groups-clause-counted
execute_units-returns-then-has_few_groups-clause-counted g t c =
    let release = c.args.reader.snapshot.now.release in
    let indexed = c.args.reader.indexes.now in
    let own = g.S.ConceptSet.items_of c.in_ok-own.own in
    let groups = g.S.ConceptSet.items_of c.in_ok-groups.groups in
    let stats : HaveStats g.S.ConceptSet.items_of (IsStatsOf indexed)
    (candidates.Within c.in-Within.wanted c.in-Within.stats) =
    subst (HaveStats g.S.ConceptSet.items_of (IsStatsOf indexed)) c.in-Within.is c.requires.candidates.stats in
    let fewer = few_of_candidates (length (all_groups release)) own _ groups c.in_ok-groups.ensures.found.items in
    let room = c.has_few_groups.ensures c.if-has_few_groups.true (length groups)
    (omega (
      arith,
      fewer,
      c.in_ok-own.ensures.few,
      stats.groups,
      c.in_ok-groups.ensures.size,
      (rw c.lengths-lengths.ensures at c.group_plan_size-most.ensures),
      c.group_plan_size-most.type_inv,
    )) in
    record {
      grows = omega (
        arith,
        c.groups_of.ensures.counted.grows,
        c.group_stats_of.ensures.counted.grows,
        c.execute_groups.ensures.counted.grows,
        c.found_by_groups.ensures.counted.grows,
      );
      within = omega (
        arith,
        (rw c.lengths-lengths.ensures at c.group_plan_size-most.ensures),
        stats.items,
        stats.groups,
        c.in_ok-own.ensures.few,
        c.groups_of.ensures.counted.count,
        c.group_stats_of.ensures.counted.within,
        c.execute_groups.ensures.counted.within,
        c.found_by_groups.ensures.counted.within,
        c.found_by_groups.new.visits.fits,
        room,
      );
    }

-- if memory is refused while the groups found are counted by concept, the visits are within the bound of the node
-- that counts groups
pub execute_units-returns-in_err-found-clause-counted :
    goal.plans::execute_units-returns-in_err-found-clause-counted
execute_units-returns-in_err-found-clause-counted g t c =
    let release = c.args.reader.snapshot.now.release in
    let indexed = c.args.reader.indexes.now in
    let own = g.S.ConceptSet.items_of c.in_ok-own.own in
    let groups = g.S.ConceptSet.items_of c.in_ok-groups.groups in
    let stats : HaveStats g.S.ConceptSet.items_of (IsStatsOf indexed)
    (candidates.Within c.in-Within.wanted c.in-Within.stats) =
    subst (HaveStats g.S.ConceptSet.items_of (IsStatsOf indexed)) c.in-Within.is c.requires.candidates.stats in
    let fewer = few_of_candidates (length (all_groups release)) own _ groups c.in_ok-groups.ensures.found.items in
    let room = c.has_few_groups.ensures c.if-has_few_groups.true (length groups)
    (omega (
      arith,
      fewer,
      c.in_ok-own.ensures.few,
      stats.groups,
      c.in_ok-groups.ensures.size,
      (rw c.lengths-lengths.ensures at c.group_plan_size-most.ensures),
      c.group_plan_size-most.type_inv,
    )) in
    record {
      grows = omega (
        arith,
        c.groups_of.ensures.counted.grows,
        c.group_stats_of.ensures.counted.grows,
        c.execute_groups.ensures.counted.grows,
        c.found_by_groups.ensures.counted.grows,
      );
      within = omega (
        arith,
        (rw c.lengths-lengths.ensures at c.group_plan_size-most.ensures),
        stats.items,
        stats.groups,
        c.in_ok-own.ensures.few,
        c.groups_of.ensures.counted.count,
        c.group_stats_of.ensures.counted.within,
        c.execute_groups.ensures.counted.within,
        c.found_by_groups.ensures.counted.within,
        c.found_by_groups.new.visits.fits,
        room,
      );
    }
