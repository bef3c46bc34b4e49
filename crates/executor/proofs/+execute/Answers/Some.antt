-- Answers of the nodes that mean what at least one of their parts means.
use Rattle.std.proofs.Common.{subst, le_trans, ℕ, List, ◌+◌, ◌*◌, ◌≤◌, ◌∙◌, ◌&&◌, Bool}
use Rattle.std.proofs.Common.{length, get_or, sym, ap, arith, take}
use Rattle.std.specs.Prelude.{slice_get}
use Rattle.std.specs.List.{list_any}
use Rattle.std.proofs.lemmas.List.{take_all}
use Rattle.set_algebra.specs.declared.plan.ConceptPlan.{ConceptPlan}
use Rattle.set_algebra.specs.declared.plan.UnitPlan.{UnitPlan}
use Rattle.set_algebra.specs.Meaning.{group_means, means}
use Rattle.set_algebra.specs.Physical.{physical_groups_list_of}
use Rattle.set_algebra.specs.Physical.{physicals_of}
use Rattle.executor.specs.inside.Logical.{logical_of, logical_groups_of}
use Rattle.number_lists.specs.Rising.{IsRisingBelow, numbers_where}
use Rattle.postings.specs.Groups.{all_groups}
use Rattle.candidates.specs.Groups.{some_group_in}
use Rattle.candidates.specs.RowEstimates.{Adds}
use Rattle.candidates.specs.Within.{groups_within, may_be, numbers_within}
use Rattle.candidates.proofs.AddsLemmas.{adds_both, adds_none}
use Rattle.plan_bounds.specs.Bounds.{own_number}
use Rattle.plan_bounds.specs.Nodes.{groups_sum, plans_sum}
use Rattle.plan_bounds.specs.Sizes.{group_sizes, sizes, total}
use Rattle.plan_bounds.proofs.PartLemmas.{group_count-parts, plan_count-parts}
use Rattle.pair_sets.proofs.LeafLemmas.{sources_known}
use Rattle.executor.proofs.PartWork.{concepts_found}
use Rattle.executor.proofs.PartWork.{few_joined, few_joined_groups, groups_found}
use Rattle.candidates.proofs.WithinLemmas.{some_of_none}
use Rattle.candidates.proofs.WithinLemmas.{some_within}
use Rattle.executor.proofs.WithinNodes.{any_done}
use Rattle.executor.proofs.WithinNodes.{or_groups, or_within}
use Rattle.executor.proofs.WorkLemmas.{counted_without, joined_reads}
use Rattle.executor.proofs.WorkLemmas.{some_end, some_next, some_start, some_turn}
use Rattle.executor.proofs.WorkLemmas.{times_less, times_more}
use Rattle.executor.proofs.+execute.Goals as goal

-- before the first part, the empty set meets the invariant of the disjunction
pub execute_or-loop-part-init : goal.joined_plans::execute_or-loop-part-init
execute_or-loop-part-init g t c =
    let release = c.args.reader.snapshot.now.release in
    let may : ℕ → Bool = may_be g.S.ConceptSet.items_of c.args.candidates.now in
    record {
      items = some_of_none (length release.concepts) may (g.S.ConceptSet.items_of c.in_ok-found.found)
          c.in_ok-found.ensures.items;
      bound = c.in_ok-found.ensures.bound;
      adds = subst (λ (values : List ℕ). Adds values c.args.estimate.now c.args.estimate.now)
          (sym c.in_ok-found.ensures.items) (adds_none c.args.estimate.now);
      work = some_start c.args.visits.now.count;
    }

-- a turn that joins what a part has found to what was found so far keeps the invariant of the disjunction
pub execute_or-loop-part-preserved : goal.joined_plans::execute_or-loop-part-preserved
execute_or-loop-part-preserved g t c =
    let release = c.args.reader.snapshot.now.release in
    let indexed = c.args.reader.indexes.now in
    let may : ℕ → Bool = may_be g.S.ConceptSet.items_of c.args.candidates.now in
    record {
      items = some_within (length release.concepts) (λ (p : ConceptPlan) (n : ℕ). means release (logical_of p)
          (get_or release.concepts n 0)) c.args.parts.now c.loop-part.part-index c.part-item.result
          c.loop-part-test.true
          may (g.S.ConceptSet.bound_of c.loop-part.found) c.loop-part.invariant.bound
          (g.S.ConceptSet.items_of c.loop-part.found) (g.S.ConceptSet.items_of c.in_ok-next.next)
          (g.S.ConceptSet.items_of c.in_ok-found-2.found)
          c.loop-part.invariant.items
          (c.in_ok-next.ensures.found.items
          ∙ ap (λ (p : ConceptPlan). numbers_within release may (means release (logical_of p))) c.part-item.is)
          c.in_ok-found-2.ensures.items;
      bound = c.in_ok-found-2.ensures.bound ∙ c.loop-part.invariant.bound;
      adds = subst (λ (values : List ℕ). Adds values c.args.estimate.now c.execute_estimated.new.estimate)
          (sym c.in_ok-found-2.ensures.items)
          (adds_both (g.S.ConceptSet.bound_of c.loop-part.found) (g.S.ConceptSet.items_of c.loop-part.found)
          (g.S.ConceptSet.items_of c.in_ok-next.next)
          c.args.estimate.now c.loop-part.estimate c.execute_estimated.new.estimate
          (g.met.S.ConceptSet.rising c.loop-part.found)
          (subst (λ (bound : ℕ). IsRisingBelow bound (g.S.ConceptSet.items_of c.in_ok-next.next))
          (c.in_ok-next.ensures.found.bound ∙ sym c.loop-part.invariant.bound)
          (g.met.S.ConceptSet.rising c.in_ok-next.next))
          c.loop-part.invariant.adds c.in_ok-next.ensures.adds);
      work = some_turn c.loop-part.invariant.work c.part-item.result c.loop-part-test.true c.part-item.is
          (length (g.S.ConceptSet.items_of c.loop-part.found) + length (g.S.ConceptSet.items_of c.in_ok-next.next))
          (joined_reads (concepts_found indexed) c.args.parts.now c.loop-part.part-index c.part-item.result
          c.loop-part-test.true c.part-item.is
          (length (g.S.ConceptSet.items_of c.loop-part.found)) (length (g.S.ConceptSet.items_of c.in_ok-next.next))
          (few_joined release indexed c.args.reader.index c.concept_count.ensures.rising
          (sources_known release c.concept_count.ensures.rising c.attribute_count.ensures.by_source)
          (take c.loop-part.part-index c.args.parts.now) may (g.S.ConceptSet.items_of c.loop-part.found)
          c.loop-part.invariant.items)
          c.in_ok-next.ensures.size)
          (omega (arith, c.execute_estimated.ensures.counted.grows, c.or.ensures.counted.grows))
          (omega (arith, c.execute_estimated.ensures.counted.within, c.or.ensures.counted.count))
          (omega (arith, c.in_ok-next.ensures.found.floor, c.or.ensures.counted.grows));
    }

-- if memory is refused while a part is executed, the visits are within the bound of the disjunction
pub execute_or-returns-in_err-next-clause-counted :
    goal.joined_plans::execute_or-returns-in_err-next-clause-counted
execute_or-returns-in_err-next-clause-counted g t c =
    let indexed = c.args.reader.indexes.now in
    let all : ℕ = total (sizes indexed (physicals_of c.args.parts.now)) in
    let most : ℕ = plans_sum (own_number indexed) (physicals_of c.args.parts.now) in
    record {
      grows = le_trans c.loop-part.invariant.work.grows c.execute_estimated.ensures.counted.grows;
      within = subst (λ (count : ℕ). c.execute_estimated.new.visits.count
          ≤ c.args.visits.now.count + (count * all + most))
          (sym (plan_count-parts c.args.parts.now))
          (some_next {next = c.execute_estimated.new.visits.count} c.loop-part.invariant.work c.part-item.result
          c.loop-part-test.true c.part-item.is 0
          (times_less all c.loop-part-test.true) (counted_without _ _ c.execute_estimated.ensures.counted.within));
    }

-- if memory is refused while what a part has found is joined to what was found so far, the visits are within the
-- bound of the disjunction
pub execute_or-returns-in_err-found-2-clause-counted :
    goal.joined_plans::execute_or-returns-in_err-found-2-clause-counted
execute_or-returns-in_err-found-2-clause-counted g t c =
    let release = c.args.reader.snapshot.now.release in
    let indexed = c.args.reader.indexes.now in
    let may : ℕ → Bool = may_be g.S.ConceptSet.items_of c.args.candidates.now in
    let all : ℕ = total (sizes indexed (physicals_of c.args.parts.now)) in
    let reads =
    joined_reads (concepts_found indexed) c.args.parts.now c.loop-part.part-index c.part-item.result
    c.loop-part-test.true c.part-item.is
    (length (g.S.ConceptSet.items_of c.loop-part.found)) (length (g.S.ConceptSet.items_of c.in_ok-next.next))
    (few_joined release indexed c.args.reader.index c.concept_count.ensures.rising
    (sources_known release c.concept_count.ensures.rising c.attribute_count.ensures.by_source)
    (take c.loop-part.part-index c.args.parts.now) may (g.S.ConceptSet.items_of c.loop-part.found)
    c.loop-part.invariant.items)
    c.in_ok-next.ensures.size in
    let most : ℕ = plans_sum (own_number indexed) (physicals_of c.args.parts.now) in
    record {
      grows = omega (
        arith,
        c.loop-part.invariant.work.grows,
        c.execute_estimated.ensures.counted.grows,
        c.or.ensures.counted.grows,
      );
      within = subst (λ (count : ℕ). c.or.new.visits.count ≤ c.args.visits.now.count + (count * all + most))
          (sym (plan_count-parts c.args.parts.now))
          (some_next {next = c.or.new.visits.count} c.loop-part.invariant.work c.part-item.result c.loop-part-test.true
          c.part-item.is
          (length (g.S.ConceptSet.items_of c.loop-part.found) + length (g.S.ConceptSet.items_of c.in_ok-next.next))
          (le_trans reads (times_more all c.loop-part-test.true))
          (omega (arith, c.execute_estimated.ensures.counted.within, c.or.ensures.counted.count)));
    }

-- at the end the visits are within the bound of the disjunction
pub execute_or-returns-clause-counted : goal.joined_plans::execute_or-returns-clause-counted
execute_or-returns-clause-counted g t c =
    let indexed = c.args.reader.indexes.now in
    record {
      grows = c.loop-part.invariant.work.grows;
      within = omega (
        arith,
        (some_end c.loop-part.invariant.work (omega arith)).within,
        ap (λ (count : ℕ). count * total (sizes indexed (physicals_of c.args.parts.now)))
            (plan_count-parts c.args.parts.now),
      );
    }

-- at the end what was found is what at least one part means among the candidates, and the floors of all parts are
-- counted
pub execute_or-returns-clause-found : goal.joined_plans::execute_or-returns-clause-found
execute_or-returns-clause-found g t c =
    let release = c.args.reader.snapshot.now.release in
    let may : ℕ → Bool = may_be g.S.ConceptSet.items_of c.args.candidates.now in
    record {
      items = c.loop-part.invariant.items
          ∙ ap (λ (parts : List ConceptPlan). numbers_within release may
          (λ concept. list_any (λ part. means release (logical_of part) concept) parts))
          (take_all c.loop-part.part-index c.args.parts.now (omega arith))
          ∙ or_within release may c.args.parts.now;
      bound = c.loop-part.invariant.bound;
      floor = omega (arith, (some_end c.loop-part.invariant.work (omega arith)).floor);
    }

-- before the first part of groups, the empty set meets the invariant of the disjunction
pub execute_group_or-loop-part-init : goal.group_plans::execute_group_or-loop-part-init
execute_group_or-loop-part-init g t c =
    let release = c.args.reader.snapshot.now.release in
    let may : ℕ → Bool = may_be g.S.ConceptSet.items_of c.args.candidates.now in
    record {
      items = some_of_none (length (all_groups release)) may (g.S.ConceptSet.items_of c.in_ok-groups.groups)
          c.in_ok-groups.ensures.items;
      bound = c.in_ok-groups.ensures.bound;
      work = some_start c.args.visits.now.count;
    }

-- a turn that joins the groups that a part has found to those found so far keeps the invariant of the disjunction
pub execute_group_or-loop-part-preserved : goal.group_plans::execute_group_or-loop-part-preserved
execute_group_or-loop-part-preserved g t c =
    let release = c.args.reader.snapshot.now.release in
    let indexed = c.args.reader.indexes.now in
    let may : ℕ → Bool = may_be g.S.ConceptSet.items_of c.args.candidates.now in
    record {
      items = some_within (length (all_groups release)) (λ (p : UnitPlan) (n : ℕ). some_group_in release
          (group_means release (logical_groups_of p))
          (slice_get (all_groups release) n)) c.args.parts.now c.loop-part.part-index c.part-item.result
          c.loop-part-test.true
          may (g.S.ConceptSet.bound_of c.loop-part.groups) c.loop-part.invariant.bound
          (g.S.ConceptSet.items_of c.loop-part.groups) (g.S.ConceptSet.items_of c.in_ok-next.next)
          (g.S.ConceptSet.items_of c.in_ok-groups-2.groups)
          c.loop-part.invariant.items
          (c.in_ok-next.ensures.found.items
          ∙ ap (λ (p : UnitPlan). groups_within release may (group_means release (logical_groups_of p))) c.part-item.is)
          c.in_ok-groups-2.ensures.items;
      bound = c.in_ok-groups-2.ensures.bound ∙ c.loop-part.invariant.bound;
      work = some_turn c.loop-part.invariant.work c.part-item.result c.loop-part-test.true c.part-item.is
          (length (g.S.ConceptSet.items_of c.loop-part.groups) + length (g.S.ConceptSet.items_of c.in_ok-next.next))
          (joined_reads (groups_found indexed) c.args.parts.now c.loop-part.part-index c.part-item.result
          c.loop-part-test.true c.part-item.is
          (length (g.S.ConceptSet.items_of c.loop-part.groups)) (length (g.S.ConceptSet.items_of c.in_ok-next.next))
          (few_joined_groups release indexed c.args.reader.index c.concept_count.ensures.rising
          (sources_known release c.concept_count.ensures.rising c.attribute_count.ensures.by_source)
          (take c.loop-part.part-index c.args.parts.now) may (g.S.ConceptSet.items_of c.loop-part.groups)
          (any_done release may (take c.loop-part.part-index c.args.parts.now)
          (g.S.ConceptSet.items_of c.loop-part.groups) c.loop-part.invariant.items))
          c.in_ok-next.ensures.size)
          (omega (arith, c.execute_groups.ensures.counted.grows, c.or.ensures.counted.grows))
          (omega (arith, c.execute_groups.ensures.counted.within, c.or.ensures.counted.count))
          (omega (arith, c.in_ok-next.ensures.found.floor, c.or.ensures.counted.grows));
    }

-- if memory is refused while a part of groups is executed, the visits are within the bound of the disjunction
pub execute_group_or-returns-in_err-next-clause-counted :
    goal.group_plans::execute_group_or-returns-in_err-next-clause-counted
execute_group_or-returns-in_err-next-clause-counted g t c =
    let indexed = c.args.reader.indexes.now in
    let all : ℕ = total (group_sizes indexed (physical_groups_list_of c.args.parts.now)) in
    let most : ℕ = groups_sum (own_number indexed) (physical_groups_list_of c.args.parts.now) in
    record {
      grows = le_trans c.loop-part.invariant.work.grows c.execute_groups.ensures.counted.grows;
      within = subst (λ (count : ℕ). c.execute_groups.new.visits.count ≤ c.args.visits.now.count + (count * all + most))
          (sym (group_count-parts c.args.parts.now))
          (some_next {next = c.execute_groups.new.visits.count} c.loop-part.invariant.work c.part-item.result
          c.loop-part-test.true c.part-item.is 0
          (times_less all c.loop-part-test.true) (counted_without _ _ c.execute_groups.ensures.counted.within));
    }

-- if memory is refused while the groups that a part has found are joined to those found so far, the visits are within
-- the bound of the disjunction
pub execute_group_or-returns-in_err-groups-2-clause-counted :
    goal.group_plans::execute_group_or-returns-in_err-groups-2-clause-counted
execute_group_or-returns-in_err-groups-2-clause-counted g t c =
    let release = c.args.reader.snapshot.now.release in
    let indexed = c.args.reader.indexes.now in
    let may : ℕ → Bool = may_be g.S.ConceptSet.items_of c.args.candidates.now in
    let all : ℕ = total (group_sizes indexed (physical_groups_list_of c.args.parts.now)) in
    let reads =
    joined_reads (groups_found indexed) c.args.parts.now c.loop-part.part-index c.part-item.result
    c.loop-part-test.true c.part-item.is
    (length (g.S.ConceptSet.items_of c.loop-part.groups)) (length (g.S.ConceptSet.items_of c.in_ok-next.next))
    (few_joined_groups release indexed c.args.reader.index c.concept_count.ensures.rising
    (sources_known release c.concept_count.ensures.rising c.attribute_count.ensures.by_source)
    (take c.loop-part.part-index c.args.parts.now) may (g.S.ConceptSet.items_of c.loop-part.groups)
    (any_done release may (take c.loop-part.part-index c.args.parts.now) (g.S.ConceptSet.items_of c.loop-part.groups)
    c.loop-part.invariant.items))
    c.in_ok-next.ensures.size in
    let most : ℕ = groups_sum (own_number indexed) (physical_groups_list_of c.args.parts.now) in
    record {
      grows = omega (
        arith,
        c.loop-part.invariant.work.grows,
        c.execute_groups.ensures.counted.grows,
        c.or.ensures.counted.grows,
      );
      within = subst (λ (count : ℕ). c.or.new.visits.count ≤ c.args.visits.now.count + (count * all + most))
          (sym (group_count-parts c.args.parts.now))
          (some_next {next = c.or.new.visits.count} c.loop-part.invariant.work c.part-item.result c.loop-part-test.true
          c.part-item.is
          (length (g.S.ConceptSet.items_of c.loop-part.groups) + length (g.S.ConceptSet.items_of c.in_ok-next.next))
          (le_trans reads (times_more all c.loop-part-test.true))
          (omega (arith, c.execute_groups.ensures.counted.within, c.or.ensures.counted.count)));
    }

-- at the end the visits are within the bound of the disjunction of groups
pub execute_group_or-returns-clause-counted : goal.group_plans::execute_group_or-returns-clause-counted
execute_group_or-returns-clause-counted g t c =
    let indexed = c.args.reader.indexes.now in
    let all : ℕ = total (group_sizes indexed (physical_groups_list_of c.args.parts.now)) in
    record {
      grows = c.loop-part.invariant.work.grows;
      within = omega (
        arith,
        (some_end c.loop-part.invariant.work (omega arith)).within,
        ap (λ (count : ℕ). count * all) (group_count-parts c.args.parts.now),
      );
    }

-- at the end the groups found are what at least one part means among the candidates, and the floors of all parts are
-- counted
pub execute_group_or-returns-clause-found : goal.group_plans::execute_group_or-returns-clause-found
execute_group_or-returns-clause-found g t c =
    let release = c.args.reader.snapshot.now.release in
    let may : ℕ → Bool = may_be g.S.ConceptSet.items_of c.args.candidates.now in
    record {
      items = any_done release may c.args.parts.now (g.S.ConceptSet.items_of c.loop-part.groups)
          (c.loop-part.invariant.items
          ∙ ap (λ (parts : List UnitPlan). numbers_where (length (all_groups release))
          (λ n. may n && list_any (λ part. some_group_in release (group_means release (logical_groups_of part))
          (slice_get (all_groups release) n)) parts))
          (take_all c.loop-part.part-index c.args.parts.now (omega arith)))
          ∙ or_groups release may c.args.parts.now;
      bound = c.loop-part.invariant.bound;
      floor = omega (arith, (some_end c.loop-part.invariant.work (omega arith)).floor);
    }
