-- Answers of the nodes that mean what all of their parts mean.
use Rattle.std.proofs.Common.{le_trans, ℕ, List, ◌∙◌, Bool, true}
use Rattle.std.proofs.Common.{length, sym, ap, arith}
use Rattle.std.specs.List.{list_all, range_with_len}
use Rattle.set_algebra.specs.declared.plan.ConceptPlan.{ConceptPlan}
use Rattle.set_algebra.specs.declared.plan.UnitPlan.{UnitPlan}
use Rattle.set_algebra.specs.Meaning.{group_means, means}
use Rattle.executor.specs.inside.Logical.{logical_of, logical_groups_of}
use Rattle.postings.specs.Groups.{all_groups}
use Rattle.candidates.specs.Within.{groups_within, may_be, numbers_within}
use Rattle.executor.proofs.GroupNodeLemmas as groups
use Rattle.reading.proofs.CountLemmas.{counted_both, counted_in}
use Rattle.executor.proofs.NodeWork.{no_floor, no_floor_of_groups}
use Rattle.candidates.proofs.WithinLemmas.{kept_groups, kept_set}
use Rattle.number_lists.proofs.WhereLemmas.{numbers_where-all}
use Rattle.executor.proofs.PartWork.{concepts_read, groups_read}
use Rattle.executor.proofs.OrderLemmas.{all_passed, at_turn, first_counted, first_passed, next_passed, no_turns}
use Rattle.executor.proofs.OrderLemmas.{turn_counted, turn_floor, turn_more, turn_next, turn_none}
use Rattle.executor.proofs.WithinNodes.{all_done, and_groups, and_within, means_concept, means_group}
use Rattle.executor.proofs.+execute.Goals as goal

-- without turns there are no parts, so all candidates are what the conjunction means among them
pub execute_in_order-returns-then-is_empty-clause-found :
    goal.joined_plans::execute_in_order-returns-then-is_empty-clause-found
execute_in_order-returns-then-is_empty-clause-found g t c =
    let release = c.args.reader.snapshot.now.release in
    let may : ℕ → Bool = may_be g.S.ConceptSet.items_of c.args.candidates.now in
    let none = no_turns c.args.parts.now c.args.order.now c.requires.order c.is_empty.ensures c.if-is_empty.true in
    record {
      items = kept_set release may (λ concept. true) (range_with_len 0 (length release.concepts))
          (g.S.ConceptSet.items_of c.in_ok-every.every)
          (sym (numbers_where-all (length release.concepts))) c.in_ok-every.ensures.items
          ∙ ap (λ (parts : List ConceptPlan). numbers_within release may
          (λ concept. list_all (λ part. means release (logical_of part) concept) parts))
          (sym none)
          ∙ and_within release may c.args.parts.now;
      bound = c.in_ok-every.ensures.bound;
      floor = omega (arith, no_floor c.args.reader.indexes.now c.args.visits.now.count none);
    }

-- after the first part has been executed, the invariant of the conjunction holds at turn 1
pub execute_in_order-loop-turn-init : goal.joined_plans::execute_in_order-loop-turn-init
execute_in_order-loop-turn-init g t c =
    let release = c.args.reader.snapshot.now.release in
    let may : ℕ → Bool = may_be g.S.ConceptSet.items_of c.args.candidates.now in
    let at = at_turn c.place_at-first.ensures.at c.index-parts-first.is in
    record {
      items = first_passed (length release.concepts) (means_concept release) c.args.parts.now c.args.order.now may at
          (g.S.ConceptSet.items_of c.in_ok-found.found)
          c.in_ok-found.ensures.found.items;
      bound = c.in_ok-found.ensures.found.bound;
      work = turn_more (turn_none c.args.visits.now) at
          (counted_both c.execute_within.ensures.counted c.stats_of.ensures.counted
          (omega (arith, c.in_ok-found.ensures.size)))
          (le_trans c.in_ok-found.ensures.found.floor c.stats_of.ensures.counted.grows);
      stats = c.in_ok-stats.ensures.stats;
    }

-- a turn that executes a part for what is left keeps the invariant of the conjunction
pub execute_in_order-loop-turn-preserved : goal.joined_plans::execute_in_order-loop-turn-preserved
execute_in_order-loop-turn-preserved g t c =
    let release = c.args.reader.snapshot.now.release in
    let may : ℕ → Bool = may_be g.S.ConceptSet.items_of c.args.candidates.now in
    let at = at_turn c.place_at-place.ensures.at c.index-parts-place.is in
    record {
      items = next_passed (length release.concepts) (means_concept release) c.args.parts.now c.args.order.now may at
          (g.S.ConceptSet.items_of c.loop-turn.found) (g.S.ConceptSet.items_of c.in_ok-next.next)
          c.loop-turn.invariant.items c.in_ok-next.ensures.found.items;
      bound = c.in_ok-next.ensures.found.bound;
      work = turn_more c.loop-turn.invariant.work at
          (counted_both c.execute_within-in-loop-turn.ensures.counted c.stats_of-in-loop-turn.ensures.counted
          (omega (arith, c.in_ok-next.ensures.size)))
          (le_trans c.in_ok-next.ensures.found.floor c.stats_of-in-loop-turn.ensures.counted.grows);
      stats = c.in_ok-stats-2.ensures.stats;
    }

-- at the end what is left is what all parts mean among the candidates, and their floors are counted
pub execute_in_order-returns-clause-found : goal.joined_plans::execute_in_order-returns-clause-found
execute_in_order-returns-clause-found g t c =
    let release = c.args.reader.snapshot.now.release in
    let may : ℕ → Bool = may_be g.S.ConceptSet.items_of c.args.candidates.now in
    record {
      items = all_passed (length release.concepts) (means_concept release) c.args.parts.now c.args.order.now may
          c.requires.order c.loop-turn.turn (g.S.ConceptSet.items_of c.loop-turn.found) (omega arith)
          c.loop-turn.invariant.items
          ∙ and_within release may c.args.parts.now;
      bound = c.loop-turn.invariant.bound;
      floor = omega (arith, turn_floor c.loop-turn.invariant.work c.requires.order (omega arith));
    }

-- at the end the visits are within the bound of the conjunction
pub execute_in_order-returns-clause-counted : goal.joined_plans::execute_in_order-returns-clause-counted
execute_in_order-returns-clause-counted g t c =
    turn_counted c.loop-turn.invariant.work c.requires.order (omega arith)

-- if memory is refused while the first part is executed, the visits are within the bound of the conjunction
pub execute_in_order-returns-in_err-found-clause-counted :
    goal.joined_plans::execute_in_order-returns-in_err-found-clause-counted
execute_in_order-returns-in_err-found-clause-counted g t c =
    let at = at_turn c.place_at-first.ensures.at c.index-parts-first.is in
    first_counted (concepts_read c.args.reader.indexes.now) c.requires.order at
    (counted_in c.execute_within.ensures.counted (omega arith))

-- if memory is refused while what the first part has found is measured, the visits are within the bound of the
-- conjunction
pub execute_in_order-returns-in_err-stats-clause-counted :
    goal.joined_plans::execute_in_order-returns-in_err-stats-clause-counted
execute_in_order-returns-in_err-stats-clause-counted g t c =
    let at = at_turn c.place_at-first.ensures.at c.index-parts-first.is in
    first_counted (concepts_read c.args.reader.indexes.now) c.requires.order at
    (counted_both c.execute_within.ensures.counted c.stats_of.ensures.counted
    (omega (arith, c.in_ok-found.ensures.size)))

-- if memory is refused while a later part is executed, the visits are within the bound of the conjunction
pub execute_in_order-returns-in_err-next-clause-counted :
    goal.joined_plans::execute_in_order-returns-in_err-next-clause-counted
execute_in_order-returns-in_err-next-clause-counted g t c =
    let at = at_turn c.place_at-place.ensures.at c.index-parts-place.is in
    turn_next c.loop-turn.invariant.work c.requires.order at
    (counted_in c.execute_within-in-loop-turn.ensures.counted (omega arith))

-- if memory is refused while what a later part has found is measured, the visits are within the bound of the
-- conjunction
pub execute_in_order-returns-in_err-stats-2-clause-counted :
    goal.joined_plans::execute_in_order-returns-in_err-stats-2-clause-counted
execute_in_order-returns-in_err-stats-2-clause-counted g t c =
    let at = at_turn c.place_at-place.ensures.at c.index-parts-place.is in
    turn_next c.loop-turn.invariant.work c.requires.order at
    (counted_both c.execute_within-in-loop-turn.ensures.counted c.stats_of-in-loop-turn.ensures.counted
    (omega (arith, c.in_ok-next.ensures.size)))

-- without turns there are no parts, so all candidate groups are what the conjunction means among them
pub execute_groups_in_order-returns-then-is_empty-clause-found :
    goal.group_plans::execute_groups_in_order-returns-then-is_empty-clause-found
execute_groups_in_order-returns-then-is_empty-clause-found g t c =
    let release = c.args.reader.snapshot.now.release in
    let may : ℕ → Bool = may_be g.S.ConceptSet.items_of c.args.candidates.now in
    let none = no_turns c.args.parts.now c.args.order.now c.requires.order c.is_empty.ensures c.if-is_empty.true in
    record {
      items = kept_groups release may (λ pairs. true) (range_with_len 0 (length (all_groups release)))
          (g.S.ConceptSet.items_of c.in_ok-every.every)
          (groups.each_where release) c.in_ok-every.ensures.items
          ∙ ap (λ (parts : List UnitPlan). groups_within release may
          (λ pairs. list_all (λ part. group_means release (logical_groups_of part) pairs) parts))
          (sym none)
          ∙ and_groups release may c.args.parts.now;
      bound = c.in_ok-every.ensures.bound;
      floor = omega (arith, no_floor_of_groups c.args.reader.indexes.now c.args.visits.now.count none);
    }

-- after the first part of groups has been executed, the invariant of the conjunction holds at turn 1
pub execute_groups_in_order-loop-turn-init : goal.group_plans::execute_groups_in_order-loop-turn-init
execute_groups_in_order-loop-turn-init g t c =
    let release = c.args.reader.snapshot.now.release in
    let may : ℕ → Bool = may_be g.S.ConceptSet.items_of c.args.candidates.now in
    let at = at_turn c.place_at-first.ensures.at c.index-parts-first.is in
    record {
      items = first_passed (length (all_groups release)) (means_group release) c.args.parts.now c.args.order.now may at
          (g.S.ConceptSet.items_of c.in_ok-groups.groups)
          c.in_ok-groups.ensures.found.items;
      bound = c.in_ok-groups.ensures.found.bound;
      work = turn_more (turn_none c.args.visits.now) at
          (counted_both c.execute_groups.ensures.counted c.group_stats_of.ensures.counted
          (omega (arith, c.in_ok-groups.ensures.size)))
          (le_trans c.in_ok-groups.ensures.found.floor c.group_stats_of.ensures.counted.grows);
      stats = c.in_ok-stats.ensures.stats;
    }

-- a turn that executes a part of groups for what is left keeps the invariant of the conjunction
pub execute_groups_in_order-loop-turn-preserved : goal.group_plans::execute_groups_in_order-loop-turn-preserved
execute_groups_in_order-loop-turn-preserved g t c =
    let release = c.args.reader.snapshot.now.release in
    let may : ℕ → Bool = may_be g.S.ConceptSet.items_of c.args.candidates.now in
    let at = at_turn c.place_at-place.ensures.at c.index-parts-place.is in
    record {
      items = next_passed (length (all_groups release)) (means_group release) c.args.parts.now c.args.order.now may at
          (g.S.ConceptSet.items_of c.loop-turn.groups) (g.S.ConceptSet.items_of c.in_ok-next.next)
          c.loop-turn.invariant.items c.in_ok-next.ensures.found.items;
      bound = c.in_ok-next.ensures.found.bound;
      work = turn_more c.loop-turn.invariant.work at
          (counted_both c.execute_groups-in-loop-turn.ensures.counted c.group_stats_of-in-loop-turn.ensures.counted
          (omega (arith, c.in_ok-next.ensures.size)))
          (le_trans c.in_ok-next.ensures.found.floor c.group_stats_of-in-loop-turn.ensures.counted.grows);
      stats = c.in_ok-stats-2.ensures.stats;
    }

-- at the end what is left is what all parts of groups mean among the candidates, and their floors are counted
pub execute_groups_in_order-returns-clause-found : goal.group_plans::execute_groups_in_order-returns-clause-found
execute_groups_in_order-returns-clause-found g t c =
    let release = c.args.reader.snapshot.now.release in
    let may : ℕ → Bool = may_be g.S.ConceptSet.items_of c.args.candidates.now in
    record {
      items = all_done release may c.args.parts.now (g.S.ConceptSet.items_of c.loop-turn.groups)
          (all_passed (length (all_groups release)) (means_group release) c.args.parts.now c.args.order.now may
          c.requires.order c.loop-turn.turn (g.S.ConceptSet.items_of c.loop-turn.groups) (omega arith)
          c.loop-turn.invariant.items)
          ∙ and_groups release may c.args.parts.now;
      bound = c.loop-turn.invariant.bound;
      floor = omega (arith, turn_floor c.loop-turn.invariant.work c.requires.order (omega arith));
    }

-- at the end the visits are within the bound of the conjunction of groups
pub execute_groups_in_order-returns-clause-counted : goal.group_plans::execute_groups_in_order-returns-clause-counted
execute_groups_in_order-returns-clause-counted g t c =
    turn_counted c.loop-turn.invariant.work c.requires.order (omega arith)

-- if memory is refused while the first part of groups is executed, the visits are within the bound of the conjunction
pub execute_groups_in_order-returns-in_err-groups-clause-counted :
    goal.group_plans::execute_groups_in_order-returns-in_err-groups-clause-counted
execute_groups_in_order-returns-in_err-groups-clause-counted g t c =
    let at = at_turn c.place_at-first.ensures.at c.index-parts-first.is in
    first_counted (groups_read c.args.reader.indexes.now) c.requires.order at
    (counted_in c.execute_groups.ensures.counted (omega arith))

-- if memory is refused while what the first part of groups has found is measured, the visits are within the bound of
-- the conjunction
pub execute_groups_in_order-returns-in_err-stats-clause-counted :
    goal.group_plans::execute_groups_in_order-returns-in_err-stats-clause-counted
execute_groups_in_order-returns-in_err-stats-clause-counted g t c =
    let at = at_turn c.place_at-first.ensures.at c.index-parts-first.is in
    first_counted (groups_read c.args.reader.indexes.now) c.requires.order at
    (counted_both c.execute_groups.ensures.counted c.group_stats_of.ensures.counted
    (omega (arith, c.in_ok-groups.ensures.size)))

-- if memory is refused while a later part of groups is executed, the visits are within the bound of the conjunction
pub execute_groups_in_order-returns-in_err-next-clause-counted :
    goal.group_plans::execute_groups_in_order-returns-in_err-next-clause-counted
execute_groups_in_order-returns-in_err-next-clause-counted g t c =
    let at = at_turn c.place_at-place.ensures.at c.index-parts-place.is in
    turn_next c.loop-turn.invariant.work c.requires.order at
    (counted_in c.execute_groups-in-loop-turn.ensures.counted (omega arith))

-- if memory is refused while what a later part of groups has found is measured, the visits are within the bound of the
-- conjunction
pub execute_groups_in_order-returns-in_err-stats-2-clause-counted :
    goal.group_plans::execute_groups_in_order-returns-in_err-stats-2-clause-counted
execute_groups_in_order-returns-in_err-stats-2-clause-counted g t c =
    let at = at_turn c.place_at-place.ensures.at c.index-parts-place.is in
    turn_next c.loop-turn.invariant.work c.requires.order at
    (counted_both c.execute_groups-in-loop-turn.ensures.counted c.group_stats_of-in-loop-turn.ensures.counted
    (omega (arith, c.in_ok-next.ensures.size)))
