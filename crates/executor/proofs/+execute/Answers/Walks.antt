-- Answers of the nodes that walk.
use Rattle.std.proofs.Common.{subst, ℕ, List, ◌/◌, ◌<◌, ◌≤◌, ◌∙◌, Bool}
use Rattle.std.proofs.Common.{refl, arith, rules}
use Rattle.candidates.specs.declared.candidates.Candidates.{Candidates}
use Rattle.set_algebra.specs.Plan.{Plan}
use Rattle.set_algebra.specs.Plan.{walk_plan}
use Rattle.set_algebra.specs.Physical.{physical_of}
use Rattle.executor.specs.inside.Logical.{logical_of}
use Rattle.number_lists.specs.Members.{has}
use Rattle.walks.specs.Related.{related_to}
use Rattle.reading.specs.Counted.{full}
use Rattle.reading.proofs.CountLemmas.{counted_full, counted_then}
use Rattle.std.specs.Bool.{OnTrue}
use Rattle.walks.specs.Families.{all_items_of, family_of}
use Rattle.walks.specs.Reads.{AreAsked, asked_items}
use Rattle.candidates.specs.Within.{may_be}
use Rattle.plan_bounds.specs.Sizes.{size}
use Rattle.executor.proofs.NodeLemmas.{walk_node}
use Rattle.plan_bounds.specs.Counts.{lists_length, one_of}
use Rattle.executor.proofs.WalkWork.{all_along, not_one, several_bound, several_floor}
use Rattle.executor.proofs.WithinNodes.{kept_node}
use Rattle.executor.proofs.WithinNodes.{walk_of_part}
use Rattle.executor.proofs.+execute.Goals as goal

-- the few candidates that pass the test by their lists are those that the walk means
pub walk_to_few-returns-clause-found : goal.walk_plans::walk_to_few-returns-clause-found
walk_to_few-returns-clause-found g t c =
    let indexed = c.args.reader.indexes.now in
    let may : ℕ → Bool = has (g.S.ConceptSet.items_of c.args.wanted.now) in
    let enough : ℕ → Bool = has (g.S.ConceptSet.items_of c.in_ok-enough.enough) in
    let from = c.in_ok-from.from in
    let items = g.S.ConceptSet.items_of from in
    let bound = g.S.ConceptSet.bound_of from in
    record {
      items = walk_of_part c.args.reader.snapshot.now.release (logical_of c.args.walk.operand.now) c.args.walk.operator
          indexed.hierarchy bound
          may enough items (g.S.ConceptSet.items_of c.in_ok-found.found)
          c.args.reader.index.hierarchy c.in_ok-from.ensures.found.bound
          c.in_ok-enough.ensures.enough
          c.in_ok-from.ensures.found.items
          c.in_ok-found.ensures.items;
      bound = c.in_ok-found.ensures.bound ∙ c.in_ok-from.ensures.found.bound;
      floor = omega (
        arith,
        c.enough_for.ensures.counted.grows,
        c.stats_of.ensures.counted.grows,
        c.in_ok-from.ensures.found.floor,
        c.related_among.ensures.counted.grows,
        several_floor indexed c.args.walk.operator (one_of (physical_of c.args.walk.operand.now)) c.requires.several,
      );
    }

-- the lists that are enough for the few candidates, measuring them, and the lists that test the candidates take each
-- at most a third of all lists, so the visits are within the bound of the walk
pub walk_to_few-returns-clause-counted :
    goal.walk_plans::walk_to_few-returns-clause-counted
walk_to_few-returns-clause-counted g t c =
    let indexed = c.args.reader.indexes.now in
    let plan = physical_of c.args.walk.operand.now in
    counted_full
    (counted_then (counted_then (counted_then c.enough_for.ensures.counted c.stats_of.ensures.counted)
    c.execute_within.ensures.counted) c.related_among.ensures.counted)
    (omega (
      arith,
      c.requires.room,
      c.in_ok-enough.ensures.few,
      several_bound indexed c.args.walk.operator (one_of plan) (size indexed plan) c.requires.several,
    ))

-- if memory is refused while the few candidates are tested, the visits are within the bound of the walk
pub walk_to_few-returns-in_err-found-clause-counted :
    goal.walk_plans::walk_to_few-returns-in_err-found-clause-counted
walk_to_few-returns-in_err-found-clause-counted g t c =
    let indexed = c.args.reader.indexes.now in
    let plan = physical_of c.args.walk.operand.now in
    counted_full
    (counted_then (counted_then (counted_then c.enough_for.ensures.counted c.stats_of.ensures.counted)
    c.execute_within.ensures.counted) c.related_among.ensures.counted)
    (omega (
      arith,
      c.requires.room,
      c.in_ok-enough.ensures.few,
      several_bound indexed c.args.walk.operator (one_of plan) (size indexed plan) c.requires.several,
    ))

-- if memory is refused while the operand is executed for the few concepts, the visits are within the bound of the
-- walk
pub walk_to_few-returns-in_err-from-clause-counted :
    goal.walk_plans::walk_to_few-returns-in_err-from-clause-counted
walk_to_few-returns-in_err-from-clause-counted g t c =
    let indexed = c.args.reader.indexes.now in
    let plan = physical_of c.args.walk.operand.now in
    counted_full
    (counted_then (counted_then c.enough_for.ensures.counted c.stats_of.ensures.counted)
    c.execute_within.ensures.counted)
    (omega (
      arith,
      c.requires.room,
      c.in_ok-enough.ensures.few,
      several_bound indexed c.args.walk.operator (one_of plan) (size indexed plan) c.requires.several,
    ))

-- if memory is refused while the concepts that are enough are measured, the visits are within the bound of the walk
pub walk_to_few-returns-in_err-stats-clause-counted :
    goal.walk_plans::walk_to_few-returns-in_err-stats-clause-counted
walk_to_few-returns-in_err-stats-clause-counted g t c =
    let indexed = c.args.reader.indexes.now in
    let plan = physical_of c.args.walk.operand.now in
    counted_full
    (counted_then c.enough_for.ensures.counted c.stats_of.ensures.counted)
    (omega (
      arith,
      c.requires.room,
      c.in_ok-enough.ensures.few,
      several_bound indexed c.args.walk.operator (one_of plan) (size indexed plan) c.requires.several,
    ))

-- if the candidates are few enough, the operand is not one concept and the lists have room, as `walk_to_few` requires
pub walk_from-walk_to_few-requires : goal.walk_plans::walk_from-walk_to_few-requires
walk_from-walk_to_few-requires g t c =
    let indexed = c.args.reader.indexes.now in
    let operator = c.args.walk.operator in
    let wanted = g.S.ConceptSet.items_of c.in-Within.wanted.now in
    let some : 0 < c.rows_without-rows.result =
    subst (λ (enough : Bool). OnTrue enough (0 < c.rows_without-rows.result)) c.if-are_enough.true
    c.are_enough.ensures.some in
    let several = not_one (one_of (physical_of c.args.walk.operand.now)) c.rows_without-rows.result
    c.rows_without-rows.ensures some in
    let third = all_items_of indexed.hierarchy (family_of operator) / 3 in
    let asked : AreAsked g.S.ConceptSet.items_of indexed.hierarchy operator c.args.candidates.now third =
    subst (λ (enough : Bool). OnTrue enough
    (AreAsked g.S.ConceptSet.items_of indexed.hierarchy operator c.args.candidates.now third))
    c.if-are_enough.true c.are_enough.ensures.room in
    let read : full (asked_items indexed.hierarchy operator wanted) ≤ third =
    subst (λ (candidates : Candidates _). AreAsked g.S.ConceptSet.items_of indexed.hierarchy operator candidates third)
    c.in-Within.is asked in
    let room : full (asked_items indexed.hierarchy operator wanted) ≤ lists_length indexed operator / 3 =
    omega (arith, read, all_along indexed operator) in
    search rules

-- what the walk leads to from its operand, restricted to the candidates, is what the walk means among them
pub walk_from-returns-clause-found : goal.walk_plans::walk_from-returns-clause-found
walk_from-returns-clause-found g t c =
    let release = c.args.reader.snapshot.now.release in
    let hierarchy = c.args.reader.indexes.now.hierarchy in
    let operand = logical_of c.args.walk.operand.now in
    let plan : Plan = walk_plan c.args.walk.operator operand in
    let from = c.in_ok-from.from in
    let items = g.S.ConceptSet.items_of from in
    let driven : List ℕ = related_to hierarchy (g.S.ConceptSet.bound_of from) c.args.walk.operator items in
    record {
      items = kept_node release (may_be g.S.ConceptSet.items_of c.args.candidates.now) plan driven
          (g.S.ConceptSet.items_of c.in_ok-found-2.found)
          (walk_node release plan driven operand c.args.walk.operator hierarchy (g.S.ConceptSet.bound_of from) items
          refl
          c.args.reader.index.hierarchy
          c.in_ok-from.ensures.found.bound c.in_ok-from.ensures.found.items refl)
          c.in_ok-found-2.ensures.found.items;
      bound = c.in_ok-found-2.ensures.found.bound;
      floor = omega (arith, c.in_ok-from.ensures.found.floor, c.in_ok-found-2.ensures.found.floor);
    }
