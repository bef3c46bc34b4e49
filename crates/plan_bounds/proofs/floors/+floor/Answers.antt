use Rattle.std.proofs.Common.{ap, arith, inl, inr}
use Rattle.plan_bounds.specs.Floors.{floor, floor_number}
use Rattle.plan_bounds.specs.Nodes.{group_sum}
use Rattle.plan_bounds.proofs.LoopLemmas.{sum_end, sum_turn}
use Rattle.plan_bounds.proofs.PartLemmas.{and_are, and_group_plan_is, minus_are, minus_group_plan_is, or_are}
use Rattle.plan_bounds.proofs.PartLemmas.{or_group_plan_is, pairs_are}
use Rattle.plan_bounds.proofs.PartLemmas.{pairs_group_plan_is, group_plan_is, values_are}
use Rattle.plan_bounds.proofs.floors.+floor.Goals as goal

-- a turn that adds the floor of one part keeps the invariant of the sum
pub parts_floor-loop-part-preserved : goal.parts_floor-loop-part-preserved
parts_floor-loop-part-preserved t c =
    sum_turn c.loop-part.invariant c.loop-part-test.true c.part-item.is c.plan_floor.ensures
    c.saturating_add-floor.ensures

-- at the end the sum is the capped floor of all parts
pub parts_floor-returns : goal.parts_floor-returns
parts_floor-returns t c = sum_end c.loop-part.invariant c.loop-part-test.false

-- a turn that adds the floor of one group plan keeps the invariant of the sum
pub group_parts_floor-loop-part-preserved : goal.group_parts_floor-loop-part-preserved
group_parts_floor-loop-part-preserved t c =
    sum_turn c.loop-part.invariant c.loop-part-test.true c.part-item.is c.group_plan_floor.ensures
    c.saturating_add-floor.ensures

-- at the end the sum is the capped floor of all group plans
pub group_parts_floor-returns : goal.group_parts_floor-returns
group_parts_floor-returns t c = sum_end c.loop-part.invariant c.loop-part-test.false

-- ---- the floor of a plan is the own floor of its top node and the floors of its parts
-- the floor of a conjunction or a disjunction is the sum of the floors of its parts
pub plan_floor-returns-in-And : goal.plan_floor-returns-in-And
plan_floor-returns-in-And t c =
    let indexed = c.args.lengths.indexes.now in
    elim c.in-And.is [
      | inl is ↦ omega (arith, ap (floor indexed) (and_are c.in-And.parts is c.deref-in-And.ensures.value))
      | inr is ↦ omega (arith, ap (floor indexed) (or_are c.in-And.parts is c.deref-in-And.ensures.value))
    ]

-- the floor of a difference is the sum of the floors of its two parts
pub plan_floor-returns-in-Minus : goal.plan_floor-returns-in-Minus
plan_floor-returns-in-Minus t c =
    let is = minus_are c.in-Minus.first c.in-Minus.second c.in-Minus.is c.deref-in-Minus.ensures
    c.deref-in-Minus-2.ensures in
    omega (arith, ap (floor c.args.lengths.indexes.now) is)

-- the floor of the values along types is the sum of the floors of its start and its types
pub plan_floor-returns-in-Values : goal.plan_floor-returns-in-Values
plan_floor-returns-in-Values t c =
    let is = values_are c.in-Values.start c.in-Values.names c.in-Values.is c.deref-in-Values.ensures
    c.deref-in-Values-2.ensures.value in
    omega (arith, ap (floor c.args.lengths.indexes.now) is)

-- the floor of a leaf of concepts is the sum of its own floor and those of its types and its test
pub plan_floor-returns-in-Pairs : goal.plan_floor-returns-in-Pairs
plan_floor-returns-in-Pairs t c =
    let is = pairs_are c.in-Pairs.types c.in-Pairs.is c.deref-in-Pairs.ensures in
    omega (arith, ap (floor c.args.lengths.indexes.now) is)

-- the floor of a node that counts groups is the floor of its plan of groups
pub plan_floor-returns-in-Units : goal.plan_floor-returns-in-Units
plan_floor-returns-in-Units t c =
    let is = group_plan_is c.in-Units.units c.in-Units.is c.deref-in-Units.ensures in
    omega (arith, ap (floor c.args.lengths.indexes.now) is)

-- the floor of a conjunction or a disjunction of group plans is the sum of the floors of its parts
pub group_plan_floor-returns-in-And : goal.group_plan_floor-returns-in-And
group_plan_floor-returns-in-And t c =
    let number = floor_number c.args.lengths.indexes.now in
    elim c.in-And.is [
      | inl is ↦ omega (arith, ap (group_sum number) (and_group_plan_is c.in-And.parts is c.deref-in-And.ensures.value))
      | inr is ↦ omega (arith, ap (group_sum number) (or_group_plan_is c.in-And.parts is c.deref-in-And.ensures.value))
    ]

-- the floor of a difference of group plans is the sum of the floors of its two parts
pub group_plan_floor-returns-in-Minus : goal.group_plan_floor-returns-in-Minus
group_plan_floor-returns-in-Minus t c =
    let is = minus_group_plan_is c.in-Minus.first c.in-Minus.second c.in-Minus.is c.deref.ensures
    c.deref-in-Minus.ensures in
    omega (arith, ap (group_sum (floor_number c.args.lengths.indexes.now)) is)

-- the floor of a leaf of groups is the sum of its own floor and those of its types and its test
pub group_plan_floor-returns-in-Pairs : goal.group_plan_floor-returns-in-Pairs
group_plan_floor-returns-in-Pairs t c =
    let is = pairs_group_plan_is c.in-Pairs.types c.in-Pairs.is c.deref-in-Pairs.ensures in
    omega (arith, ap (group_sum (floor_number c.args.lengths.indexes.now)) is)
