use Rattle.std.proofs.Common.{◌∙◌, ◌++◌, ◌∷◌, List, ap, inl, inr, sym, ℕ}
use Rattle.std.proofs.lemmas.Result.{IfOk-weaker, on_ok_weaker}
use Rattle.set_algebra.specs.declared.plan.UnitPlan.{UnitPlan}
use Rattle.set_algebra.specs.Physical.{physical_and, physical_members, physical_of, physical_or, physical_test_of}
use Rattle.set_algebra.specs.Physical.{physical_groups}
use Rattle.set_algebra.specs.Physical.{physical_groups_and, physical_groups_list_of, physical_groups_of}
use Rattle.set_algebra.specs.Physical.{physical_groups_or}
use Rattle.set_algebra.specs.Physical.{physical_walk, physicals_of}
use Rattle.set_algebra.proofs.PhysicalLemmas.{physical_of-And, physical_of-Or, physical_groups_of-And}
use Rattle.set_algebra.proofs.PhysicalLemmas.{physical_groups_of-Or}
use Rattle.plan_bounds.proofs.PartLemmas.{minus_are, minus_group_plan_is, pairs_are, pairs_group_plan_is, values_are}
use Rattle.answer_printer.specs.inside.PlanLines.{before_bound, below, below_group}
use Rattle.answer_printer.specs.PlanText.{group_outline, group_words, node_words, outline, plans_outline, test_outline}
use Rattle.answer_printer.proofs.LineLemmas.{after_written, both_written, group_outline_is, lines_end, lines_turn}
use Rattle.answer_printer.proofs.LineLemmas.{outline_is}
use Rattle.answer_printer.proofs.plan.+write.Goals as goal

-- the lines of one concept plan more are written
pub write_parts-loop-place-preserved : goal.write_parts-loop-place-preserved
write_parts-loop-place-preserved t c =
    let part = c.in_ok-left.ensures in
    lines_turn c.loop-place.invariant c.loop-place-test.true c.index-parts-place.is part.text part.bounds

-- after the last concept plan the lines of all are written
pub write_parts-returns : goal.write_parts-returns
write_parts-returns t c =
    let written = lines_end c.loop-place.invariant c.loop-place-test.false in
    record { text = written.lines; bounds = written.following }

-- the lines of one group plan more are written
pub write_group_parts-loop-place-preserved : goal.write_group_parts-loop-place-preserved
write_group_parts-loop-place-preserved t c =
    let part = c.in_ok-left.ensures in
    lines_turn c.loop-place.invariant c.loop-place-test.true c.index-parts-place.is part.text part.bounds

-- after the last group plan the lines of all are written
pub write_group_parts-returns : goal.write_group_parts-returns
write_group_parts-returns t c =
    let written = lines_end c.loop-place.invariant c.loop-place-test.false in
    record { text = written.lines; bounds = written.following }

-- a concept plan's own line and the lines below it are the lines of the plan
pub write_plan-returns : goal.write_plan-returns
write_plan-returns t c =
    let spaces = c.args.spaces.now in
    let plan = physical_of c.args.plan.now in
    let left = c.in_ok-left.ensures in
    let written = after_written c.args.text.now.items (spaces ++ node_words plan)
    (λ (spaces : List ℕ). below before_bound spaces plan)
    (32 ∷ spaces) c.args.bounds.now (outline_is spaces plan) c.in_ok-following.ensures.text
    c.in_ok-following.ensures.following
    (c.as_slice.ensures.value ∙ c.in_ok-deeper.ensures) left.text left.bounds in
    record { text = written.lines; bounds = written.following }

-- a group plan's own line and the lines below it are the lines of the plan
pub write_groups-returns : goal.write_groups-returns
write_groups-returns t c =
    let spaces = c.args.spaces.now in
    let plan = physical_groups_of c.args.plan.now in
    let left = c.in_ok-left.ensures in
    let written = after_written c.args.text.now.items (spaces ++ group_words plan)
    (λ (spaces : List ℕ). below_group before_bound spaces plan)
    (32 ∷ spaces) c.args.bounds.now (group_outline_is spaces plan) c.in_ok-following.ensures.text
    c.in_ok-following.ensures.following
    (c.as_slice.ensures.value ∙ c.in_ok-deeper.ensures) left.text left.bounds in
    record { text = written.lines; bounds = written.following }

-- below a plan with one operand (`Walk`, `Members`) stand the lines of the operand
pub write_below-returns-in-Walk : goal.write_below-returns-in-Walk
write_below-returns-in-Walk t c =
    let operand = physical_of c.deref-in-Walk.result.now in
    let same = ap physical_of (sym c.deref-in-Walk.ensures) in
    elim c.in-Walk.is [
      | inl (operator, is) ↦ rw (ap physical_of is ∙ ap (physical_walk operator) same) c.write_plan-in-Walk.ensures
      | inr is ↦ rw (ap physical_of is ∙ ap physical_members same) c.write_plan-in-Walk.ensures
    ]

-- below `And` and `Or` stand the lines of their parts
pub write_below-returns-in-And : goal.write_below-returns-in-And
write_below-returns-in-And t c =
    let are = ap physicals_of (sym c.deref-in-And.ensures.value) in
    elim c.in-And.is [
      | inl is ↦ rw (ap physical_of is ∙ physical_of-And c.in-And.parts ∙ ap physical_and are)
          c.write_parts-in-And.ensures
      | inr is ↦ rw (ap physical_of is ∙ physical_of-Or c.in-And.parts ∙ ap physical_or are)
          c.write_parts-in-And.ensures
    ]

-- below `Units` stand the lines of its group plan
pub write_below-returns-in-Units : goal.write_below-returns-in-Units
write_below-returns-in-Units t c =
    rw (ap physical_of c.in-Units.is
    ∙ ap (λ (units : UnitPlan). physical_groups c.in-Units.count (physical_groups_of units))
    (sym c.deref-in-Units.ensures))
    c.write_groups.ensures

-- below `And` and `Or` of groups stand the lines of their parts
pub write_below_group-returns-in-And : goal.write_below_group-returns-in-And
write_below_group-returns-in-And t c =
    let are = ap physical_groups_list_of (sym c.deref-in-And.ensures.value) in
    elim c.in-And.is [
      | inl is ↦ rw (ap physical_groups_of is ∙ physical_groups_of-And c.in-And.parts ∙ ap physical_groups_and are)
          c.write_group_parts.ensures
      | inr is ↦ rw (ap physical_groups_of is ∙ physical_groups_of-Or c.in-And.parts ∙ ap physical_groups_or are)
          c.write_group_parts.ensures
    ]

-- below `Minus` stand the lines of its first and then its second plan
pub write_below-returns-in_ok-left-in-Minus : goal.write_below-returns-in_ok-left-in-Minus
write_below-returns-in_ok-left-in-Minus t c =
    let left = c.in_ok-left-in-Minus.ensures in
    let last = c.write_plan-in-Minus in
    let both = both_written c.args.text.now.items c.args.bounds.now
    (outline before_bound c.args.spaces.now (physical_of c.deref.result.now))
    (outline before_bound c.args.spaces.now (physical_of c.deref-in-Minus.result.now)) left.text left.bounds in
    rw (minus_are c.in-Minus.first c.in-Minus.second c.in-Minus.is c.deref.ensures c.deref-in-Minus.ensures) (record {
      text = on_ok_weaker last.result both.lines last.ensures.text;
      bounds = IfOk-weaker last.result _ _ (λ _. both.bounds_left) last.ensures.bounds;
    })

-- below `Values` stand the lines of its start and then of its attribute names
pub write_below-returns-in_ok-left-in-Values : goal.write_below-returns-in_ok-left-in-Values
write_below-returns-in_ok-left-in-Values t c =
    let left = c.in_ok-left-in-Values.ensures in
    let last = c.write_parts in
    let both = both_written c.args.text.now.items c.args.bounds.now
    (outline before_bound c.args.spaces.now (physical_of c.deref-in-Values.result.now))
    (plans_outline before_bound c.args.spaces.now (physicals_of c.deref-in-Values-2.result.now)) left.text
    left.bounds in
    rw (values_are c.in-Values.start c.in-Values.names c.in-Values.is c.deref-in-Values.ensures
    c.deref-in-Values-2.ensures.value) (record {
      text = on_ok_weaker last.result both.lines last.ensures.text;
      bounds = IfOk-weaker last.result _ _ (λ _. both.bounds_left) last.ensures.bounds;
    })

-- below `Pairs` stand the lines of its types and then of its test
pub write_below-returns-in_ok-left-in-Pairs : goal.write_below-returns-in_ok-left-in-Pairs
write_below-returns-in_ok-left-in-Pairs t c =
    let left = c.in_ok-left-in-Pairs.ensures in
    let last = c.write_test in
    let both = both_written c.args.text.now.items c.args.bounds.now
    (outline before_bound c.args.spaces.now (physical_of c.deref-in-Pairs.result.now))
    (test_outline before_bound c.args.spaces.now (physical_test_of c.in-Pairs.test)) left.text left.bounds in
    rw (pairs_are c.in-Pairs.types c.in-Pairs.is c.deref-in-Pairs.ensures) (record {
      text = on_ok_weaker last.result both.lines last.ensures.text;
      bounds = IfOk-weaker last.result _ _ (λ _. both.bounds_left) last.ensures.bounds;
    })

-- below `Minus` of groups stand the lines of its first and then its second plan
pub write_below_group-returns-in_ok-left-in-Minus : goal.write_below_group-returns-in_ok-left-in-Minus
write_below_group-returns-in_ok-left-in-Minus t c =
    let left = c.in_ok-left-in-Minus.ensures in
    let last = c.write_groups-in-Minus in
    let both = both_written c.args.text.now.items c.args.bounds.now
    (group_outline before_bound c.args.spaces.now (physical_groups_of c.deref.result.now))
    (group_outline before_bound c.args.spaces.now (physical_groups_of c.deref-in-Minus.result.now)) left.text
    left.bounds in
    rw (minus_group_plan_is c.in-Minus.first c.in-Minus.second c.in-Minus.is c.deref.ensures c.deref-in-Minus.ensures)
    (record {
      text = on_ok_weaker last.result both.lines last.ensures.text;
      bounds = IfOk-weaker last.result _ _ (λ _. both.bounds_left) last.ensures.bounds;
    })

-- below `Pairs` of groups stand the lines of its types and then of its test
pub write_below_group-returns-in_ok-left-in-Pairs : goal.write_below_group-returns-in_ok-left-in-Pairs
write_below_group-returns-in_ok-left-in-Pairs t c =
    let left = c.in_ok-left-in-Pairs.ensures in
    let last = c.write_test in
    let both = both_written c.args.text.now.items c.args.bounds.now
    (outline before_bound c.args.spaces.now (physical_of c.deref-in-Pairs.result.now))
    (test_outline before_bound c.args.spaces.now (physical_test_of c.in-Pairs.test)) left.text left.bounds in
    rw (pairs_group_plan_is c.in-Pairs.types c.in-Pairs.is c.deref-in-Pairs.ensures) (record {
      text = on_ok_weaker last.result both.lines last.ensures.text;
      bounds = IfOk-weaker last.result _ _ (λ _. both.bounds_left) last.ensures.bounds;
    })
