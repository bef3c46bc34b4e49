use Rattle.std.proofs.Common.{◌++◌, ◌∙◌, List, ap, append_assoc, sym}
use Rattle.std.proofs.lemmas.Result.{on_ok_weaker}
use Rattle.set_algebra.specs.declared.choice.Choice.{Choice}
use Rattle.set_algebra.specs.Physical.{physical_of, physicals_of}
use Rattle.plan_bounds.specs.Leaves.{choices_in, choices_in_each}
use Rattle.plan_bounds.proofs.LoopLemmas.{list_end, list_turn}
use Rattle.plan_bounds.proofs.PartLemmas.{values_are}
use Rattle.plan_bounds.proofs.leaf_choices.+choices.Goals as goal

-- a turn that adds the choices of one part keeps the invariant of the list
pub add_each-loop-part-preserved : goal.add_each-loop-part-preserved
add_each-loop-part-preserved t c =
    list_turn c.loop-part.invariant c.loop-part-test.true c.part-item.is c.in_ok-add_choices.ensures

-- at the end the choices of all parts are added
pub add_each-returns : goal.add_each-returns
add_each-returns t c = list_end c.loop-part.invariant c.loop-part-test.false

-- a turn that adds the choices of one group plan keeps the invariant of the list
pub add_each_groups-loop-part-preserved : goal.add_each_groups-loop-part-preserved
add_each_groups-loop-part-preserved t c =
    list_turn c.loop-part.invariant c.loop-part-test.true c.part-item.is c.in_ok-add_groups.ensures

-- at the end the choices of all group plans are added
pub add_each_groups-returns : goal.add_each_groups-returns
add_each_groups-returns t c = list_end c.loop-part.invariant c.loop-part-test.false

-- a `Values` node adds the choices of its start and then those of its types
pub add_choices-returns-in_ok-add_choices-in-Values : goal.add_choices-returns-in_ok-add_choices-in-Values
add_choices-returns-in_ok-add_choices-in-Values t c =
    let given = c.args.choices.now.items in
    let first = choices_in (physical_of c.deref-in-Values.result.now) in
    let others = choices_in_each (physicals_of c.deref-in-Values-2.result.now) in
    let is = values_are c.in-Values.start c.in-Values.names c.in-Values.is c.deref-in-Values.ensures
    c.deref-in-Values-2.ensures.value in
    on_ok_weaker c.add_each.result
    (λ added. added
    ∙ ap (λ (some : List Choice). some ++ others) c.in_ok-add_choices-in-Values.ensures
    ∙ append_assoc given first others
    ∙ ap (λ (all : List Choice). given ++ all) (sym (ap choices_in is)))
    c.add_each.ensures
