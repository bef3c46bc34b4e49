use Rattle.std.proofs.Common.{◌∙◌, List, ap, subst, sym}
use Rattle.set_algebra.specs.Physical.{Physical}
use Rattle.set_algebra.specs.Plan.{plan_of}
use Rattle.plan_bounds.specs.Leaves.{choices_in}
use Rattle.plan_bounds.specs.Offered.{AreOffered}
use Rattle.planner.specs.Chosen.{chosen}
use Rattle.planner.specs.inside.AskedInPlace.{with_asked}
use Rattle.planner.proofs.AskedLemmas.{asked_are_offered, choices-asked}
use Rattle.planner.proofs.ChosenLemmas.{asked_plan_kept, chosen_are_offered}
use Rattle.planner.proofs.physical.choose_with.Goals as goal

-- each leaf of the plan with requested choices offers its choice
pub new-requires : goal.new-requires
new-requires c =
    let asked = c.args.asked.now in
    let least = chosen c.args.indexes.now (plan_of c.args.plan) in
    let assigned = rw c.lengths.ensures at c.assign_choices.ensures.plan in
    let given = c.put_asked.ensures.plan ∙ ap (λ (plan : Physical). (with_asked asked plan).plan) assigned in
    let offered = chosen_are_offered c.args.indexes.now (plan_of c.args.plan) in
    record { offered = subst AreOffered (sym given) (asked_are_offered asked least offered) }

-- the plan that is returned has the logical plan that was given
pub returns-clause-plan : goal.returns-clause-plan
returns-clause-plan c =
    let assigned = rw c.lengths.ensures at c.assign_choices.ensures.plan in
    ap plan_of c.in_ok-physical.ensures.plan
    ∙ asked_plan_kept c.args.indexes.now c.args.asked.now (plan_of c.args.plan) c.assign_choices.new.plan
    c.put_asked.new.plan
    assigned c.put_asked.ensures.plan

-- the choices are the requested ones, leaf by leaf, or the least ones if a leaf does not offer them
pub returns-clause-choices : goal.returns-clause-choices
returns-clause-choices c =
    let asked = c.args.asked.now in
    let least = chosen c.args.indexes.now (plan_of c.args.plan) in
    let assigned = rw c.lengths.ensures at c.assign_choices.ensures.plan in
    let given = c.put_asked.ensures.plan ∙ ap (λ (plan : Physical). (with_asked asked plan).plan) assigned in
    c.in_ok-physical.ensures.choices ∙ ap choices_in given ∙ choices-asked asked least
