use Rattle.std.proofs.Common.{◌∙◌, ap, subst, sym}
use Rattle.set_algebra.specs.Physical.{Physical, physical_of}
use Rattle.set_algebra.specs.declared.plan.ConceptPlan.{ConceptPlan}
use Rattle.set_algebra.specs.Plan.{plan_of}
use Rattle.plan_bounds.specs.Leaves.{choices_in}
use Rattle.plan_bounds.specs.Offered.{AreLeast, AreOffered}
use Rattle.planner.proofs.ChosenLemmas.{chosen_are_least, chosen_are_offered, plan_kept}
use Rattle.planner.proofs.physical.choose.Goals as goal

-- each leaf of the chosen plan offers its choice
pub new-requires : goal.new-requires
new-requires c =
    let given = rw c.lengths.ensures at c.assign_choices.ensures.plan in
    record { offered = subst AreOffered (sym given) (chosen_are_offered c.args.indexes.now (plan_of c.args.plan)) }

-- the plan that is returned has the logical plan that was given
pub returns-clause-plan : goal.returns-clause-plan
returns-clause-plan c =
    let given = rw c.lengths.ensures at c.assign_choices.ensures.plan in
    ap plan_of c.in_ok-physical.ensures.plan
    ∙ plan_kept c.args.indexes.now (plan_of c.args.plan) c.assign_choices.new.plan given

-- the plan that is returned is the chosen plan
pub returns-clause-chosen : goal.returns-clause-chosen
returns-clause-chosen c =
    let given = rw c.lengths.ensures at c.assign_choices.ensures.plan in
    ap physical_of c.in_ok-physical.ensures.plan ∙ given

-- the list of choices is that of the chosen plan
pub returns-clause-choices : goal.returns-clause-choices
returns-clause-choices c =
    let given = rw c.lengths.ensures at c.assign_choices.ensures.plan in
    c.in_ok-physical.ensures.choices ∙ ap choices_in given

-- the choice of each leaf is the first of the least bound
pub returns-clause-least : goal.returns-clause-least
returns-clause-least c =
    let given = rw c.lengths.ensures at c.assign_choices.ensures.plan in
    subst (AreLeast c.args.indexes.now) (sym (ap physical_of c.in_ok-physical.ensures.plan ∙ given))
    (chosen_are_least c.args.indexes.now (plan_of c.args.plan))
