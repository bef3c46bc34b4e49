-- A plan with the choices of its leaves, which say what rows are read.
use Rattle.std.specs.Prelude.{◌≡◌, List}
use Rattle.set_algebra.specs.declared.plan.ConceptPlan.{ConceptPlan}
use Rattle.set_algebra.specs.Physical.{physical_of}
use Rattle.set_algebra.specs.declared.choice.Choice.{Choice}
use Rattle.plan_bounds.specs.Leaves.{choices_in}
use Rattle.plan_bounds.specs.Offered.{AreOffered}

-- a plan, and the list of the choices that its leaves have, a leaf before those below it
pub record PlanWithChoices : Type 0 where
  -- the plan
  pub plan : ConceptPlan
  -- the choices of its leaves
  pub choices : List Choice

-- the list has the choices of the plan's leaves, and each leaf offers its choice
pub record IsPhysical (physical : PlanWithChoices) : Type 0 where
  -- the list has the choices of the leaves of the plan
  pub choices_are : physical.choices ≡ choices_in (physical_of physical.plan)
  -- each leaf of the plan offers its choice
  pub offered : AreOffered (physical_of physical.plan)
