-- The result of a function that applies a rule: the plan that the rule makes, or NotApplicable if
-- it makes none.
use Rattle.std.specs.Prelude.{◌≡◌, Option, Some, None, Result, Ok, Err}
use Rattle.set_algebra.specs.declared.plan.ConceptPlan.{ConceptPlan}
use Rattle.set_algebra.specs.declared.plan.UnitPlan.{UnitPlan}
use Rattle.set_algebra.specs.Plan.{Plan, plan_of, PlanOfGroups, group_plan_of}
use Rattle.rewrites.specs.declared.fault.RuleFault.{RuleFault}
use Rattle.rewrites.specs.declared.fault.RuleFault.TheVariants.{NotApplicable, Memory}

-- the result of a function that applies a rule to a plan of concepts is right: the plan that the
-- rule makes, NotApplicable if it makes none, or Memory in either case
abbrev pub Gives : Option Plan → Result ConceptPlan RuleFault → Type 0
Gives made (Ok new) = made ≡ Some (plan_of new)
Gives made (Err NotApplicable) = made ≡ None
Gives made (Err Memory) = Unit {0}

-- the result of a function that applies a rule to a plan of groups is right: the plan that the rule
-- makes, NotApplicable if it makes none, or Memory in either case
abbrev pub GivesGroup : Option PlanOfGroups → Result UnitPlan RuleFault → Type 0
GivesGroup made (Ok new) = made ≡ Some (group_plan_of new)
GivesGroup made (Err NotApplicable) = made ≡ None
GivesGroup made (Err Memory) = Unit {0}
