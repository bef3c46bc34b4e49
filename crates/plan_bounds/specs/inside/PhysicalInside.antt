-- The value that the fields of a `PhysicalPlan` encode, and their invariant.
use Rattle.plan_bounds.specs.PlanWithChoices.{IsPhysical, PlanWithChoices}
use Rattle.plan_bounds.specs.declared.physical.PhysicalPlan.TheInside.{Inside}

-- the plan and the choices that the fields of a `PhysicalPlan` encode
abbrev pub physical_in : Inside → PlanWithChoices
physical_in inside = record {
  plan = inside.plan;
  choices = inside.choices.items;
}

-- the invariant of a `PhysicalPlan`: its list has the choices of its leaves, and each leaf offers
-- its choice
abbrev pub IsKept : Inside → Type 0
IsKept inside = IsPhysical (physical_in inside)
