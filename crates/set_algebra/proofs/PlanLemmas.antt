-- The plan of a variant with a `Vec`, by the items of the `Vec`. The toolchain hides these items in a row.
use Rattle.std.proofs.Common.{◌≡◌, Vec, Box, refl, ap, ◌∙◌}
use Rattle.std.specs.declared.alloc.Global.{Global}
use Rattle.set_algebra.specs.declared.plan.ConceptPlan.{ConceptPlan, Row_of-ConceptPlan, end_of-ConceptPlan}
use Rattle.set_algebra.specs.declared.plan.ConceptPlan.{more_of-ConceptPlan, items-the_row-ConceptPlan}
use Rattle.set_algebra.specs.declared.plan.ConceptPlan.{items_hidden-the_row-ConceptPlan-0}
use Rattle.set_algebra.specs.declared.plan.ConceptPlan.TheVariants as concept_plan
use Rattle.set_algebra.specs.declared.plan.ConceptPlan.TheBlock.{hidden-the_row-ConceptPlan-0}
use Rattle.set_algebra.specs.declared.plan.ConceptPlan.TheBlock.{hidden-the_row-UnitPlan-1}
use Rattle.set_algebra.specs.declared.plan.UnitPlan.{UnitPlan, Row_of-UnitPlan, end_of-UnitPlan, more_of-UnitPlan}
use Rattle.set_algebra.specs.declared.plan.UnitPlan.{items-the_row-UnitPlan, items_hidden-the_row-UnitPlan-1}
use Rattle.set_algebra.specs.declared.plan.UnitPlan.TheVariants as group_plan
use Rattle.set_algebra.specs.Plan.{plan_of, row_of_plans, plans_of, plan_then, and_plan, or_plan, values_plan}
use Rattle.set_algebra.specs.Plan.{group_plan_of, row_of_group_plan, group_plans_of, group_plan_then, and_group_plan}
use Rattle.set_algebra.specs.Plan.{or_group_plan}
use mathlib.Core.Former.{Count}

-- the plans of a row of plans of concepts are those of its items
row_of_plans-items : {size : Count} (row : Row_of-ConceptPlan size)
    → row_of_plans row ≡ plans_of (items-the_row-ConceptPlan size row)
row_of_plans-items end_of-ConceptPlan = refl
row_of_plans-items (more_of-ConceptPlan first rest) = ap (plan_then (plan_of first)) (row_of_plans-items rest)

row_of_group_plan-items : {size : Count} (row : Row_of-UnitPlan size)
    → row_of_group_plan row ≡ group_plans_of (items-the_row-UnitPlan size row)
row_of_group_plan-items end_of-UnitPlan = refl
row_of_group_plan-items (more_of-UnitPlan first rest) =
    ap (group_plan_then (group_plan_of first)) (row_of_group_plan-items rest)

-- the plan of an `And` of concepts is `and_plan` of the plans of its parts
pub plan_of-And : (parts : Vec ConceptPlan Global) → plan_of (concept_plan.And parts) ≡ and_plan (plans_of parts.items)
plan_of-And parts = ap and_plan (row_of_plans-items (hidden-the_row-ConceptPlan-0 parts)
    ∙ ap plans_of (items_hidden-the_row-ConceptPlan-0 parts))

-- the plan of an `Or` of concepts is `or_plan` of the plans of its parts
pub plan_of-Or : (parts : Vec ConceptPlan Global) → plan_of (concept_plan.Or parts) ≡ or_plan (plans_of parts.items)
plan_of-Or parts = ap or_plan (row_of_plans-items (hidden-the_row-ConceptPlan-0 parts)
    ∙ ap plans_of (items_hidden-the_row-ConceptPlan-0 parts))

-- the plan of a `Values` is `values_plan` of the plans of its start and its names
pub plan_of-Values : (start : Box ConceptPlan Global) (names : Vec ConceptPlan Global)
    → plan_of (concept_plan.Values start names) ≡ values_plan (plan_of start.value) (plans_of names.items)
plan_of-Values start names =
    ap (values_plan (plan_of start.value)) (row_of_plans-items (hidden-the_row-ConceptPlan-0 names)
    ∙ ap plans_of (items_hidden-the_row-ConceptPlan-0 names))

-- the plan of an `And` of groups is `and_group_plan` of the plans of its parts
pub group_plan_of-And : (parts : Vec UnitPlan Global)
    → group_plan_of (group_plan.And parts) ≡ and_group_plan (group_plans_of parts.items)
group_plan_of-And parts =
    ap and_group_plan (row_of_group_plan-items (hidden-the_row-UnitPlan-1 parts)
    ∙ ap group_plans_of (items_hidden-the_row-UnitPlan-1 parts))

-- the plan of an `Or` of groups is `or_group_plan` of the plans of its parts
pub group_plan_of-Or : (parts : Vec UnitPlan Global)
    → group_plan_of (group_plan.Or parts) ≡ or_group_plan (group_plans_of parts.items)
group_plan_of-Or parts =
    ap or_group_plan (row_of_group_plan-items (hidden-the_row-UnitPlan-1 parts)
    ∙ ap group_plans_of (items_hidden-the_row-UnitPlan-1 parts))

-- the lemmas on the plans of all variants with a `Vec`, for functions that go down a plan
pub ruleset plans_of_items = (plan_of-And, plan_of-Or, plan_of-Values, group_plan_of-And, group_plan_of-Or)
