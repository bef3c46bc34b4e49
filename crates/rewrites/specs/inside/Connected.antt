-- The plan of a list of parts that `And` or `Or` connects.
use Rattle.std.specs.Prelude.{Bool, true, false, Option}
use Rattle.set_algebra.specs.Plan.{Plan, Plans, and_plan, or_plan, PlanOfGroups, PlansOfGroups, and_group_plan}
use Rattle.set_algebra.specs.Plan.{or_group_plan}
use Rattle.set_algebra.specs.inside.Views.{and_parts, or_parts, group_and_parts, group_or_parts}
use Rattle.rewrites.specs.declared.connective.Connective.{Connective}
use Rattle.rewrites.specs.declared.connective.Connective.TheVariants.{And, Or}

-- plans of concepts

-- the plan of concepts with the given connective and parts
abbrev pub connected : Connective → Plans → Plan
connected And parts = and_plan parts
connected Or parts = or_plan parts

-- whether a plan of concepts is an `And` or an `Or`
abbrev pub is_connected : Plan → Bool
is_connected (and_plan parts) = true
is_connected (or_plan parts) = true
is_connected plan = false

-- the parts of a plan of concepts with that connective, or `None` for any other plan
abbrev pub parts_under : Connective → Plan → Option Plans
parts_under And plan = and_parts plan
parts_under Or plan = or_parts plan

-- plans of groups

-- the plan of groups with the given connective and parts
abbrev pub connected_groups : Connective → PlansOfGroups → PlanOfGroups
connected_groups And parts = and_group_plan parts
connected_groups Or parts = or_group_plan parts

-- whether a plan of groups is an `And` or an `Or`
abbrev pub is_connected_group : PlanOfGroups → Bool
is_connected_group (and_group_plan parts) = true
is_connected_group (or_group_plan parts) = true
is_connected_group plan = false

-- the parts of a plan of groups with that connective, or `None` for any other plan
abbrev pub group_parts_under : Connective → PlanOfGroups → Option PlansOfGroups
group_parts_under And plan = group_and_parts plan
group_parts_under Or plan = group_or_parts plan
