use Rattle.std.proofs.Common.{◌≡◌}
use Rattle.set_algebra.specs.Plan.{plans_of, group_plans_of}
use Rattle.rewrites.proofs.SimplifiedLists.{up_to_here, groups_up_to_here}
use Rattle.rewrites.proofs.simplifying.+simplify.Given as goal

-- the first `i` plans of concepts are simplified
abbrev pub invariant-simplify_parts-loop-i : goal.invariant-simplify_parts-loop-i
invariant-simplify_parts-loop-i l =
    goal.unvisited-simplify_parts-loop-i l × (plans_of l.parts.items ≡ up_to_here l.i (plans_of l.initial.parts.items))

-- the first `i` plans of groups are simplified
abbrev pub invariant-simplify_group_parts-loop-i : goal.invariant-simplify_group_parts-loop-i
invariant-simplify_group_parts-loop-i l =
    goal.unvisited-simplify_group_parts-loop-i l ×
    (group_plans_of l.parts.items ≡ groups_up_to_here l.i (group_plans_of l.initial.parts.items))
