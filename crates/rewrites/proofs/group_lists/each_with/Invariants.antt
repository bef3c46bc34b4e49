use Rattle.std.proofs.Common.{◌≡◌, map, take}
use Rattle.set_algebra.specs.Plan.{group_plan_of, group_plans_of, group_plan_then, and_group_plan}
use Rattle.rewrites.proofs.group_lists.each_with.Given as goal

-- the conjunctions of groups of the plans of groups read so far are made
abbrev pub invariant-loop-part : goal.invariant-loop-part
invariant-loop-part l =
    map group_plan_of l.made.items ≡
    map (λ part. and_group_plan (group_plan_then (group_plan_of part) (group_plans_of l.rest)))
    (take l.part-index l.parts)
