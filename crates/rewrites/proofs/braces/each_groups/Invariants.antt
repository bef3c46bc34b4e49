use Rattle.std.proofs.Common.{◌≡◌, map, take}
use Rattle.set_algebra.specs.Plan.{plan_of, group_plan_of, groups_plan}
use Rattle.rewrites.proofs.braces.each_groups.Given as goal

-- the `groups_plan`s of the plans of groups read so far are made
abbrev pub invariant-loop-part : goal.invariant-loop-part
invariant-loop-part l =
    map plan_of l.made.items ≡ map (λ part. groups_plan l.count (group_plan_of part)) (take l.part-index l.parts)
