use Rattle.std.proofs.Common.{◌≡◌, map, take}
use Rattle.set_algebra.specs.Plan.{group_plan_of, plan_of, pairs_group_plan, within_plan}
use Rattle.rewrites.proofs.group_pairs.each_value.Given as goal

-- the `pairs_group_plan` of the plans of values read so far are made
abbrev pub invariant-loop-part : goal.invariant-loop-part
invariant-loop-part l =
    map group_plan_of l.made.items ≡
    map (λ part. pairs_group_plan l.count (plan_of l.types) (within_plan (plan_of part))) (take l.part-index l.parts)
