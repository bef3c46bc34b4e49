use Rattle.std.proofs.Common.{◌≡◌, map, take}
use Rattle.set_algebra.specs.Plan.{group_plan_of, plan_of, test_plan_of, pairs_group_plan}
use Rattle.rewrites.proofs.group_pairs.each_type.Given as goal

-- the `pairs_group_plan` of the types read so far are made
abbrev pub invariant-loop-part : goal.invariant-loop-part
invariant-loop-part l =
    map group_plan_of l.made.items ≡
    map (λ part. pairs_group_plan l.count (plan_of part) (test_plan_of l.test)) (take l.part-index l.parts)
