use Rattle.std.proofs.Common.{◌≡◌, map, take}
use Rattle.set_algebra.specs.Plan.{plan_of, test_plan_of, pairs_plan}
use Rattle.rewrites.proofs.pairs.each_type.Given as goal

-- the `pairs_plan`s of the types read so far are made
abbrev pub invariant-loop-part : goal.invariant-loop-part
invariant-loop-part l =
    map plan_of l.made.items ≡
    map (λ part. pairs_plan l.back l.count (plan_of part) (test_plan_of l.test)) (take l.part-index l.parts)
