use Rattle.std.proofs.Common.{◌≡◌, map, take}
use Rattle.set_algebra.specs.Plan.{plan_of, pairs_plan, within_plan}
use Rattle.rewrites.proofs.pairs.each_value.Given as goal

-- the `pairs_plan`s of the plans of values read so far are made
abbrev pub invariant-loop-part : goal.invariant-loop-part
invariant-loop-part l =
    map plan_of l.made.items ≡
    map (λ part. pairs_plan l.back l.count (plan_of l.types) (within_plan (plan_of part))) (take l.part-index l.parts)
