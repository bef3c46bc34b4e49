use Rattle.std.proofs.Common.{◌≡◌, map, take}
use Rattle.set_algebra.specs.Plan.{plan_of, walk_plan}
use Rattle.rewrites.proofs.walks.each_walk.Given as goal

-- the walks of the plans of concepts read so far are made
abbrev pub invariant-loop-part : goal.invariant-loop-part
invariant-loop-part l =
    map plan_of l.made.items ≡ map (λ part. walk_plan l.operator (plan_of part)) (take l.part-index l.parts)
