use Rattle.std.proofs.Common.{◌≡◌, map, take}
use Rattle.set_algebra.specs.Plan.{plan_of, plans_of, plan_then, and_plan}
use Rattle.rewrites.proofs.lists.each_with.Given as goal

-- the conjunctions of concepts of the plans of concepts read so far are made
abbrev pub invariant-loop-part : goal.invariant-loop-part
invariant-loop-part l =
    map plan_of l.made.items ≡
    map (λ part. and_plan (plan_then (plan_of part) (plans_of l.rest))) (take l.part-index l.parts)
