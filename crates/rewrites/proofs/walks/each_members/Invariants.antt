use Rattle.std.proofs.Common.{◌≡◌, map, take}
use Rattle.set_algebra.specs.Plan.{plan_of, members_plan}
use Rattle.rewrites.proofs.walks.each_members.Given as goal

-- the `members_plan`s of the plans of concepts read so far are made
abbrev pub invariant-loop-part : goal.invariant-loop-part
invariant-loop-part l =
    map plan_of l.made.items ≡ map (λ part. members_plan (plan_of part)) (take l.part-index l.parts)
