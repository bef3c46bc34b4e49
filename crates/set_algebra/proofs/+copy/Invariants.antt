use Rattle.std.proofs.Common.{◌≡◌, take}
use Rattle.set_algebra.specs.Plan.{plans_of, group_plans_of}
use Rattle.set_algebra.proofs.+copy.Given as goal

-- the copies made so far have the plans of the items read so far
abbrev pub invariant-copy::each-loop-plan : goal.invariant-copy::each-loop-plan
invariant-copy::each-loop-plan l = plans_of l.copies.items ≡ plans_of (take l.plan-index l.plans)

-- the copies made so far have the plans of groups of the items read so far
abbrev pub invariant-copy::each_group-loop-plan : goal.invariant-copy::each_group-loop-plan
invariant-copy::each_group-loop-plan l = group_plans_of l.copies.items ≡ group_plans_of (take l.plan-index l.plans)
