use Rattle.std.proofs.Common.{◌≡◌, ◌-◌, ◌^◌, min, take}
use Rattle.set_algebra.specs.Depth.{plans_depth, groups_depth}
use Rattle.set_algebra.specs.Plan.{plans_of, group_plans_of}
use Rattle.set_algebra.proofs.+depth.Given as goal

-- `deepest` is the depth of the parts read so far, cut off at 2^64 - 1
abbrev pub invariant-depth::deepest-loop-part : goal.invariant-depth::deepest-loop-part
invariant-depth::deepest-loop-part l = l.deepest ≡ min (plans_depth (plans_of (take l.part-index l.parts))) (2 ^ 64 - 1)

-- `deepest` is the depth of the plans of groups read so far, cut off at 2^64 - 1
abbrev pub invariant-depth::deepest_group-loop-part : goal.invariant-depth::deepest_group-loop-part
invariant-depth::deepest_group-loop-part l =
    l.deepest ≡ min (groups_depth (group_plans_of (take l.part-index l.parts))) (2 ^ 64 - 1)
