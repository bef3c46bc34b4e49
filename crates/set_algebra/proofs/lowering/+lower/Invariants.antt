use Rattle.std.proofs.Common.{◌≡◌, take}
use Rattle.constraint_tree.specs.Tree.{trees_of, refinement_trees_of, set_trees_of}
use Rattle.set_algebra.specs.Lowering.{lowered_trees, lowered_refinements, lowered_sets}
use Rattle.set_algebra.specs.Plan.{plans_of, group_plans_of}
use Rattle.set_algebra.proofs.lowering.+lower.Given as goal

-- the plans made so far are those of the constraints read so far
abbrev pub invariant-each-loop-part : goal.invariant-each-loop-part
invariant-each-loop-part l = plans_of l.plans.items ≡ lowered_trees (trees_of (take l.part-index l.parts))

-- the plans made so far are those of the refinements read so far
abbrev pub invariant-each_satisfying-loop-part : goal.invariant-each_satisfying-loop-part
invariant-each_satisfying-loop-part l =
    plans_of l.plans.items ≡ lowered_refinements (refinement_trees_of (take l.part-index l.parts))

-- the plans made so far are those of the attribute sets read so far
abbrev pub invariant-each_groups-loop-part : goal.invariant-each_groups-loop-part
invariant-each_groups-loop-part l =
    group_plans_of l.plans.items ≡ lowered_sets (set_trees_of (take l.part-index l.parts))
