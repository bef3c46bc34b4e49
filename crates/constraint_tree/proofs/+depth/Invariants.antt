use Rattle.std.proofs.Common.{◌≡◌, ◌-◌, ◌^◌, min, take}
use Rattle.constraint_tree.specs.Depth.{trees_depth, refinements_depth, sets_depth}
use Rattle.constraint_tree.specs.Tree.{trees_of, refinement_trees_of, set_trees_of}
use Rattle.constraint_tree.proofs.+depth.Given as goal

abbrev pub invariant-depth::deepest_constraint-loop-part :
    goal.invariant-depth::deepest_constraint-loop-part
invariant-depth::deepest_constraint-loop-part l =
    l.deepest ≡ min (trees_depth (trees_of (take l.part-index l.parts))) (2 ^ 64 - 1)

abbrev pub invariant-depth::deepest_refinement-loop-part :
    goal.invariant-depth::deepest_refinement-loop-part
invariant-depth::deepest_refinement-loop-part l =
    l.deepest ≡ min (refinements_depth (refinement_trees_of (take l.part-index l.parts))) (2 ^ 64 - 1)

abbrev pub invariant-depth::deepest_set-loop-part : goal.invariant-depth::deepest_set-loop-part
invariant-depth::deepest_set-loop-part l =
    l.deepest ≡ min (sets_depth (set_trees_of (take l.part-index l.parts))) (2 ^ 64 - 1)
