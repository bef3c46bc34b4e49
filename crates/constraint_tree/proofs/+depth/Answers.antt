use Rattle.std.proofs.Common.{List, refl, ap, ◌∙◌, arith}
use Rattle.constraint_tree.specs.declared.tree.Constraint.{Constraint}
use Rattle.constraint_tree.specs.Tree.{tree_of, trees_of, refinement_tree_of, refinement_trees_of, set_tree_of}
use Rattle.constraint_tree.specs.Tree.{set_trees_of}
use Rattle.constraint_tree.specs.Depth.{depth_of, trees_depth, refinement_depth, refinements_depth, set_depth}
use Rattle.constraint_tree.specs.Depth.{sets_depth}
use Rattle.constraint_tree.proofs.TreeLemmas.{tree_of-Dotted}
use Rattle.constraint_tree.proofs.DepthLemmas.{deepest_more}
use Rattle.constraint_tree.proofs.+depth.Goals as goal

-- after one turn of the loop `deepest` is the depth of the deepest constraint read, at most 2^64 - 1
pub depth::deepest_constraint-loop-part-preserved :
    goal.depth::deepest_constraint-loop-part-preserved
depth::deepest_constraint-loop-part-preserved t c =
    c.max-deepest.ensures
    ∙ deepest_more (λ part. depth_of (tree_of part)) (λ parts. trees_depth (trees_of parts)) refl (λ part parts. refl)
    c.args.parts.now c.loop-part.part-index c.part-item.result _ _ _
    c.loop-part-test.true c.part-item.is c.loop-part.invariant c.depth.ensures

-- after one turn of the loop `deepest` is the depth of the deepest refinement read, at most 2^64 - 1
pub depth::deepest_refinement-loop-part-preserved :
    goal.depth::deepest_refinement-loop-part-preserved
depth::deepest_refinement-loop-part-preserved t c =
    c.max-deepest.ensures
    ∙ deepest_more (λ part. refinement_depth (refinement_tree_of part))
    (λ parts. refinements_depth (refinement_trees_of parts)) refl (λ part parts. refl)
    c.args.parts.now c.loop-part.part-index c.part-item.result _ _ _
    c.loop-part-test.true c.part-item.is c.loop-part.invariant c.depth.ensures

-- after one turn of the loop `deepest` is the depth of the deepest attribute set read, at most 2^64 - 1
pub depth::deepest_set-loop-part-preserved : goal.depth::deepest_set-loop-part-preserved
depth::deepest_set-loop-part-preserved t c =
    c.max-deepest.ensures
    ∙ deepest_more (λ part. set_depth (set_tree_of part)) (λ parts. sets_depth (set_trees_of parts)) refl
    (λ part parts. refl)
    c.args.parts.now c.loop-part.part-index c.part-item.result _ _ _
    c.loop-part-test.true c.part-item.is c.loop-part.invariant c.depth.ensures

-- `depth` of a dotted constraint returns one more than the greater depth of its start and its names
pub tree::Constraint::depth-returns-in-Dotted : goal.tree::Constraint::depth-returns-in-Dotted
tree::Constraint::depth-returns-in-Dotted t c =
    let tree_is = ap tree_of c.in-Dotted.is ∙ tree_of-Dotted c.in-Dotted.start c.in-Dotted.names in
    let start_is = ap (λ (start : Constraint). depth_of (tree_of start)) c.deref-in-Dotted.ensures in
    let names_are = ap (λ (names : List Constraint). trees_depth (trees_of names)) c.deref-in-Dotted-2.ensures.value in
    omega (arith, ap depth_of tree_is, start_is, names_are)
