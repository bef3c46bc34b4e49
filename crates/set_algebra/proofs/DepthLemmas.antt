-- The plan of a constraint is as deep as its tree.
use Rattle.std.proofs.Common.{◌≡◌, max, suc, refl, ap, arith}
use Rattle.constraint_tree.specs.Depth.{depth_of, trees_depth, refinement_depth, refinements_depth, set_depth}
use Rattle.constraint_tree.specs.Depth.{sets_depth, attribute_depth, test_depth as tested_depth}
use Rattle.constraint_tree.specs.Tree.{Tree, concept_tree, any_tree, walk_tree, member_tree, and_tree, or_tree}
use Rattle.constraint_tree.specs.Tree.{minus_tree, dotted_tree, refined_tree, Trees, no_trees, tree_then}
use Rattle.constraint_tree.specs.Tree.{RefinementTree, one_refinement, group_refinement, and_refinement, or_refinement}
use Rattle.constraint_tree.specs.Tree.{RefinementTrees, no_refinements, refinement_then, AttributeSetTree, one_set}
use Rattle.constraint_tree.specs.Tree.{and_set, or_set, AttributeSetTrees, no_sets, set_then, AttributeTree}
use Rattle.constraint_tree.specs.Tree.{attribute_tree, TestTree, within_test, outside_test, number_test}
use Rattle.set_algebra.specs.Depth.{plan_depth, plans_depth, group_depth, groups_depth, test_depth}
use Rattle.set_algebra.specs.Lowering.{lowered, lowered_trees, lowered_refinement, lowered_refinements}
use Rattle.set_algebra.specs.Lowering.{lowered_attribute, lowered_set, lowered_sets, lowered_in_group, lowered_test}

mutual
  -- the plan of a constraint is as deep as the constraint's tree
  pub lowered_depth : (tree : Tree) → plan_depth (lowered tree) ≡ depth_of tree
  lowered_depth (concept_tree number) = refl
  lowered_depth any_tree = refl
  lowered_depth (walk_tree operator operand) = ap suc (lowered_depth operand)
  lowered_depth (member_tree operand) = ap suc (lowered_depth operand)
  lowered_depth (and_tree parts) = ap suc (list_depth parts)
  lowered_depth (or_tree parts) = ap suc (list_depth parts)
  lowered_depth (minus_tree first second) = λ i. suc (max (lowered_depth first i) (lowered_depth second i))
  lowered_depth (dotted_tree start names) = λ i. suc (max (lowered_depth start i) (list_depth names i))
  lowered_depth (refined_tree focus refinement) =
      omega (arith, lowered_depth focus, refinement_depth_same refinement)

  list_depth : (trees : Trees) → plans_depth (lowered_trees trees) ≡ trees_depth trees
  list_depth no_trees = refl
  list_depth (tree_then first rest) = λ i. max (lowered_depth first i) (list_depth rest i)

  refinement_depth_same : (tree : RefinementTree) → plan_depth (lowered_refinement tree) ≡ refinement_depth tree
  refinement_depth_same (one_refinement what) = attribute_depth_same what
  refinement_depth_same (group_refinement count set) = ap suc (set_depth_same set)
  refinement_depth_same (and_refinement parts) = ap suc (items_depth parts)
  refinement_depth_same (or_refinement parts) = ap suc (items_depth parts)

  items_depth : (trees : RefinementTrees) → plans_depth (lowered_refinements trees) ≡ refinements_depth trees
  items_depth no_refinements = refl
  items_depth (refinement_then first rest) = λ i. max (refinement_depth_same first i) (items_depth rest i)

  attribute_depth_same : (what : AttributeTree) → plan_depth (lowered_attribute what) ≡ suc (attribute_depth what)
  attribute_depth_same (attribute_tree count reverse name test) =
      λ i. suc (max (lowered_depth name i) (test_depth_same test i))

  set_depth_same : (tree : AttributeSetTree) → group_depth (lowered_set tree) ≡ set_depth tree
  set_depth_same (one_set what) = in_group_depth what
  set_depth_same (and_set parts) = ap suc (parts_depth parts)
  set_depth_same (or_set parts) = ap suc (parts_depth parts)

  parts_depth : (trees : AttributeSetTrees) → groups_depth (lowered_sets trees) ≡ sets_depth trees
  parts_depth no_sets = refl
  parts_depth (set_then first rest) = λ i. max (set_depth_same first i) (parts_depth rest i)

  in_group_depth : (what : AttributeTree) → group_depth (lowered_in_group what) ≡ suc (attribute_depth what)
  in_group_depth (attribute_tree count reverse name test) =
      λ i. suc (max (lowered_depth name i) (test_depth_same test i))

  test_depth_same : (test : TestTree) → test_depth (lowered_test test) ≡ tested_depth test
  test_depth_same (within_test operand) = lowered_depth operand
  test_depth_same (outside_test operand) = lowered_depth operand
  test_depth_same (number_test compare value) = refl
