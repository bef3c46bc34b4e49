-- The depth of a tree: the number of nodes on the longest path from the root. Constraints,
-- refinements and attribute sets are nodes; attributes are not.
use Rattle.std.specs.Prelude.{ℕ, ◌*◌, ◌+◌, suc, max}
use Rattle.constraint_tree.specs.Refusal.{most_open}
use Rattle.constraint_tree.specs.Tree.{Tree, concept_tree, any_tree, walk_tree, member_tree, and_tree, or_tree}
use Rattle.constraint_tree.specs.Tree.{minus_tree, dotted_tree, refined_tree, Trees, no_trees, tree_then}
use Rattle.constraint_tree.specs.Tree.{RefinementTree, one_refinement, group_refinement, and_refinement, or_refinement}
use Rattle.constraint_tree.specs.Tree.{RefinementTrees, no_refinements, refinement_then, AttributeSetTree, one_set}
use Rattle.constraint_tree.specs.Tree.{and_set, or_set, AttributeSetTrees, no_sets, set_then, AttributeTree}
use Rattle.constraint_tree.specs.Tree.{attribute_tree, TestTree, within_test, outside_test, number_test}

abbrev mutual
  -- the depth of a constraint
  pub depth_of : Tree → ℕ
  depth_of (concept_tree number) = 1
  depth_of any_tree = 1
  depth_of (walk_tree operator operand) = suc (depth_of operand)
  depth_of (member_tree operand) = suc (depth_of operand)
  depth_of (and_tree parts) = suc (trees_depth parts)
  depth_of (or_tree parts) = suc (trees_depth parts)
  depth_of (minus_tree first second) = suc (max (depth_of first) (depth_of second))
  depth_of (dotted_tree start names) = suc (max (depth_of start) (trees_depth names))
  depth_of (refined_tree focus refinement) =
      suc (max (depth_of focus) (refinement_depth refinement))

  -- the depth of the deepest constraint of a list, or 0 if the list is empty
  pub trees_depth : Trees → ℕ
  trees_depth no_trees = 0
  trees_depth (tree_then first rest) = max (depth_of first) (trees_depth rest)

  -- the depth of a refinement
  pub refinement_depth : RefinementTree → ℕ
  refinement_depth (one_refinement what) = suc (attribute_depth what)
  refinement_depth (group_refinement count set) = suc (set_depth set)
  refinement_depth (and_refinement parts) = suc (refinements_depth parts)
  refinement_depth (or_refinement parts) = suc (refinements_depth parts)

  -- the depth of the deepest refinement of a list, or 0 if the list is empty
  pub refinements_depth : RefinementTrees → ℕ
  refinements_depth no_refinements = 0
  refinements_depth (refinement_then first rest) =
      max (refinement_depth first) (refinements_depth rest)

  -- the depth of an attribute set
  pub set_depth : AttributeSetTree → ℕ
  set_depth (one_set what) = suc (attribute_depth what)
  set_depth (and_set parts) = suc (sets_depth parts)
  set_depth (or_set parts) = suc (sets_depth parts)

  -- the depth of the deepest attribute set of a list, or 0 if the list is empty
  pub sets_depth : AttributeSetTrees → ℕ
  sets_depth no_sets = 0
  sets_depth (set_then first rest) = max (set_depth first) (sets_depth rest)

  -- the depth of an attribute: the deeper of its name and its test
  pub attribute_depth : AttributeTree → ℕ
  attribute_depth (attribute_tree count reverse name test) = max (depth_of name) (test_depth test)

  -- the depth of a value test: the depth of its constraint, or 0 for a comparison with a number
  pub test_depth : TestTree → ℕ
  test_depth (within_test operand) = depth_of operand
  test_depth (outside_test operand) = depth_of operand
  test_depth (number_test compare value) = 0

-- the greatest depth of the tree of a text. At most five nodes lie between two open brackets: a
-- refined constraint, AND, an attribute, an operator and `^`. At most six lie inside the innermost
-- bracket
abbrev pub most_deep : ℕ
most_deep = 5 * most_open + 6
