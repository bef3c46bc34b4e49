-- Constraints as data without pointers, and the data of a constraint in the code. Definitions and
-- contracts speak of this data, because two equal constraints in the code may lie at different
-- places in memory.
use Rattle.std.specs.Prelude.{ℕ, ℤ, Bool, List, [], ◌∷◌, map}
use Rattle.constraint_tree.specs.declared.operator.Operator.{Operator}
use Rattle.constraint_tree.specs.declared.operator.Compare.{Compare}
use Rattle.constraint_tree.specs.declared.operator.Cardinality.{Cardinality}
use Rattle.constraint_tree.specs.declared.tree.Constraint.{Constraint, Row_of-Constraint, end_of-Constraint}
use Rattle.constraint_tree.specs.declared.tree.Constraint.{more_of-Constraint}
use Rattle.constraint_tree.specs.declared.tree.Constraint.TheVariants as constraint
use Rattle.constraint_tree.specs.declared.tree.Refinement.{Refinement, Row_of-Refinement, end_of-Refinement}
use Rattle.constraint_tree.specs.declared.tree.Refinement.{more_of-Refinement}
use Rattle.constraint_tree.specs.declared.tree.Refinement.TheVariants as refinement
use Rattle.constraint_tree.specs.declared.tree.AttributeSet.{AttributeSet, Row_of-AttributeSet, end_of-AttributeSet}
use Rattle.constraint_tree.specs.declared.tree.AttributeSet.{more_of-AttributeSet}
use Rattle.constraint_tree.specs.declared.tree.AttributeSet.TheVariants as attribute_set
use Rattle.constraint_tree.specs.declared.tree.Attribute.{Attribute}
use Rattle.constraint_tree.specs.declared.tree.Test.{Test}
use Rattle.constraint_tree.specs.declared.tree.Test.TheVariants as test

mutual
  -- a constraint without pointers, with the variants of `Constraint`. `concept_tree` has an
  -- identifier
  pub data Tree : Type 0 where
    concept_tree : ℕ → Tree
    any_tree : Tree
    walk_tree : Operator → Tree → Tree
    member_tree : Tree → Tree
    and_tree : Trees → Tree
    or_tree : Trees → Tree
    minus_tree : Tree → Tree → Tree
    dotted_tree : Tree → Trees → Tree
    refined_tree : Tree → RefinementTree → Tree

  -- a list of constraints
  pub data Trees : Type 0 where
    no_trees : Trees
    tree_then : Tree → Trees → Trees

  -- a refinement without pointers, with the variants of `Refinement`
  pub data RefinementTree : Type 0 where
    one_refinement : AttributeTree → RefinementTree
    group_refinement : Cardinality → AttributeSetTree → RefinementTree
    and_refinement : RefinementTrees → RefinementTree
    or_refinement : RefinementTrees → RefinementTree

  -- a list of refinements
  pub data RefinementTrees : Type 0 where
    no_refinements : RefinementTrees
    refinement_then : RefinementTree → RefinementTrees → RefinementTrees

  -- an attribute set without pointers, with the variants of `AttributeSet`
  pub data AttributeSetTree : Type 0 where
    one_set : AttributeTree → AttributeSetTree
    and_set : AttributeSetTrees → AttributeSetTree
    or_set : AttributeSetTrees → AttributeSetTree

  -- a list of attribute sets
  pub data AttributeSetTrees : Type 0 where
    no_sets : AttributeSetTrees
    set_then : AttributeSetTree → AttributeSetTrees → AttributeSetTrees

  -- an attribute: its cardinality, whether it is read backwards, its name and its test
  pub data AttributeTree : Type 0 where
    attribute_tree : Cardinality → Bool → Tree → TestTree → AttributeTree

  -- the test of an attribute's value, with the variants of `Test`
  pub data TestTree : Type 0 where
    within_test : Tree → TestTree
    outside_test : Tree → TestTree
    number_test : Compare → ℤ → TestTree

-- the constraints of a `List`, as `Trees`
abbrev pub trees_from : List Tree → Trees
trees_from [] = no_trees
trees_from (tree ∷ trees) = tree_then tree (trees_from trees)

-- the refinements of a `List`, as `RefinementTrees`
abbrev pub refinements_from : List RefinementTree → RefinementTrees
refinements_from [] = no_refinements
refinements_from (tree ∷ trees) = refinement_then tree (refinements_from trees)

-- the attribute sets of a `List`, as `AttributeSetTrees`
abbrev pub sets_from : List AttributeSetTree → AttributeSetTrees
sets_from [] = no_sets
sets_from (tree ∷ trees) = set_then tree (sets_from trees)

-- the data of values of the code: a `Box` becomes its content, a `Vec` the list of its items
abbrev mutual
  -- the data of a constraint of the code
  pub tree_of : Constraint → Tree
  tree_of (constraint.Concept number) = concept_tree number
  tree_of constraint.Any = any_tree
  tree_of (constraint.Walk' operator pointer operand) = walk_tree operator (tree_of operand)
  tree_of (constraint.MemberOf' pointer operand) = member_tree (tree_of operand)
  tree_of (constraint.And' shape parts) = and_tree (row_of_trees parts)
  tree_of (constraint.Or' shape parts) = or_tree (row_of_trees parts)
  tree_of (constraint.Minus' pointer first other second) =
      minus_tree (tree_of first) (tree_of second)
  tree_of (constraint.Dotted' pointer start shape names) =
      dotted_tree (tree_of start) (row_of_trees names)
  tree_of (constraint.Refined' pointer focus other what) =
      refined_tree (tree_of focus) (refinement_tree_of what)

  -- the data of the constraints in a `Row_of-Constraint`, the form in which the toolchain hides the
  -- items of a `Vec`
  pub row_of_trees : {size : _} → Row_of-Constraint size → Trees
  row_of_trees end_of-Constraint = no_trees
  row_of_trees (more_of-Constraint first rest) = tree_then (tree_of first) (row_of_trees rest)

  -- the data of a refinement of the code
  pub refinement_tree_of : Refinement → RefinementTree
  refinement_tree_of (refinement.One' count reverse name what) =
      one_refinement (attribute_tree count reverse (tree_of name) (test_tree_of what))
  refinement_tree_of (refinement.Group count set) = group_refinement count (set_tree_of set)
  refinement_tree_of (refinement.And' shape parts) = and_refinement (row_of_refinements parts)
  refinement_tree_of (refinement.Or' shape parts) = or_refinement (row_of_refinements parts)

  -- the data of the refinements in a `Row_of-Refinement`, the form in which the toolchain hides the
  -- items of a `Vec`
  pub row_of_refinements : {size : _} → Row_of-Refinement size → RefinementTrees
  row_of_refinements end_of-Refinement = no_refinements
  row_of_refinements (more_of-Refinement first rest) =
      refinement_then (refinement_tree_of first) (row_of_refinements rest)

  -- the data of an attribute set of the code
  pub set_tree_of : AttributeSet → AttributeSetTree
  set_tree_of (attribute_set.One' count reverse name what) =
      one_set (attribute_tree count reverse (tree_of name) (test_tree_of what))
  set_tree_of (attribute_set.And' shape parts) = and_set (row_of_sets parts)
  set_tree_of (attribute_set.Or' shape parts) = or_set (row_of_sets parts)

  -- the data of the attribute sets in a `Row_of-AttributeSet`, the form in which the toolchain
  -- hides the items of a `Vec`
  pub row_of_sets : {size : _} → Row_of-AttributeSet size → AttributeSetTrees
  row_of_sets end_of-AttributeSet = no_sets
  row_of_sets (more_of-AttributeSet first rest) = set_then (set_tree_of first) (row_of_sets rest)

  -- the data of a value test of the code
  pub test_tree_of : Test → TestTree
  test_tree_of (test.Within' pointer operand) = within_test (tree_of operand)
  test_tree_of (test.Outside' pointer operand) = outside_test (tree_of operand)
  test_tree_of (test.Number compare decimal) = number_test compare decimal.0

-- the data of the constraints of a `Vec` or slice
abbrev pub trees_of : List Constraint → Trees
trees_of parts = trees_from (map tree_of parts)

-- the data of the refinements of a `Vec` or slice
abbrev pub refinement_trees_of : List Refinement → RefinementTrees
refinement_trees_of parts = refinements_from (map refinement_tree_of parts)

-- the data of the attribute sets of a `Vec` or slice
abbrev pub set_trees_of : List AttributeSet → AttributeSetTrees
set_trees_of parts = sets_from (map set_tree_of parts)

-- the data of an attribute of the code
abbrev pub attribute_tree_of : Attribute → AttributeTree
attribute_tree_of part =
    attribute_tree part.count part.reverse (tree_of part.name) (test_tree_of part.test)
