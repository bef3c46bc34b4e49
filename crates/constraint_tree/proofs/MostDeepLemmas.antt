-- The depth of a tree is bounded by the brackets of its text: at most five nodes stand between two of them.
use Rattle.std.proofs.Common.{ℕ, ◌≡◌, ◌*◌, ◌+◌, ◌≤◌, false, List, refl, arith}
use Rattle.constraint_tree.specs.Depth.{depth_of, trees_depth, refinement_depth, refinements_depth, set_depth}
use Rattle.constraint_tree.specs.Depth.{sets_depth, attribute_depth, test_depth, most_deep}
use Rattle.constraint_tree.specs.Refusal.{IsConstraint}
use Rattle.constraint_tree.specs.Text.{is_focus, is_item, is_member_or_focus, is_part, is_sub}
use Rattle.constraint_tree.specs.Tree.{Tree, concept_tree, any_tree, walk_tree, member_tree, and_tree, or_tree}
use Rattle.constraint_tree.specs.Tree.{minus_tree, dotted_tree, refined_tree, Trees, no_trees, tree_then}
use Rattle.constraint_tree.specs.Tree.{RefinementTree, one_refinement, group_refinement, and_refinement, or_refinement}
use Rattle.constraint_tree.specs.Tree.{RefinementTrees, no_refinements, refinement_then, AttributeSetTree, one_set}
use Rattle.constraint_tree.specs.Tree.{and_set, or_set, AttributeSetTrees, no_sets, set_then, AttributeTree}
use Rattle.constraint_tree.specs.Tree.{attribute_tree, TestTree, within_test, outside_test, number_test}
use Rattle.constraint_tree.proofs.CanonLemmas.{constraint_canonical}
use Rattle.constraint_tree.proofs.LevelLemmas.{placed_levels, levels, list_levels, refinement_levels, item_levels}
use Rattle.constraint_tree.proofs.LevelLemmas.{set_levels, part_levels, attribute_levels, test_levels}

-- the depth of a constraint is bounded by the brackets of its text: alone, as an operand, after an operator and after
-- `^`
record Depths (tree : Tree) : Type 0 where
  alone : depth_of tree ≤ 5 * levels tree + 6
  operand : depth_of tree ≤ 5 * placed_levels (is_sub tree) (levels tree) + 3
  after_operator : depth_of tree ≤ 5 * placed_levels (is_member_or_focus tree) (levels tree) + 2
  after_caret : depth_of tree ≤ 5 * placed_levels (is_focus tree) (levels tree) + 1

-- the depth of a refinement is bounded by the brackets of its text: alone and as an item
record RefinementDepths (tree : RefinementTree) : Type 0 where
  alone : refinement_depth tree ≤ 5 * refinement_levels tree + 5
  item : refinement_depth tree ≤ 5 * placed_levels (is_item tree) (refinement_levels tree) + 4

-- the depth of an attribute set is bounded by the brackets of its text: alone and as a part
record SetDepths (tree : AttributeSetTree) : Type 0 where
  alone : set_depth tree ≤ 5 * set_levels tree + 5
  part : set_depth tree ≤ 5 * placed_levels (is_part tree) (set_levels tree) + 4

-- a tree that needs brackets wherever it is not alone has all four bounds, if it has the bound alone
in_brackets : (tree : Tree) → is_sub tree ≡ false → is_member_or_focus tree ≡ false → is_focus tree ≡ false
    → depth_of tree ≤ 5 * levels tree + 6 → Depths tree
in_brackets tree sub marked focus alone = record {
  alone = alone;
  operand = rw sub (omega (arith, alone));
  after_operator = rw marked (omega (arith, alone));
  after_caret = rw focus (omega (arith, alone));
}

mutual
  -- the depth of every constraint is bounded by the brackets of its text
  depths : (tree : Tree) → Depths tree
  depths (concept_tree number) =
      record { alone = omega arith; operand = omega arith; after_operator = omega arith; after_caret = omega arith }
  depths any_tree =
      record { alone = omega arith; operand = omega arith; after_operator = omega arith; after_caret = omega arith }
  depths (walk_tree operator operand) =
      let below = (depths operand).after_operator in
      record {
        alone = omega (arith, below);
        operand = omega (arith, below);
        after_operator = omega (arith, below);
        after_caret = omega (arith, below);
      }
  depths (member_tree operand) =
      let below = (depths operand).after_caret in
      record {
        alone = omega (arith, below);
        operand = omega (arith, below);
        after_operator = omega (arith, below);
        after_caret = omega (arith, below);
      }
  depths (and_tree parts) = in_brackets (and_tree parts) refl refl refl (omega (arith, list_depths parts))
  depths (or_tree parts) = in_brackets (or_tree parts) refl refl refl (omega (arith, list_depths parts))
  depths (minus_tree first second) =
      in_brackets (minus_tree first second) refl refl refl
      (omega (arith, (depths first).operand, (depths second).operand))
  depths (dotted_tree start names) =
      in_brackets (dotted_tree start names) refl refl refl (omega (arith, (depths start).operand, list_depths names))
  depths (refined_tree focus refinement) =
      in_brackets (refined_tree focus refinement) refl refl refl
      (omega (arith, (depths focus).operand, (refinement_depths refinement).alone))

  -- the depth of a list of operands is bounded by the brackets of their texts
  list_depths : (trees : Trees) → trees_depth trees ≤ 5 * list_levels trees + 3
  list_depths no_trees = omega arith
  list_depths (tree_then first rest) = omega (arith, (depths first).operand, list_depths rest)

  -- the depth of every refinement is bounded by the brackets of its text
  refinement_depths : (tree : RefinementTree) → RefinementDepths tree
  refinement_depths (one_refinement what) =
      let below = attribute_depths what in record { alone = omega (arith, below); item = omega (arith, below) }
  refinement_depths (group_refinement count set) =
      let below = (set_depths set).alone in record { alone = omega (arith, below); item = omega (arith, below) }
  refinement_depths (and_refinement parts) =
      let below = item_depths parts in record { alone = omega (arith, below); item = omega (arith, below) }
  refinement_depths (or_refinement parts) =
      let below = item_depths parts in record { alone = omega (arith, below); item = omega (arith, below) }

  -- the depth of a list of items is bounded by the brackets of their texts
  item_depths : (trees : RefinementTrees) → refinements_depth trees ≤ 5 * item_levels trees + 4
  item_depths no_refinements = omega arith
  item_depths (refinement_then first rest) = omega (arith, (refinement_depths first).item, item_depths rest)

  -- the depth of every attribute set is bounded by the brackets of its text
  set_depths : (tree : AttributeSetTree) → SetDepths tree
  set_depths (one_set what) =
      let below = attribute_depths what in record { alone = omega (arith, below); part = omega (arith, below) }
  set_depths (and_set parts) =
      let below = part_depths parts in record { alone = omega (arith, below); part = omega (arith, below) }
  set_depths (or_set parts) =
      let below = part_depths parts in record { alone = omega (arith, below); part = omega (arith, below) }

  -- the depth of a list of parts is bounded by the brackets of their texts
  part_depths : (trees : AttributeSetTrees) → sets_depth trees ≤ 5 * part_levels trees + 4
  part_depths no_sets = omega arith
  part_depths (set_then first rest) = omega (arith, (set_depths first).part, part_depths rest)

  -- the depth of an attribute is bounded by the brackets of its text
  attribute_depths : (what : AttributeTree) → attribute_depth what ≤ 5 * attribute_levels what + 3
  attribute_depths (attribute_tree count reverse name test) = omega (arith, (depths name).operand, test_depths test)

  -- the depth of a value test is bounded by the brackets of its text
  test_depths : (test : TestTree) → test_depth test ≤ 5 * test_levels test + 3
  test_depths (within_test operand) = (depths operand).operand
  test_depths (outside_test operand) = (depths operand).operand
  test_depths (number_test compare value) = omega arith

-- if a text is a constraint with the tree `tree`, the depth of `tree` is at most `most_deep`, because at most 64
-- brackets of the text are open at once
pub most_deep_of : (text : List ℕ) (tree : Tree) → IsConstraint text tree → depth_of tree ≤ most_deep
most_deep_of text tree constraint = omega (arith, (depths tree).alone, (constraint_canonical text tree constraint).few)
