-- The trees of the items of a `Vec` in a tree. The toolchain keeps these items in a row of their own.
use Rattle.std.proofs.Common.{◌≡◌, Vec, Box, refl, ap, ◌∙◌}
use Rattle.std.specs.declared.alloc.Global.{Global}
use Rattle.constraint_tree.specs.declared.tree.Constraint.{Constraint, Row_of-Constraint, end_of-Constraint}
use Rattle.constraint_tree.specs.declared.tree.Constraint.{more_of-Constraint, items-the_row-Constraint}
use Rattle.constraint_tree.specs.declared.tree.Constraint.{items_hidden-the_row-Constraint-1}
use Rattle.constraint_tree.specs.declared.tree.Constraint.TheVariants as constraint
use Rattle.constraint_tree.specs.declared.tree.Refinement.{Refinement, Row_of-Refinement, end_of-Refinement}
use Rattle.constraint_tree.specs.declared.tree.Refinement.{more_of-Refinement, items-the_row-Refinement}
use Rattle.constraint_tree.specs.declared.tree.Refinement.{items_hidden-the_row-Refinement-2}
use Rattle.constraint_tree.specs.declared.tree.Refinement.TheVariants as refinement
use Rattle.constraint_tree.specs.declared.tree.AttributeSet.{AttributeSet, Row_of-AttributeSet, end_of-AttributeSet}
use Rattle.constraint_tree.specs.declared.tree.AttributeSet.{more_of-AttributeSet, items-the_row-AttributeSet}
use Rattle.constraint_tree.specs.declared.tree.AttributeSet.{items_hidden-the_row-AttributeSet-0}
use Rattle.constraint_tree.specs.declared.tree.AttributeSet.TheVariants as attribute_set
use Rattle.constraint_tree.specs.Tree.{tree_of, row_of_trees, trees_of, tree_then, and_tree, or_tree, dotted_tree}
use Rattle.constraint_tree.specs.Tree.{refinement_tree_of, row_of_refinements, refinement_trees_of, refinement_then}
use Rattle.constraint_tree.specs.Tree.{and_refinement, or_refinement, set_tree_of, row_of_sets, set_trees_of, set_then}
use Rattle.constraint_tree.specs.Tree.{and_set, or_set}
use Rattle.constraint_tree.specs.declared.tree.AttributeSet.TheBlock.{hidden-the_row-Constraint-1}
use Rattle.constraint_tree.specs.declared.tree.AttributeSet.TheBlock.{hidden-the_row-Refinement-2}
use Rattle.constraint_tree.specs.declared.tree.AttributeSet.TheBlock.{hidden-the_row-AttributeSet-0}
use mathlib.Core.Former.{Count}

-- the trees of a row of constraints are the trees of its items
row_of_trees-items : {size : Count} (row : Row_of-Constraint size)
    → row_of_trees row ≡ trees_of (items-the_row-Constraint size row)
row_of_trees-items end_of-Constraint = refl
row_of_trees-items (more_of-Constraint first rest) = ap (tree_then (tree_of first)) (row_of_trees-items rest)

-- the trees of a row of refinements are the trees of its items
row_of_refinements-items : {size : Count} (row : Row_of-Refinement size)
    → row_of_refinements row ≡ refinement_trees_of (items-the_row-Refinement size row)
row_of_refinements-items end_of-Refinement = refl
row_of_refinements-items (more_of-Refinement first rest) =
    ap (refinement_then (refinement_tree_of first)) (row_of_refinements-items rest)

-- the trees of a row of attribute sets are the trees of its items
row_of_sets-items : {size : Count} (row : Row_of-AttributeSet size)
    → row_of_sets row ≡ set_trees_of (items-the_row-AttributeSet size row)
row_of_sets-items end_of-AttributeSet = refl
row_of_sets-items (more_of-AttributeSet first rest) = ap (set_then (set_tree_of first)) (row_of_sets-items rest)

-- the tree of `Constraint::And` is the `and_tree` of the trees of its items
pub tree_of-And : (parts : Vec Constraint Global) → tree_of (constraint.And parts) ≡ and_tree (trees_of parts.items)
tree_of-And parts = ap and_tree (row_of_trees-items (hidden-the_row-Constraint-1 parts)
    ∙ ap trees_of (items_hidden-the_row-Constraint-1 parts))

-- the tree of `Constraint::Or` is the `or_tree` of the trees of its items
pub tree_of-Or : (parts : Vec Constraint Global) → tree_of (constraint.Or parts) ≡ or_tree (trees_of parts.items)
tree_of-Or parts = ap or_tree (row_of_trees-items (hidden-the_row-Constraint-1 parts)
    ∙ ap trees_of (items_hidden-the_row-Constraint-1 parts))

-- the tree of `Constraint::Dotted` is the `dotted_tree` of its start's tree and the trees of its names
pub tree_of-Dotted : (start : Box Constraint Global) (names : Vec Constraint Global)
    → tree_of (constraint.Dotted start names) ≡ dotted_tree (tree_of start.value) (trees_of names.items)
tree_of-Dotted start names =
    ap (dotted_tree (tree_of start.value)) (row_of_trees-items (hidden-the_row-Constraint-1 names)
    ∙ ap trees_of (items_hidden-the_row-Constraint-1 names))

-- the tree of `Refinement::And` is the `and_refinement` of the trees of its items
pub refinement_tree_of-And : (parts : Vec Refinement Global)
    → refinement_tree_of (refinement.And parts) ≡ and_refinement (refinement_trees_of parts.items)
refinement_tree_of-And parts =
    ap and_refinement (row_of_refinements-items (hidden-the_row-Refinement-2 parts)
    ∙ ap refinement_trees_of (items_hidden-the_row-Refinement-2 parts))

-- the tree of `Refinement::Or` is the `or_refinement` of the trees of its items
pub refinement_tree_of-Or : (parts : Vec Refinement Global)
    → refinement_tree_of (refinement.Or parts) ≡ or_refinement (refinement_trees_of parts.items)
refinement_tree_of-Or parts =
    ap or_refinement (row_of_refinements-items (hidden-the_row-Refinement-2 parts)
    ∙ ap refinement_trees_of (items_hidden-the_row-Refinement-2 parts))

-- the tree of `AttributeSet::And` is the `and_set` of the trees of its items
pub set_tree_of-And : (parts : Vec AttributeSet Global)
    → set_tree_of (attribute_set.And parts) ≡ and_set (set_trees_of parts.items)
set_tree_of-And parts = ap and_set (row_of_sets-items (hidden-the_row-AttributeSet-0 parts)
    ∙ ap set_trees_of (items_hidden-the_row-AttributeSet-0 parts))

-- the tree of `AttributeSet::Or` is the `or_set` of the trees of its items
pub set_tree_of-Or : (parts : Vec AttributeSet Global)
    → set_tree_of (attribute_set.Or parts) ≡ or_set (set_trees_of parts.items)
set_tree_of-Or parts = ap or_set (row_of_sets-items (hidden-the_row-AttributeSet-0 parts)
    ∙ ap set_trees_of (items_hidden-the_row-AttributeSet-0 parts))

-- the lemmas on the trees of the items of a `Vec`, for functions that recurse over a tree
pub ruleset trees_of_items = (
  tree_of-And,
  tree_of-Or,
  tree_of-Dotted,
  refinement_tree_of-And,
  refinement_tree_of-Or,
  set_tree_of-And,
  set_tree_of-Or,
)
