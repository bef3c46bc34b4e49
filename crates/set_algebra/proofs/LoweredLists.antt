-- Lists to which constraints are appended, and the lists of their plans.
use Rattle.std.proofs.Common.{ℕ, ◌≡◌, List, [], ◌∷◌, ◌++◌, ◌+◌, ◌<◌, length, get_or, take, refl, ap}
use Rattle.std.proofs.lemmas.List.{take_more}
use Rattle.constraint_tree.specs.declared.tree.Constraint.{Constraint}
use Rattle.constraint_tree.specs.declared.tree.Refinement.{Refinement}
use Rattle.constraint_tree.specs.declared.tree.AttributeSet.{AttributeSet}
use Rattle.constraint_tree.specs.Tree.{tree_of, trees_of, refinement_tree_of, refinement_trees_of, set_tree_of}
use Rattle.constraint_tree.specs.Tree.{set_trees_of}
use Rattle.set_algebra.specs.Plan.{plan_then, group_plan_then}
use Rattle.set_algebra.specs.Lowering.{lowered, lowered_trees, lowered_refinement, lowered_refinements, lowered_set}
use Rattle.set_algebra.specs.Lowering.{lowered_sets}
use Rattle.set_algebra.proofs.ListLemmas.{plans_push, groups_push}

lowered-push : (parts : List Constraint) (part : Constraint)
    → lowered_trees (trees_of (parts ++ part ∷ []))
    ≡ plans_push (lowered_trees (trees_of parts)) (lowered (tree_of part))
unfolding plans_push
lowered-push [] part = refl
lowered-push (first ∷ rest) part = ap (plan_then (lowered (tree_of first))) (lowered-push rest part)

lowered_refinements-push : (parts : List Refinement) (part : Refinement)
    → lowered_refinements (refinement_trees_of (parts ++ part ∷ []))
    ≡ plans_push (lowered_refinements (refinement_trees_of parts)) (lowered_refinement (refinement_tree_of part))
unfolding plans_push
lowered_refinements-push [] part = refl
lowered_refinements-push (first ∷ rest) part =
    ap (plan_then (lowered_refinement (refinement_tree_of first))) (lowered_refinements-push rest part)

lowered_sets-push : (parts : List AttributeSet) (part : AttributeSet)
    → lowered_sets (set_trees_of (parts ++ part ∷ []))
    ≡ groups_push (lowered_sets (set_trees_of parts)) (lowered_set (set_tree_of part))
unfolding groups_push
lowered_sets-push [] part = refl
lowered_sets-push (first ∷ rest) part =
    ap (group_plan_then (lowered_set (set_tree_of first))) (lowered_sets-push rest part)

-- loop step for constraints: the plans of the first `i + 1` parts are those of the first `i`, with the plan of part
-- `i` appended
pub lowered_so_far : (parts : List Constraint) (i : ℕ) (part : Constraint) → i < length parts
    → part ≡ get_or parts i part
    → lowered_trees (trees_of (take (i + 1) parts))
    ≡ plans_push (lowered_trees (trees_of (take i parts))) (lowered (tree_of part))
lowered_so_far parts i part within is = rw (take_more parts i part within, ← is) (lowered-push (take i parts) part)

-- loop step for refinements: the plans of the first `i + 1` parts are those of the first `i`, with the plan of part
-- `i` appended
pub lowered_refinements_so_far : (parts : List Refinement) (i : ℕ) (part : Refinement) → i < length parts
    → part ≡ get_or parts i part
    → lowered_refinements (refinement_trees_of (take (i + 1) parts))
    ≡ plans_push (lowered_refinements (refinement_trees_of (take i parts)))
    (lowered_refinement (refinement_tree_of part))
lowered_refinements_so_far parts i part within is =
    rw (take_more parts i part within, ← is) (lowered_refinements-push (take i parts) part)

-- loop step for attribute sets: the plans of the first `i + 1` parts are those of the first `i`, with the plan of
-- part `i` appended
pub lowered_sets_so_far : (parts : List AttributeSet) (i : ℕ) (part : AttributeSet) → i < length parts
    → part ≡ get_or parts i part
    → lowered_sets (set_trees_of (take (i + 1) parts))
    ≡ groups_push (lowered_sets (set_trees_of (take i parts))) (lowered_set (set_tree_of part))
lowered_sets_so_far parts i part within is =
    rw (take_more parts i part within, ← is) (lowered_sets-push (take i parts) part)
