-- The plan of a constraint. It follows the tree: a refinement becomes a plan of concepts, braces
-- become a plan of groups, and `A : r` becomes the conjunction of A and r.
use Rattle.constraint_tree.specs.Tree.{Tree, concept_tree, any_tree, walk_tree, member_tree, and_tree, or_tree}
use Rattle.constraint_tree.specs.Tree.{minus_tree, dotted_tree, refined_tree, Trees, no_trees, tree_then}
use Rattle.constraint_tree.specs.Tree.{RefinementTree, one_refinement, group_refinement, and_refinement, or_refinement}
use Rattle.constraint_tree.specs.Tree.{RefinementTrees, no_refinements, refinement_then, AttributeSetTree, one_set}
use Rattle.constraint_tree.specs.Tree.{and_set, or_set, AttributeSetTrees, no_sets, set_then, AttributeTree}
use Rattle.constraint_tree.specs.Tree.{attribute_tree, TestTree, within_test, outside_test, number_test}
use Rattle.set_algebra.specs.Plan.{Plan, all_plan, one_plan, walk_plan, members_plan, and_plan, or_plan, minus_plan}
use Rattle.set_algebra.specs.Plan.{values_plan, pairs_plan, groups_plan, Plans, no_plans, plan_then, PlanOfGroups}
use Rattle.set_algebra.specs.Plan.{and_group_plan, or_group_plan, pairs_group_plan, PlansOfGroups, no_group_plans}
use Rattle.set_algebra.specs.Plan.{group_plan_then, TestPlan, within_plan, outside_plan, number_plan}

-- the conjunction of two plans of concepts
abbrev pub both_plan : Plan → Plan → Plan
both_plan one other = and_plan (plan_then one (plan_then other no_plans))

abbrev mutual
  -- the plan of a constraint; `A : r` becomes the conjunction of A and r
  pub lowered : Tree → Plan
  lowered (concept_tree number) = one_plan number
  lowered any_tree = all_plan
  lowered (walk_tree operator operand) = walk_plan operator (lowered operand)
  lowered (member_tree operand) = members_plan (lowered operand)
  lowered (and_tree parts) = and_plan (lowered_trees parts)
  lowered (or_tree parts) = or_plan (lowered_trees parts)
  lowered (minus_tree first second) = minus_plan (lowered first) (lowered second)
  lowered (dotted_tree start names) = values_plan (lowered start) (lowered_trees names)
  lowered (refined_tree focus refinement) =
      both_plan (lowered focus) (lowered_refinement refinement)

  -- the plans of a list of constraints, in their order
  pub lowered_trees : Trees → Plans
  lowered_trees no_trees = no_plans
  lowered_trees (tree_then first rest) = plan_then (lowered first) (lowered_trees rest)

  -- the plan of the concepts that satisfy a refinement
  pub lowered_refinement : RefinementTree → Plan
  lowered_refinement (one_refinement attribute) = lowered_attribute attribute
  lowered_refinement (group_refinement count set) = groups_plan count (lowered_set set)
  lowered_refinement (and_refinement parts) = and_plan (lowered_refinements parts)
  lowered_refinement (or_refinement parts) = or_plan (lowered_refinements parts)

  -- the plans of a list of refinements, in their order
  pub lowered_refinements : RefinementTrees → Plans
  lowered_refinements no_refinements = no_plans
  lowered_refinements (refinement_then first rest) =
      plan_then (lowered_refinement first) (lowered_refinements rest)

  -- the plan of the concepts that satisfy an attribute with all their pairs, in whatever group
  pub lowered_attribute : AttributeTree → Plan
  lowered_attribute (attribute_tree count reverse name test) =
      pairs_plan reverse count (lowered name) (lowered_test test)

  -- the plan of the groups that satisfy an attribute set. No attribute of a set is read backwards
  pub lowered_set : AttributeSetTree → PlanOfGroups
  lowered_set (one_set attribute) = lowered_in_group attribute
  lowered_set (and_set parts) = and_group_plan (lowered_sets parts)
  lowered_set (or_set parts) = or_group_plan (lowered_sets parts)

  -- the plans of a list of attribute sets, in their order
  pub lowered_sets : AttributeSetTrees → PlansOfGroups
  lowered_sets no_sets = no_group_plans
  lowered_sets (set_then first rest) = group_plan_then (lowered_set first) (lowered_sets rest)

  -- the plan of the groups that satisfy an attribute with their own pairs; `reverse` is not used
  pub lowered_in_group : AttributeTree → PlanOfGroups
  lowered_in_group (attribute_tree count reverse name test) =
      pairs_group_plan count (lowered name) (lowered_test test)

  -- the test of values that passes the same values as the test of an attribute
  pub lowered_test : TestTree → TestPlan
  lowered_test (within_test operand) = within_plan (lowered operand)
  lowered_test (outside_test operand) = outside_plan (lowered operand)
  lowered_test (number_test compare number) = number_plan compare number
