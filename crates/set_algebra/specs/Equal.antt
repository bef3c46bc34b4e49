-- Tests, as definitions that compute, whether two plans are equal. Plans as data have no choices,
-- so choices are not compared.
use Rattle.std.specs.Prelude.{ℕ, ◌==◌, ◌&&◌, Bool, true, false, Option, Some, None}
use Rattle.std.specs.Ordering.{int_eq}
use Rattle.std.proofs.Math.Bool.{beq}
use Rattle.constraint_tree.specs.declared.operator.Operator.{Operator}
use Rattle.constraint_tree.specs.declared.operator.Compare.{Compare}
use Rattle.constraint_tree.specs.declared.operator.Cardinality.{Cardinality}
use Rattle.constraint_tree.specs.declared.operator.Compare.TheVariants.{Equal, NotEqual, Less, LessOrEqual, Greater}
use Rattle.constraint_tree.specs.declared.operator.Compare.TheVariants.{GreaterOrEqual}
use Rattle.constraint_tree.specs.declared.operator.Operator.TheVariants.{Descendants, DescendantsOrSelf, Children}
use Rattle.constraint_tree.specs.declared.operator.Operator.TheVariants.{ChildrenOrSelf, Ancestors, AncestorsOrSelf}
use Rattle.constraint_tree.specs.declared.operator.Operator.TheVariants.{Parents, ParentsOrSelf, Top, Bottom}
use Rattle.set_algebra.specs.Plan.{Plan, empty_plan, all_plan, one_plan, walk_plan, members_plan, and_plan, or_plan}
use Rattle.set_algebra.specs.Plan.{minus_plan, values_plan, pairs_plan, groups_plan, Plans, no_plans, plan_then}
use Rattle.set_algebra.specs.Plan.{PlanOfGroups, nothing_group, every_group, and_group_plan, or_group_plan}
use Rattle.set_algebra.specs.Plan.{minus_group_plan, pairs_group_plan, PlansOfGroups, no_group_plans, group_plan_then}
use Rattle.set_algebra.specs.Plan.{TestPlan, within_plan, outside_plan, number_plan}

-- whether two hierarchy operators are equal
abbrev pub same_operator : Operator → Operator → Bool
same_operator Descendants Descendants = true
same_operator DescendantsOrSelf DescendantsOrSelf = true
same_operator Children Children = true
same_operator ChildrenOrSelf ChildrenOrSelf = true
same_operator Ancestors Ancestors = true
same_operator AncestorsOrSelf AncestorsOrSelf = true
same_operator Parents Parents = true
same_operator ParentsOrSelf ParentsOrSelf = true
same_operator Top Top = true
same_operator Bottom Bottom = true
same_operator one other = false

-- whether two comparisons of numbers are equal
abbrev pub same_comparison : Compare → Compare → Bool
same_comparison Equal Equal = true
same_comparison NotEqual NotEqual = true
same_comparison Less Less = true
same_comparison LessOrEqual LessOrEqual = true
same_comparison Greater Greater = true
same_comparison GreaterOrEqual GreaterOrEqual = true
same_comparison one other = false

-- whether two maxima are equal; `None` stands for no maximum
abbrev pub same_most : Option ℕ → Option ℕ → Bool
same_most None None = true
same_most (Some most) (Some other) = most == other
same_most one other = false

-- whether two cardinalities have equal minima and equal maxima
abbrev pub same_cardinality : Cardinality → Cardinality → Bool
same_cardinality one other = (one.min == other.min) && same_most one.max other.max

abbrev mutual
  -- whether two plans of concepts are the same variant with equal parts
  pub same_plan : Plan → Plan → Bool
  same_plan empty_plan empty_plan = true
  same_plan all_plan all_plan = true
  same_plan (one_plan number) (one_plan other) = number == other
  same_plan (walk_plan operator operand) (walk_plan other_operator other) =
      same_operator operator other_operator && same_plan operand other
  same_plan (members_plan operand) (members_plan other) = same_plan operand other
  same_plan (and_plan parts) (and_plan others) = same_plans parts others
  same_plan (or_plan parts) (or_plan others) = same_plans parts others
  same_plan (minus_plan first second) (minus_plan other_first other_second) =
      same_plan first other_first && same_plan second other_second
  same_plan (values_plan start names) (values_plan other others) =
      same_plan start other && same_plans names others
  same_plan (pairs_plan back count types test) (pairs_plan other_back other_count others other) =
      (beq back other_back && same_cardinality count other_count)
      && (same_plan types others && same_test test other)
  same_plan (groups_plan count units) (groups_plan other_count others) =
      same_cardinality count other_count && same_group units others
  same_plan one other = false

  -- whether two lists of plans of concepts have the same length and equal plans at each index
  pub same_plans : Plans → Plans → Bool
  same_plans no_plans no_plans = true
  same_plans (plan_then first rest) (plan_then other others) =
      same_plan first other && same_plans rest others
  same_plans some others = false

  -- whether two plans of groups are the same variant with equal parts
  pub same_group : PlanOfGroups → PlanOfGroups → Bool
  same_group nothing_group nothing_group = true
  same_group every_group every_group = true
  same_group (and_group_plan parts) (and_group_plan others) = same_groups parts others
  same_group (or_group_plan parts) (or_group_plan others) = same_groups parts others
  same_group (minus_group_plan first second) (minus_group_plan other_first other_second) =
      same_group first other_first && same_group second other_second
  same_group (pairs_group_plan count types test) (pairs_group_plan other_count others other) =
      same_cardinality count other_count && (same_plan types others && same_test test other)
  same_group one other = false

  -- whether two lists of plans of groups have the same length and equal plans at each index
  pub same_groups : PlansOfGroups → PlansOfGroups → Bool
  same_groups no_group_plans no_group_plans = true
  same_groups (group_plan_then first rest) (group_plan_then other others) =
      same_group first other && same_groups rest others
  same_groups some others = false

  -- whether two tests of values are the same variant with equal parts
  pub same_test : TestPlan → TestPlan → Bool
  same_test (within_plan operand) (within_plan other) = same_plan operand other
  same_test (outside_plan operand) (outside_plan other) = same_plan operand other
  same_test (number_plan compare number) (number_plan other_compare other) =
      same_comparison compare other_compare && int_eq number other
  same_test one other = false
