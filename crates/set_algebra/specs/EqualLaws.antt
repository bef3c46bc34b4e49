-- The tests `same_plan`, `same_group` and `same_test` are true exactly for equal data.
use Rattle.std.proofs.Common.{ℕ, ◌≡◌, ◌==◌, ◌&&◌, ◌∙◌, Bool, true, Option, Some, None, refl, ap, subst}
use Rattle.std.specs.Bool.{Decides}
use Rattle.std.specs.Cmp.{booleans_Decides}
use Rattle.std.proofs.Math.Bool.{beq}
use Rattle.std.proofs.lemmas.Bool.{false≢true, and_parts, and_from}
use Rattle.std.proofs.lemmas.Bool.Decides.{Decides-eqb, Decides-int_eq}
use Rattle.constraint_tree.specs.declared.operator.Operator.{Operator}
use Rattle.constraint_tree.specs.declared.operator.Compare.{Compare}
use Rattle.constraint_tree.specs.declared.operator.Cardinality.{Cardinality}
use Rattle.constraint_tree.specs.declared.operator.Compare.TheVariants.{Equal, NotEqual, Less, LessOrEqual, Greater}
use Rattle.constraint_tree.specs.declared.operator.Compare.TheVariants.{GreaterOrEqual}
use Rattle.constraint_tree.specs.declared.operator.Operator.TheVariants.{Descendants, DescendantsOrSelf, Children}
use Rattle.constraint_tree.specs.declared.operator.Operator.TheVariants.{ChildrenOrSelf, Ancestors, AncestorsOrSelf}
use Rattle.constraint_tree.specs.declared.operator.Operator.TheVariants.{Parents, ParentsOrSelf, Top, Bottom}
use Rattle.set_algebra.specs.Equal.{same_operator, same_most, same_comparison, same_cardinality, same_plan, same_plans}
use Rattle.set_algebra.specs.Equal.{same_group, same_groups, same_test}
use Rattle.set_algebra.specs.Plan.{Plan, empty_plan, all_plan, one_plan, walk_plan, members_plan, and_plan, or_plan}
use Rattle.set_algebra.specs.Plan.{minus_plan, values_plan, pairs_plan, groups_plan, Plans, no_plans, plan_then}
use Rattle.set_algebra.specs.Plan.{PlanOfGroups, nothing_group, every_group, and_group_plan, or_group_plan}
use Rattle.set_algebra.specs.Plan.{minus_group_plan, pairs_group_plan, PlansOfGroups, no_group_plans, group_plan_then}
use Rattle.set_algebra.specs.Plan.{TestPlan, within_plan, outside_plan, number_plan}

operator_is : (one other : Operator) → same_operator one other ≡ true → one ≡ other
operator_is Descendants Descendants same = refl
operator_is DescendantsOrSelf DescendantsOrSelf same = refl
operator_is Children Children same = refl
operator_is ChildrenOrSelf ChildrenOrSelf same = refl
operator_is Ancestors Ancestors same = refl
operator_is AncestorsOrSelf AncestorsOrSelf same = refl
operator_is Parents Parents same = refl
operator_is ParentsOrSelf ParentsOrSelf same = refl
operator_is Top Top same = refl
operator_is Bottom Bottom same = refl
operator_is one other same = absurd (false≢true same)

operator_itself : (one : Operator) → same_operator one one ≡ true
operator_itself Descendants = refl
operator_itself DescendantsOrSelf = refl
operator_itself Children = refl
operator_itself ChildrenOrSelf = refl
operator_itself Ancestors = refl
operator_itself AncestorsOrSelf = refl
operator_itself Parents = refl
operator_itself ParentsOrSelf = refl
operator_itself Top = refl
operator_itself Bottom = refl

comparison_is : (one other : Compare) → same_comparison one other ≡ true → one ≡ other
comparison_is Equal Equal same = refl
comparison_is NotEqual NotEqual same = refl
comparison_is Less Less same = refl
comparison_is LessOrEqual LessOrEqual same = refl
comparison_is Greater Greater same = refl
comparison_is GreaterOrEqual GreaterOrEqual same = refl
comparison_is one other same = absurd (false≢true same)

comparison_itself : (one : Compare) → same_comparison one one ≡ true
comparison_itself Equal = refl
comparison_itself NotEqual = refl
comparison_itself Less = refl
comparison_itself LessOrEqual = refl
comparison_itself Greater = refl
comparison_itself GreaterOrEqual = refl

most_is : (one other : Option ℕ) → same_most one other ≡ true → one ≡ other
most_is None None same = refl
most_is (Some most) (Some other) same = ap Some ((Decides-eqb most other).0 same)
most_is one other same = absurd (false≢true same)

most_itself : (one : Option ℕ) → same_most one one ≡ true
most_itself None = refl
most_itself (Some most) = (Decides-eqb most most).1 refl

cardinality_is : (one other : Cardinality) → same_cardinality one other ≡ true → one ≡ other
cardinality_is one other same =
    let parts = and_parts (one.min == other.min) _ same in
    let least = (Decides-eqb one.min other.min).0 parts.0 in
    let most = most_is one.max other.max parts.1 in
    λ i. record { min = least i; max = most i }

cardinality_itself : (one : Cardinality) → same_cardinality one one ≡ true
cardinality_itself one = and_from _ _ ((Decides-eqb one.min one.min).1 refl) (most_itself one.max)

-- two plans or tests are equal if the test of equality holds of them
mutual
  -- two plans of concepts are equal if `same_plan` holds of them
  plan_is : (one other : Plan) → same_plan one other ≡ true → one ≡ other
  plan_is empty_plan empty_plan same = refl
  plan_is all_plan all_plan same = refl
  plan_is (one_plan number) (one_plan other) same = ap one_plan ((Decides-eqb number other).0 same)
  plan_is (walk_plan operator operand) (walk_plan other_operator other) same =
      let parts = and_parts (same_operator operator other_operator) _ same in
      ap (λ (w : Operator). walk_plan w operand) (operator_is operator other_operator parts.0)
      ∙ ap (walk_plan other_operator) (plan_is operand other parts.1)
  plan_is (members_plan operand) (members_plan other) same =
      ap members_plan (plan_is operand other same)
  plan_is (and_plan parts) (and_plan others) same = ap and_plan (plans_are parts others same)
  plan_is (or_plan parts) (or_plan others) same = ap or_plan (plans_are parts others same)
  plan_is (minus_plan first second) (minus_plan other_first other_second) same =
      let parts = and_parts (same_plan first other_first) _ same in
      ap (λ (plan : Plan). minus_plan plan second) (plan_is first other_first parts.0)
      ∙ ap (minus_plan other_first) (plan_is second other_second parts.1)
  plan_is (values_plan start names) (values_plan other others) same =
      let parts = and_parts (same_plan start other) _ same in
      ap (λ (plan : Plan). values_plan plan names) (plan_is start other parts.0)
      ∙ ap (values_plan other) (plans_are names others parts.1)
  plan_is (pairs_plan back count types test) (pairs_plan other_back other_count others other) same =
      let parts = and_parts (beq back other_back && same_cardinality count other_count) _ same in
      let ways = and_parts (beq back other_back) _ parts.0 in
      let tests = and_parts (same_plan types others) _ parts.1 in
      ap (λ (b : Bool). pairs_plan b count types test) ((booleans_Decides back other_back).0 ways.0)
      ∙ ap (λ (n : Cardinality). pairs_plan other_back n types test)
      (cardinality_is count other_count ways.1)
      ∙ ap (λ (plan : Plan). pairs_plan other_back other_count plan test)
      (plan_is types others tests.0)
      ∙ ap (pairs_plan other_back other_count others) (test_is test other tests.1)
  plan_is (groups_plan count units) (groups_plan other_count others) same =
      let parts = and_parts (same_cardinality count other_count) _ same in
      ap (λ (n : Cardinality). groups_plan n units) (cardinality_is count other_count parts.0)
      ∙ ap (groups_plan other_count) (group_is units others parts.1)
  plan_is one other same = absurd (false≢true same)

  plans_are : (some others : Plans) → same_plans some others ≡ true → some ≡ others
  plans_are no_plans no_plans same = refl
  plans_are (plan_then first rest) (plan_then other others) same =
      let parts = and_parts (same_plan first other) _ same in
      ap (λ (plan : Plan). plan_then plan rest) (plan_is first other parts.0)
      ∙ ap (plan_then other) (plans_are rest others parts.1)
  plans_are some others same = absurd (false≢true same)

  group_is : (one other : PlanOfGroups) → same_group one other ≡ true → one ≡ other
  group_is nothing_group nothing_group same = refl
  group_is every_group every_group same = refl
  group_is (and_group_plan parts) (and_group_plan others) same =
      ap and_group_plan (groups_are parts others same)
  group_is (or_group_plan parts) (or_group_plan others) same =
      ap or_group_plan (groups_are parts others same)
  group_is (minus_group_plan first second) (minus_group_plan other_first other_second) same =
      let parts = and_parts (same_group first other_first) _ same in
      ap (λ (plan : PlanOfGroups). minus_group_plan plan second)
      (group_is first other_first parts.0)
      ∙ ap (minus_group_plan other_first) (group_is second other_second parts.1)
  group_is (pairs_group_plan count types test) (pairs_group_plan other_count others other) same =
      let parts = and_parts (same_cardinality count other_count) _ same in
      let tests = and_parts (same_plan types others) _ parts.1 in
      ap (λ (n : Cardinality). pairs_group_plan n types test)
      (cardinality_is count other_count parts.0)
      ∙ ap (λ (plan : Plan). pairs_group_plan other_count plan test) (plan_is types others tests.0)
      ∙ ap (pairs_group_plan other_count others) (test_is test other tests.1)
  group_is one other same = absurd (false≢true same)

  groups_are : (some others : PlansOfGroups) → same_groups some others ≡ true → some ≡ others
  groups_are no_group_plans no_group_plans same = refl
  groups_are (group_plan_then first rest) (group_plan_then other others) same =
      let parts = and_parts (same_group first other) _ same in
      ap (λ (plan : PlanOfGroups). group_plan_then plan rest) (group_is first other parts.0)
      ∙ ap (group_plan_then other) (groups_are rest others parts.1)
  groups_are some others same = absurd (false≢true same)

  test_is : (one other : TestPlan) → same_test one other ≡ true → one ≡ other
  test_is (within_plan operand) (within_plan other) same =
      ap within_plan (plan_is operand other same)
  test_is (outside_plan operand) (outside_plan other) same =
      ap outside_plan (plan_is operand other same)
  test_is (number_plan compare number) (number_plan other_compare other) same =
      let parts = and_parts (same_comparison compare other_compare) _ same in
      ap (λ (c : Compare). number_plan c number) (comparison_is compare other_compare parts.0)
      ∙ ap (number_plan other_compare) ((Decides-int_eq number other).0 parts.1)
  test_is one other same = absurd (false≢true same)

-- the test of equality holds of each plan or test and itself
mutual
  -- `same_plan` holds of a plan of concepts and itself
  plan_itself : (plan : Plan) → same_plan plan plan ≡ true
  plan_itself empty_plan = refl
  plan_itself all_plan = refl
  plan_itself (one_plan number) = (Decides-eqb number number).1 refl
  plan_itself (walk_plan operator operand) =
      and_from _ _ (operator_itself operator) (plan_itself operand)
  plan_itself (members_plan operand) = plan_itself operand
  plan_itself (and_plan parts) = plans_themselves parts
  plan_itself (or_plan parts) = plans_themselves parts
  plan_itself (minus_plan first second) = and_from _ _ (plan_itself first) (plan_itself second)
  plan_itself (values_plan start names) = and_from _ _ (plan_itself start) (plans_themselves names)
  plan_itself (pairs_plan back count types test) =
      and_from _ _
      (and_from _ _ ((booleans_Decides back back).1 refl) (cardinality_itself count))
      (and_from _ _ (plan_itself types) (test_itself test))
  plan_itself (groups_plan count units) =
      and_from _ _ (cardinality_itself count) (group_itself units)

  plans_themselves : (plans : Plans) → same_plans plans plans ≡ true
  plans_themselves no_plans = refl
  plans_themselves (plan_then first rest) = and_from _ _ (plan_itself first) (plans_themselves rest)

  group_itself : (plan : PlanOfGroups) → same_group plan plan ≡ true
  group_itself nothing_group = refl
  group_itself every_group = refl
  group_itself (and_group_plan parts) = groups_themselves parts
  group_itself (or_group_plan parts) = groups_themselves parts
  group_itself (minus_group_plan first second) =
      and_from _ _ (group_itself first) (group_itself second)
  group_itself (pairs_group_plan count types test) =
      and_from _ _ (cardinality_itself count) (and_from _ _ (plan_itself types) (test_itself test))

  groups_themselves : (plans : PlansOfGroups) → same_groups plans plans ≡ true
  groups_themselves no_group_plans = refl
  groups_themselves (group_plan_then first rest) =
      and_from _ _ (group_itself first) (groups_themselves rest)

  test_itself : (test : TestPlan) → same_test test test ≡ true
  test_itself (within_plan operand) = plan_itself operand
  test_itself (outside_plan operand) = plan_itself operand
  test_itself (number_plan compare number) =
      and_from _ _ (comparison_itself compare) ((Decides-int_eq number number).1 refl)

-- `same_plan` is true for two plans of concepts exactly if they are equal
pub decides_plan : (one other : Plan) → Decides (same_plan one other) (one ≡ other)
decides_plan one other = (
  plan_is one other,
  λ is. subst (λ (plan : Plan). same_plan one plan ≡ true) is
      (plan_itself one),
)

-- `same_group` is true for two plans of groups exactly if they are equal
pub decides_group : (one other : PlanOfGroups) → Decides (same_group one other) (one ≡ other)
decides_group one other = (
  group_is one other,
  λ is. subst (λ (plan : PlanOfGroups). same_group one plan ≡ true) is
      (group_itself one),
)

-- `same_test` is true for two tests of values exactly if they are equal
pub decides_test : (one other : TestPlan) → Decides (same_test one other) (one ≡ other)
decides_test one other = (
  test_is one other,
  λ is. subst (λ (test : TestPlan). same_test one test ≡ true) is
      (test_itself one),
)
