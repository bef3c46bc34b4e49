-- The plan with the choices of least bound: its logical plan is the given one, and each leaf has the first choice of
-- least bound.
use Rattle.std.proofs.Common.{ℕ, ◌≡◌, ◌∙◌, Bool, List, false, refl, sym, ap}
use Rattle.constraint_tree.specs.declared.operator.Cardinality.{Cardinality}
use Rattle.set_algebra.specs.declared.choice.Choice.{Choice}
use Rattle.set_algebra.specs.declared.plan.ConceptPlan.{ConceptPlan}
use Rattle.set_algebra.specs.Physical.{Physical, PhysicalTest, physical_of, logical, logical_test, logical_groups}
use Rattle.set_algebra.specs.Physical.{logical_groups_list, logicals}
use Rattle.set_algebra.specs.Plan.{Plan, plan_of, empty_plan, all_plan, one_plan, walk_plan, members_plan, and_plan}
use Rattle.set_algebra.specs.Plan.{or_plan, minus_plan}
use Rattle.set_algebra.specs.Plan.{values_plan, pairs_plan, groups_plan, Plans, no_plans, plan_then}
use Rattle.set_algebra.specs.Plan.{PlanOfGroups, nothing_group, every_group, and_group_plan, or_group_plan}
use Rattle.set_algebra.specs.Plan.{minus_group_plan, pairs_group_plan}
use Rattle.set_algebra.specs.Plan.{PlansOfGroups, no_group_plans, group_plan_then, TestPlan, within_plan, outside_plan}
use Rattle.set_algebra.specs.Plan.{number_plan}
use Rattle.set_algebra.proofs.PhysicalLemmas.{logical-physical_of}
use Rattle.postings.specs.Indexed.{Indexed}
use Rattle.plan_bounds.specs.Alternatives.{least_choice}
use Rattle.plan_bounds.specs.Offered.{AreLeast, AreOffered, EachLeaf, GroupEach, GroupsEach, IsLeastAt, IsOffered}
use Rattle.plan_bounds.specs.Offered.{LeafFact, PlansEach}
use Rattle.plan_bounds.specs.Offered.{TestEach, all_concepts, every_group_in}
use Rattle.plan_bounds.specs.Sizes.{leaf_at}
use Rattle.planner.specs.Chosen.{all_chosen, chosen, group_chosen, groups_chosen, test_chosen}
use Rattle.planner.specs.inside.AskedInPlace.{with_asked}
use Rattle.planner.proofs.AskedLemmas.{logical-asked}
use Rattle.planner.proofs.LeastLemmas.{least_is_least}

module _ (indexed : Indexed) where
  -- ---- the logical plan is the one that was given
  mutual
    -- the plan with the choices of least bound has the given plan as its logical plan
    pub logical-chosen : (plan : Plan) → logical (chosen indexed plan) ≡ plan
    logical-chosen empty_plan = refl
    logical-chosen all_plan = refl
    logical-chosen (one_plan number) = refl
    logical-chosen (walk_plan operator operand) = ap (walk_plan operator) (logical-chosen operand)
    logical-chosen (members_plan operand) = ap members_plan (logical-chosen operand)
    logical-chosen (and_plan parts) = ap and_plan (logicals-chosen parts)
    logical-chosen (or_plan parts) = ap or_plan (logicals-chosen parts)
    logical-chosen (minus_plan first second) = λ i. minus_plan (logical-chosen first i) (logical-chosen second i)
    logical-chosen (values_plan start names) = λ i. values_plan (logical-chosen start i) (logicals-chosen names i)
    logical-chosen (pairs_plan back count types test) =
        λ i. pairs_plan back count (logical-chosen types i) (logical_test-chosen test i)
    logical-chosen (groups_plan count units) = ap (groups_plan count) (logical_groups-chosen units)

    -- the logical plans of several plans with their chosen choices are the given plans
    logicals-chosen : (parts : Plans) → logicals (all_chosen indexed parts) ≡ parts
    logicals-chosen no_plans = refl
    logicals-chosen (plan_then first rest) = λ i. plan_then (logical-chosen first i) (logicals-chosen rest i)

    -- the logical plan of a plan of groups with its chosen choices is the given plan
    logical_groups-chosen : (plan : PlanOfGroups) → logical_groups (group_chosen indexed plan) ≡ plan
    logical_groups-chosen nothing_group = refl
    logical_groups-chosen every_group = refl
    logical_groups-chosen (and_group_plan parts) = ap and_group_plan (logical_groups_list-chosen parts)
    logical_groups-chosen (or_group_plan parts) = ap or_group_plan (logical_groups_list-chosen parts)
    logical_groups-chosen (minus_group_plan first second) =
        λ i. minus_group_plan (logical_groups-chosen first i) (logical_groups-chosen second i)
    logical_groups-chosen (pairs_group_plan count types test) =
        λ i. pairs_group_plan count (logical-chosen types i) (logical_test-chosen test i)

    -- the logical plans of several plans of groups with their chosen choices are the given plans
    logical_groups_list-chosen : (parts : PlansOfGroups) → logical_groups_list (groups_chosen indexed parts) ≡ parts
    logical_groups_list-chosen no_group_plans = refl
    logical_groups_list-chosen (group_plan_then first rest) =
        λ i. group_plan_then (logical_groups-chosen first i) (logical_groups_list-chosen rest i)

    -- the logical plan of a test with its chosen choices is the given test
    logical_test-chosen : (test : TestPlan) → logical_test (test_chosen indexed test) ≡ test
    logical_test-chosen (within_plan operand) = ap within_plan (logical-chosen operand)
    logical_test-chosen (outside_plan operand) = ap outside_plan (logical-chosen operand)
    logical_test-chosen (number_plan compare number) = refl

  -- ---- a statement that holds of any leaf with its least choice holds of each leaf
  module _ (Holds : LeafFact)
      (holds : (all : Indexed → ℕ) (back : Bool) (count : Cardinality) (types : Physical) (test : PhysicalTest)
      → Holds all back count types test (least_choice (leaf_at indexed (all indexed) back count types test))) where
    mutual
      -- a statement that holds of any leaf with its least choice holds of each leaf of a plan of concepts
      each_leaf : (plan : Plan) → EachLeaf Holds (chosen indexed plan)
      each_leaf empty_plan = tt
      each_leaf all_plan = tt
      each_leaf (one_plan number) = tt
      each_leaf (walk_plan operator operand) = each_leaf operand
      each_leaf (members_plan operand) = each_leaf operand
      each_leaf (and_plan parts) = each_leaf_of_all parts
      each_leaf (or_plan parts) = each_leaf_of_all parts
      each_leaf (minus_plan first second) = (each_leaf first, each_leaf second)
      each_leaf (values_plan start names) = (each_leaf start, each_leaf_of_all names)
      each_leaf (pairs_plan back count types test) = (
        holds all_concepts back count (chosen indexed types) (test_chosen indexed test),
        each_leaf types,
        each_leaf_of_test test,
      )
      each_leaf (groups_plan count units) = each_leaf_of_group units

      -- a statement that holds of any leaf with its least choice holds of each leaf of several plans of concepts
      each_leaf_of_all : (parts : Plans) → PlansEach Holds (all_chosen indexed parts)
      each_leaf_of_all no_plans = tt
      each_leaf_of_all (plan_then first rest) = (each_leaf first, each_leaf_of_all rest)

      -- a statement that holds of any leaf with its least choice holds of each leaf of a plan of groups
      each_leaf_of_group : (plan : PlanOfGroups) → GroupEach Holds (group_chosen indexed plan)
      each_leaf_of_group nothing_group = tt
      each_leaf_of_group every_group = tt
      each_leaf_of_group (and_group_plan parts) = each_leaf_of_groups parts
      each_leaf_of_group (or_group_plan parts) = each_leaf_of_groups parts
      each_leaf_of_group (minus_group_plan first second) = (each_leaf_of_group first, each_leaf_of_group second)
      each_leaf_of_group (pairs_group_plan count types test) = (
        holds every_group_in false count (chosen indexed types) (test_chosen indexed test),
        each_leaf types,
        each_leaf_of_test test,
      )

      -- a statement that holds of any leaf with its least choice holds of each leaf of several plans of groups
      each_leaf_of_groups : (parts : PlansOfGroups) → GroupsEach Holds (groups_chosen indexed parts)
      each_leaf_of_groups no_group_plans = tt
      each_leaf_of_groups (group_plan_then first rest) = (each_leaf_of_group first, each_leaf_of_groups rest)

      -- a statement that holds of any leaf with its least choice holds of each leaf of the plan of a test
      each_leaf_of_test : (test : TestPlan) → TestEach Holds (test_chosen indexed test)
      each_leaf_of_test (within_plan operand) = each_leaf operand
      each_leaf_of_test (outside_plan operand) = each_leaf operand
      each_leaf_of_test (number_plan compare number) = tt

  -- in the plan with the choices of least bound, the choice of each leaf is the first with the least bound
  pub chosen_are_least : (plan : Plan) → AreLeast indexed (chosen indexed plan)
  chosen_are_least plan =
      each_leaf (IsLeastAt indexed)
      (λ all back count types test. least_is_least (leaf_at indexed (all indexed) back count types test)) plan

  -- in the plan with the choices of least bound, each leaf offers its choice
  pub chosen_are_offered : (plan : Plan) → AreOffered (chosen indexed plan)
  chosen_are_offered plan =
      each_leaf IsOffered
      (λ all back count types test. (least_is_least (leaf_at indexed (all indexed) back count types test)).offered) plan

  -- if a plan in the code got the choices of least bound, its logical plan is the one that it had
  pub plan_kept : (plan : Plan) (new : ConceptPlan) → physical_of new ≡ chosen indexed plan → plan_of new ≡ plan
  plan_kept plan new is = sym (logical-physical_of new) ∙ ap logical is ∙ logical-chosen plan

  -- if a plan in the code got the choices of least bound and then requested choices, its logical plan is the one that
  -- it had
  pub asked_plan_kept : (asked : List Choice) (plan : Plan) (chosen_plan new : ConceptPlan)
      → physical_of chosen_plan ≡ chosen indexed plan
      → physical_of new ≡ (with_asked asked (physical_of chosen_plan)).plan → plan_of new ≡ plan
  asked_plan_kept asked plan chosen_plan new chosen_is is =
      sym (logical-physical_of new) ∙ ap logical is ∙ logical-asked asked (physical_of chosen_plan)
      ∙ ap logical chosen_is ∙ logical-chosen plan
