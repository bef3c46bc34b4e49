-- A plan whose leaves took requested choices: its logical plan is the same, and each leaf has its choice of the list,
-- if it offers it.
use Rattle.std.proofs.Common.{◌≡◌, ◌++◌, ◌∷◌, [], ◌∙◌, Bool, cond, inl, inr, List, Option, Some, None, drop, refl, sym}
use Rattle.std.proofs.Common.{ap, subst, append-nil, append_assoc}
use Rattle.std.specs.Prelude.{IsTrue}
use Rattle.std.proofs.lemmas.Bool.{cases_Bool}
use Rattle.set_algebra.specs.declared.choice.Choice.{Choice}
use Rattle.set_algebra.specs.Physical.{Physical, physical_empty, physical_all, physical_one, physical_walk}
use Rattle.set_algebra.specs.Physical.{physical_members, physical_and, physical_or, physical_minus, physical_values}
use Rattle.set_algebra.specs.Physical.{physical_pairs, physical_groups, Physicals, no_physicals, physical_then}
use Rattle.set_algebra.specs.Physical.{PhysicalGroups, physical_nothing, physical_every, physical_groups_and}
use Rattle.set_algebra.specs.Physical.{physical_groups_or, physical_groups_minus, physical_groups_pairs}
use Rattle.set_algebra.specs.Physical.{PhysicalGroupsList}
use Rattle.set_algebra.specs.Physical.{no_physical_groups, physical_groups_then, PhysicalTest, physical_within}
use Rattle.set_algebra.specs.Physical.{physical_outside, physical_number, logical, logical_test, logical_groups}
use Rattle.set_algebra.specs.Physical.{logical_groups_list, logicals}
use Rattle.set_algebra.specs.Plan.{walk_plan, members_plan, and_plan, or_plan, minus_plan, values_plan, pairs_plan}
use Rattle.set_algebra.specs.Plan.{groups_plan, plan_then, and_group_plan, or_group_plan, minus_group_plan}
use Rattle.set_algebra.specs.Plan.{pairs_group_plan, group_plan_then}
use Rattle.set_algebra.specs.Plan.{within_plan, outside_plan}
use Rattle.plan_bounds.specs.Alternatives.{offers}
use Rattle.plan_bounds.specs.Counts.{is_within}
use Rattle.plan_bounds.specs.Leaves.{choices_in, choices_in_each, choices_in_each_groups, choices_in_test}
use Rattle.plan_bounds.specs.Leaves.{choices_in_groups}
use Rattle.plan_bounds.specs.Offered.{AreOffered, EachLeaf, GroupEach, GroupsEach, IsOffered, PlansEach, TestEach}
use Rattle.planner.specs.Asked.{asked_or, each_asked_or, first_of, group_within, groups_within, plans_within}
use Rattle.planner.specs.Asked.{test_within, within_tests}
use Rattle.planner.specs.inside.AskedInPlace.{PlanAndRest, all_with_asked, group_with_asked, groups_with_asked}
use Rattle.planner.specs.inside.AskedInPlace.{test_with_asked, with_asked}

-- ---- the logical plan does not change
mutual
  -- requested choices change the choices of a plan of concepts alone: the logical plan stays the same
  pub logical-asked : (asked : List Choice) (plan : Physical) → logical (with_asked asked plan).plan ≡ logical plan
  logical-asked asked physical_empty = refl
  logical-asked asked physical_all = refl
  logical-asked asked (physical_one number) = refl
  logical-asked asked (physical_walk operator operand) = ap (walk_plan operator) (logical-asked asked operand)
  logical-asked asked (physical_members operand) = ap members_plan (logical-asked asked operand)
  logical-asked asked (physical_and parts) = ap and_plan (logicals-asked asked parts)
  logical-asked asked (physical_or parts) = ap or_plan (logicals-asked asked parts)
  logical-asked asked (physical_minus first second) =
      λ i. minus_plan (logical-asked asked first i) (logical-asked (with_asked asked first).rest second i)
  logical-asked asked (physical_values start names) =
      λ i. values_plan (logical-asked asked start i) (logicals-asked (with_asked asked start).rest names i)
  logical-asked asked (physical_pairs back count types test choice) =
      λ i. pairs_plan back count (logical-asked (drop 1 asked) types i)
      (logical_test-asked (with_asked (drop 1 asked) types).rest test i)
  logical-asked asked (physical_groups count units) = ap (groups_plan count) (logical_groups-asked asked units)

  -- requested choices do not change the logical plans of several plans of concepts
  logicals-asked : (asked : List Choice) (parts : Physicals) → logicals (all_with_asked asked parts).plan
      ≡ logicals parts
  logicals-asked asked no_physicals = refl
  logicals-asked asked (physical_then first rest) =
      λ i. plan_then (logical-asked asked first i) (logicals-asked (with_asked asked first).rest rest i)

  -- requested choices do not change the logical plan of a plan of groups
  logical_groups-asked : (asked : List Choice) (plan : PhysicalGroups)
      → logical_groups (group_with_asked asked plan).plan
      ≡ logical_groups plan
  logical_groups-asked asked physical_nothing = refl
  logical_groups-asked asked physical_every = refl
  logical_groups-asked asked (physical_groups_and parts) = ap and_group_plan (logical_groups_list-asked asked parts)
  logical_groups-asked asked (physical_groups_or parts) = ap or_group_plan (logical_groups_list-asked asked parts)
  logical_groups-asked asked (physical_groups_minus first second) =
      λ i. minus_group_plan (logical_groups-asked asked first i)
      (logical_groups-asked (group_with_asked asked first).rest second i)
  logical_groups-asked asked (physical_groups_pairs count types test choice) =
      λ i. pairs_group_plan count (logical-asked (drop 1 asked) types i)
      (logical_test-asked (with_asked (drop 1 asked) types).rest test i)

  -- requested choices do not change the logical plans of several plans of groups
  logical_groups_list-asked : (asked : List Choice) (parts : PhysicalGroupsList)
      → logical_groups_list (groups_with_asked asked parts).plan ≡ logical_groups_list parts
  logical_groups_list-asked asked no_physical_groups = refl
  logical_groups_list-asked asked (physical_groups_then first rest) =
      λ i. group_plan_then (logical_groups-asked asked first i)
      (logical_groups_list-asked (group_with_asked asked first).rest rest i)

  -- requested choices do not change the logical plan of a test
  logical_test-asked : (asked : List Choice) (test : PhysicalTest) → logical_test (test_with_asked asked test).plan
      ≡ logical_test test
  logical_test-asked asked (physical_within operand) = ap within_plan (logical-asked asked operand)
  logical_test-asked asked (physical_outside operand) = ap outside_plan (logical-asked asked operand)
  logical_test-asked asked (physical_number compare number) = refl

-- ---- the leaves offer the choices that they take
-- requested choices do not change whether a test says within which set a value is
is_within-asked : (asked : List Choice) (test : PhysicalTest) → is_within (test_with_asked asked test).plan
    ≡ is_within test
is_within-asked asked (physical_within operand) = refl
is_within-asked asked (physical_outside operand) = refl
is_within-asked asked (physical_number compare number) = refl

-- a leaf offers the choice that it takes, if it offered the one that it had
leaf-offers : (within : Bool) (asked : Option Choice) (own : Choice) → IsTrue (offers within own)
    → IsTrue (offers within (asked_or within asked own))
leaf-offers within None own offered = offered
leaf-offers within (Some choice) own offered = elim (cases_Bool (offers within choice)) [
  | inl taken ↦ subst (λ (b : Bool). IsTrue (offers within (cond b choice own))) (sym taken) taken
  | inr refused ↦ subst (λ (b : Bool). IsTrue (offers within (cond b choice own))) (sym refused) offered
]

-- a leaf offers the choice that it takes after its test has taken choices, if it offered the one that it had
leaf-asked : (asked following : List Choice) (test : PhysicalTest) (own : Choice) → IsTrue (offers (is_within test) own)
    → IsTrue (offers (is_within (test_with_asked following test).plan) (asked_or (is_within test) (first_of asked) own))
leaf-asked asked following test own offered =
    subst (λ (within : Bool). IsTrue (offers within (asked_or (is_within test) (first_of asked) own)))
    (sym (is_within-asked following test))
    (leaf-offers (is_within test) (first_of asked) own offered)

mutual
  -- if each leaf of a plan offers its choice, this is so too after the leaves took requested choices
  pub asked_are_offered : (asked : List Choice) (plan : Physical) → AreOffered plan
      → AreOffered (with_asked asked plan).plan
  asked_are_offered asked physical_empty own = tt
  asked_are_offered asked physical_all own = tt
  asked_are_offered asked (physical_one number) own = tt
  asked_are_offered asked (physical_walk operator operand) own = asked_are_offered asked operand own
  asked_are_offered asked (physical_members operand) own = asked_are_offered asked operand own
  asked_are_offered asked (physical_and parts) own = offered_in_all asked parts own
  asked_are_offered asked (physical_or parts) own = offered_in_all asked parts own
  asked_are_offered asked (physical_minus first second) own = (
    asked_are_offered asked first own.0,
    asked_are_offered (with_asked asked first).rest second own.1,
  )
  asked_are_offered asked (physical_values start names) own = (
    asked_are_offered asked start own.0,
    offered_in_all (with_asked asked start).rest names own.1,
  )
  asked_are_offered asked (physical_pairs back count types test choice) own = (
    leaf-asked asked (with_asked (drop 1 asked) types).rest test choice own.0,
    asked_are_offered (drop 1 asked) types own.1,
    offered_in_test (with_asked (drop 1 asked) types).rest test own.2,
  )
  asked_are_offered asked (physical_groups count units) own = offered_in_group asked units own

  -- the leaves of several plans of concepts offer the choices that they take, if they offered those that they had
  offered_in_all : (asked : List Choice) (parts : Physicals) → PlansEach IsOffered parts
      → PlansEach IsOffered (all_with_asked asked parts).plan
  offered_in_all asked no_physicals own = tt
  offered_in_all asked (physical_then first rest) own = (
    asked_are_offered asked first own.0,
    offered_in_all (with_asked asked first).rest rest own.1,
  )

  -- the leaves of a plan of groups offer the choices that they take, if they offered those that they had
  offered_in_group : (asked : List Choice) (plan : PhysicalGroups) → GroupEach IsOffered plan
      → GroupEach IsOffered (group_with_asked asked plan).plan
  offered_in_group asked physical_nothing own = tt
  offered_in_group asked physical_every own = tt
  offered_in_group asked (physical_groups_and parts) own = offered_in_groups asked parts own
  offered_in_group asked (physical_groups_or parts) own = offered_in_groups asked parts own
  offered_in_group asked (physical_groups_minus first second) own = (
    offered_in_group asked first own.0,
    offered_in_group (group_with_asked asked first).rest second own.1,
  )
  offered_in_group asked (physical_groups_pairs count types test choice) own = (
    leaf-asked asked (with_asked (drop 1 asked) types).rest test choice own.0,
    asked_are_offered (drop 1 asked) types own.1,
    offered_in_test (with_asked (drop 1 asked) types).rest test own.2,
  )

  -- the leaves of several plans of groups offer the choices that they take, if they offered those that they had
  offered_in_groups : (asked : List Choice) (parts : PhysicalGroupsList) → GroupsEach IsOffered parts
      → GroupsEach IsOffered (groups_with_asked asked parts).plan
  offered_in_groups asked no_physical_groups own = tt
  offered_in_groups asked (physical_groups_then first rest) own = (
    offered_in_group asked first own.0,
    offered_in_groups (group_with_asked asked first).rest rest own.1,
  )

  -- the leaves of the plan of a test offer the choices that they take, if they offered those that they had
  offered_in_test : (asked : List Choice) (test : PhysicalTest) → TestEach IsOffered test
      → TestEach IsOffered (test_with_asked asked test).plan
  offered_in_test asked (physical_within operand) own = asked_are_offered asked operand own
  offered_in_test asked (physical_outside operand) own = asked_are_offered asked operand own
  offered_in_test asked (physical_number compare number) own = tt

-- ---- which choices the leaves take, and what they leave of the list
-- leaves with `tests` and the choices `own`, before any others, take `taken` from `asked` and leave `rest` for the
-- others
abbrev Takes : List Choice → List Bool → List Choice → List Choice → List Choice → Type 0
Takes asked tests own taken rest =
    (more_tests : List Bool) (more : List Choice)
    → each_asked_or (tests ++ more_tests) asked (own ++ more) ≡ taken ++ each_asked_or more_tests rest more

-- the leaves of two parts in a row take what the first takes, followed by what the second takes from the rest
takes_both : (asked between rest : List Choice) (one two : List Bool)
    (own_one own_two taken_one taken_two : List Choice)
    → Takes asked one own_one taken_one between → Takes between two own_two taken_two rest
    → Takes asked (one ++ two) (own_one ++ own_two) (taken_one ++ taken_two) rest
takes_both asked between rest one two own_one own_two taken_one taken_two first second more_tests more =
    (λ i. each_asked_or (append_assoc one two more_tests i) asked (append_assoc own_one own_two more i))
    ∙ first (two ++ more_tests) (own_two ++ more)
    ∙ ap (λ (all : List Choice). taken_one ++ all) (second more_tests more)
    ∙ sym (append_assoc taken_one taken_two (each_asked_or more_tests rest more))

-- a leaf takes the first requested choice if it offers it, and its types and its test take the later ones
takes_leaf : (asked rest : List Choice) (within : Bool) (choice : Choice) (tests : List Bool) (own taken : List Choice)
    → Takes (drop 1 asked) tests own taken rest
    → Takes asked (within ∷ tests) (choice ∷ own) (asked_or within (first_of asked) choice ∷ taken) rest
takes_leaf asked rest within choice tests own taken inner more_tests more =
    ap (λ (all : List Choice). asked_or within (first_of asked) choice ∷ all) (inner more_tests more)

mutual
  -- the leaves of a plan of concepts take the choices that `with_asked` gives them
  takes : (asked : List Choice) (plan : Physical)
      → Takes asked (within_tests plan) (choices_in plan) (choices_in (with_asked asked plan).plan)
      (with_asked asked plan).rest
  takes asked physical_empty more_tests more = refl
  takes asked physical_all more_tests more = refl
  takes asked (physical_one number) more_tests more = refl
  takes asked (physical_walk operator operand) more_tests more = takes asked operand more_tests more
  takes asked (physical_members operand) more_tests more = takes asked operand more_tests more
  takes asked (physical_and parts) more_tests more = takes_all asked parts more_tests more
  takes asked (physical_or parts) more_tests more = takes_all asked parts more_tests more
  takes asked (physical_minus first second) more_tests more =
      takes_both asked (with_asked asked first).rest _ _ _ _ _ _ _ (takes asked first)
      (takes (with_asked asked first).rest second) more_tests more
  takes asked (physical_values start names) more_tests more =
      takes_both asked (with_asked asked start).rest _ _ _ _ _ _ _ (takes asked start)
      (takes_all (with_asked asked start).rest names) more_tests more
  takes asked (physical_pairs back count types test choice) more_tests more =
      takes_leaf asked _ (is_within test) choice _ _ _
      (takes_both (drop 1 asked) (with_asked (drop 1 asked) types).rest _ _ _ _ _ _ _ (takes (drop 1 asked) types)
      (takes_test (with_asked (drop 1 asked) types).rest test)) more_tests more
  takes asked (physical_groups count units) more_tests more = takes_group asked units more_tests more

  -- the leaves of several plans of concepts take the choices that `all_with_asked` gives them
  takes_all : (asked : List Choice) (parts : Physicals)
      → Takes asked (plans_within parts) (choices_in_each parts) (choices_in_each (all_with_asked asked parts).plan)
      (all_with_asked asked parts).rest
  takes_all asked no_physicals more_tests more = refl
  takes_all asked (physical_then first rest) more_tests more =
      takes_both asked (with_asked asked first).rest _ _ _ _ _ _ _ (takes asked first)
      (takes_all (with_asked asked first).rest rest) more_tests more

  -- the leaves of a plan of groups take the choices that `group_with_asked` gives them
  takes_group : (asked : List Choice) (plan : PhysicalGroups)
      → Takes asked (group_within plan) (choices_in_groups plan) (choices_in_groups (group_with_asked asked plan).plan)
      (group_with_asked asked plan).rest
  takes_group asked physical_nothing more_tests more = refl
  takes_group asked physical_every more_tests more = refl
  takes_group asked (physical_groups_and parts) more_tests more = takes_groups asked parts more_tests more
  takes_group asked (physical_groups_or parts) more_tests more = takes_groups asked parts more_tests more
  takes_group asked (physical_groups_minus first second) more_tests more =
      takes_both asked (group_with_asked asked first).rest _ _ _ _ _ _ _ (takes_group asked first)
      (takes_group (group_with_asked asked first).rest second) more_tests more
  takes_group asked (physical_groups_pairs count types test choice) more_tests more =
      takes_leaf asked _ (is_within test) choice _ _ _
      (takes_both (drop 1 asked) (with_asked (drop 1 asked) types).rest _ _ _ _ _ _ _ (takes (drop 1 asked) types)
      (takes_test (with_asked (drop 1 asked) types).rest test)) more_tests more

  -- the leaves of several plans of groups take the choices that `groups_with_asked` gives them
  takes_groups : (asked : List Choice) (parts : PhysicalGroupsList)
      → Takes asked (groups_within parts) (choices_in_each_groups parts)
      (choices_in_each_groups (groups_with_asked asked parts).plan)
      (groups_with_asked asked parts).rest
  takes_groups asked no_physical_groups more_tests more = refl
  takes_groups asked (physical_groups_then first rest) more_tests more =
      takes_both asked (group_with_asked asked first).rest _ _ _ _ _ _ _ (takes_group asked first)
      (takes_groups (group_with_asked asked first).rest rest) more_tests more

  -- the leaves of the plan of a test take the choices that `test_with_asked` gives them
  takes_test : (asked : List Choice) (test : PhysicalTest)
      → Takes asked (test_within test) (choices_in_test test) (choices_in_test (test_with_asked asked test).plan)
      (test_with_asked asked test).rest
  takes_test asked (physical_within operand) more_tests more = takes asked operand more_tests more
  takes_test asked (physical_outside operand) more_tests more = takes asked operand more_tests more
  takes_test asked (physical_number compare number) more_tests more = refl

-- after the leaves of a plan took requested choices, each leaf has its entry of `asked` if there is one and it offers
-- it, and otherwise the choice that it had
pub choices-asked : (asked : List Choice) (plan : Physical)
    → choices_in (with_asked asked plan).plan ≡ each_asked_or (within_tests plan) asked (choices_in plan)
choices-asked asked plan =
    sym (append-nil (choices_in (with_asked asked plan).plan))
    ∙ sym (takes asked plan [] [])
    ∙ (λ i. each_asked_or (append-nil (within_tests plan) i) asked (append-nil (choices_in plan) i))
