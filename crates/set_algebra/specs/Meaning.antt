-- The meaning of a plan over a release. A plan of concepts means a set of concepts in force, and a
-- plan of groups a set of groups of concepts (Expression Constraint Language, "Simple Expression
-- Constraints", "Refinements" and "Cardinality"; Release File Specification, "Relationship file",
-- relationshipGroup). A group is the list of its distinct pairs. The definitions are tests that
-- compute.
use Rattle.std.specs.Prelude.{ℕ, Bool, true, false, not, ◌==◌, ◌&&◌, ◌||◌, if◌then◌else◌, IsTrue, List, Contains}
use Rattle.std.specs.Prelude.{filter, count_by}
use Rattle.release_model.specs.Release.{Release, Value}
use Rattle.release_model.specs.Pairs.{Pair, out_pairs, in_pairs}
use Rattle.release_model.specs.Groups.{groups_of}
use Rattle.constraint_tree.specs.declared.operator.Cardinality.{Cardinality}
use Rattle.constraint_tree.specs.Passing.{is_within, is_outside, is_number_that, lies_in}
use Rattle.constraint_tree.specs.Walks.{has_concept, walks}
use Rattle.constraint_tree.specs.Denotation.{is_component, is_value}
use Rattle.set_algebra.specs.Plan.{Plan, empty_plan, all_plan, one_plan, walk_plan, members_plan, and_plan, or_plan}
use Rattle.set_algebra.specs.Plan.{minus_plan, values_plan, pairs_plan, groups_plan, Plans, no_plans, plan_then}
use Rattle.set_algebra.specs.Plan.{PlanOfGroups, nothing_group, every_group, and_group_plan, or_group_plan}
use Rattle.set_algebra.specs.Plan.{minus_group_plan, pairs_group_plan, PlansOfGroups, no_group_plans, group_plan_then}
use Rattle.set_algebra.specs.Plan.{TestPlan, within_plan, outside_plan, number_plan}

-- the distinct pairs of a concept: type and value of its own rows, or, with `back`, type and source
-- of the rows whose value it is
abbrev pub pairs_of : Release → Bool → ℕ → List Pair
pairs_of release back concept = if back then in_pairs release concept else out_pairs release concept

-- whether the number of matching pairs lies in `count`. A pair matches if its type is in `types`
-- and `passes` holds for its value
abbrev pub has_pairs : Cardinality → (ℕ → Bool) → (Value → Bool) → List Pair → Bool
has_pairs count types passes pairs =
    lies_in count (count_by (λ pair. types pair.type_id && passes pair.value) pairs)

-- whether the number of the concept's groups that are in `set` lies in `count`
abbrev pub has_groups : Release → Cardinality → (List Pair → Bool) → ℕ → Bool
has_groups release count set concept = lies_in count (count_by set (groups_of release concept))

abbrev mutual
  -- whether a concept is in the set that a plan of concepts means
  pub means : Release → Plan → ℕ → Bool
  means release empty_plan concept = false
  means release all_plan concept = has_concept release concept
  means release (one_plan number) concept = has_concept release concept && (concept == number)
  means release (walk_plan operator operand) concept =
      has_concept release concept && walks release operator (means release operand) concept
  means release (members_plan operand) concept =
      is_component release (means release operand) concept
  means release (and_plan parts) concept =
      has_concept release concept && all_mean release parts concept
  means release (or_plan parts) concept = some_means release parts concept
  means release (minus_plan first second) concept =
      means release first concept && not (means release second concept)
  means release (values_plan start names) concept =
      leads release (means release start) names concept
  means release (pairs_plan back count types test) concept =
      has_concept release concept
      && has_pairs count (means release types) (value_passes release test)
      (pairs_of release back concept)
  means release (groups_plan count units) concept =
      has_concept release concept && has_groups release count (group_means release units) concept

  -- whether a concept is in the set that each plan of a list means; true for the empty list
  pub all_mean : Release → Plans → ℕ → Bool
  all_mean release no_plans concept = true
  all_mean release (plan_then first rest) concept =
      means release first concept && all_mean release rest concept

  -- whether a concept is in the set that at least one plan of a list means; false for the empty
  -- list
  pub some_means : Release → Plans → ℕ → Bool
  some_means release no_plans concept = false
  some_means release (plan_then first rest) concept =
      means release first concept || some_means release rest concept

  -- whether a concept is in the set that a list of types leads to from `set`: each step takes the
  -- values of the members' attributes whose type is in the set of the next plan
  pub leads : Release → (ℕ → Bool) → Plans → ℕ → Bool
  leads release set no_plans concept = set concept
  leads release set (plan_then types others) concept =
      leads release (is_value release set (means release types)) others concept

  -- whether a group, given by its distinct pairs, is in the set that a plan of groups means
  pub group_means : Release → PlanOfGroups → List Pair → Bool
  group_means release nothing_group pairs = false
  group_means release every_group pairs = true
  group_means release (and_group_plan parts) pairs = all_groups_mean release parts pairs
  group_means release (or_group_plan parts) pairs = some_group_means release parts pairs
  group_means release (minus_group_plan first second) pairs =
      group_means release first pairs && not (group_means release second pairs)
  group_means release (pairs_group_plan count types test) pairs =
      has_pairs count (means release types) (value_passes release test) pairs

  -- whether a group is in the set that each plan of groups of a list means; true for the empty list
  pub all_groups_mean : Release → PlansOfGroups → List Pair → Bool
  all_groups_mean release no_group_plans pairs = true
  all_groups_mean release (group_plan_then first rest) pairs =
      group_means release first pairs && all_groups_mean release rest pairs

  -- whether a group is in the set that at least one plan of groups of a list means; false for the
  -- empty list
  pub some_group_means : Release → PlansOfGroups → List Pair → Bool
  some_group_means release no_group_plans pairs = false
  some_group_means release (group_plan_then first rest) pairs =
      group_means release first pairs || some_group_means release rest pairs

  -- whether the value of a pair passes a test of values
  pub value_passes : Release → TestPlan → Value → Bool
  value_passes release (within_plan operand) value = is_within (means release operand) value
  value_passes release (outside_plan operand) value = is_outside (means release operand) value
  value_passes release (number_plan compare number) value = is_number_that compare number value

-- the concepts that a plan means, in rising order
abbrev pub meaning : Release → Plan → List ℕ
meaning release plan = filter (means release plan) release.concepts

-- each concept that a plan means over a release is in force there
abbrev pub MeansConceptsInForce : Type 0
MeansConceptsInForce =
    (release : Release) (plan : Plan) (concept : ℕ) →
    IsTrue (means release plan concept) →
    Contains release.concepts concept
