-- A node keeps its meaning if its children are replaced by nodes that mean the same.
use Rattle.std.proofs.Common.{ℕ, ◌≡◌, ◌&&◌, ◌||◌, not, Bool, List, set, refl}
use Rattle.std.proofs.Common.{ap, ◌∙◌}
use Rattle.release_model.specs.Release.{Release, Value}
use Rattle.release_model.specs.Pairs.{Pair}
use Rattle.constraint_tree.specs.declared.operator.Operator.{Operator}
use Rattle.constraint_tree.specs.declared.operator.Cardinality.{Cardinality}
use Rattle.constraint_tree.specs.Passing.{is_within, is_outside}
use Rattle.constraint_tree.specs.Walks.{has_concept, walks}
use Rattle.constraint_tree.specs.Denotation.{is_component, is_value}
use Rattle.set_algebra.specs.Meaning.{means, all_mean, some_means, leads, group_means, all_groups_mean}
use Rattle.set_algebra.specs.Meaning.{some_group_means}
use Rattle.set_algebra.specs.Meaning.{value_passes, has_pairs, has_groups, pairs_of}
use Rattle.set_algebra.specs.Plan.{Plan, walk_plan, members_plan, and_plan, or_plan, minus_plan, values_plan}
use Rattle.set_algebra.specs.Plan.{pairs_plan, groups_plan, Plans, no_plans, plan_then, PlanOfGroups, and_group_plan}
use Rattle.set_algebra.specs.Plan.{or_group_plan}
use Rattle.set_algebra.specs.Plan.{minus_group_plan, pairs_group_plan, PlansOfGroups, no_group_plans, group_plan_then}
use Rattle.set_algebra.specs.Plan.{TestPlan, within_plan}
use Rattle.set_algebra.specs.Plan.{outside_plan}
use Rattle.rewrites.proofs.Equivalent.{AreEquivalent, AreEquivalentGroups, PassEquivalently, AreAllEquivalent}
use Rattle.rewrites.proofs.Equivalent.{AreAllEquivalentGroups}

-- a plan of concepts means the same as itself
pub plan_itself : (plan : Plan) → AreEquivalent plan plan
plan_itself plan = record { mean = λ release. refl }

-- a plan of groups means the same as itself
pub group_itself : (plan : PlanOfGroups) → AreEquivalentGroups plan plan
group_itself plan = record { mean = λ release. refl }

-- each test is equivalent to itself: a value passes it exactly if it passes it
pub test_itself : (test : TestPlan) → PassEquivalently test test
test_itself test = record { pass = λ release. refl }

-- if `one` means the same as `between`, and `between` the same as `other`, then `one` means the same as `other`
pub plan_by_two : (one between other : Plan) → AreEquivalent one between → AreEquivalent between other
    → AreEquivalent one other
plan_by_two one between other first then = record { mean = λ release. first.mean release ∙ then.mean release }

-- if the plan of groups `one` means the same as `between`, and `between` the same as `other`, then `one` means the
-- same as `other`
pub group_by_two : (one between other : PlanOfGroups) → AreEquivalentGroups one between
    → AreEquivalentGroups between other
    → AreEquivalentGroups one other
group_by_two one between other first then = record { mean = λ release. first.mean release ∙ then.mean release }

-- two lists of plans of concepts that mean the same have the same concepts in all of their sets
all_equivalent : (release : Release) (olds news : Plans) → AreAllEquivalent olds news
    → all_mean release olds ≡ all_mean release news
all_equivalent release no_plans no_plans equivalent = refl
all_equivalent release (plan_then old olds) (plan_then new news) (first, rest) =
    ap {B = ℕ → Bool} (λ (set : ℕ → Bool) (concept : ℕ). set concept && all_mean release olds concept)
    (first.mean release)
    ∙ ap {B = ℕ → Bool} (λ (set : ℕ → Bool) (concept : ℕ). means release new concept && set concept)
    (all_equivalent release olds news rest)
all_equivalent release no_plans (plan_then new news) equivalent = absurd equivalent
all_equivalent release (plan_then old olds) no_plans equivalent = absurd equivalent

some_equivalent : (release : Release) (olds news : Plans) → AreAllEquivalent olds news
    → some_means release olds ≡ some_means release news
some_equivalent release no_plans no_plans equivalent = refl
some_equivalent release (plan_then old olds) (plan_then new news) (first, rest) =
    ap {B = ℕ → Bool} (λ (set : ℕ → Bool) (concept : ℕ). set concept || some_means release olds concept)
    (first.mean release)
    ∙ ap {B = ℕ → Bool} (λ (set : ℕ → Bool) (concept : ℕ). means release new concept || set concept)
    (some_equivalent release olds news rest)
some_equivalent release no_plans (plan_then new news) equivalent = absurd equivalent
some_equivalent release (plan_then old olds) no_plans equivalent = absurd equivalent

along_equivalent : (release : Release) (set other : ℕ → Bool) (olds news : Plans) → set ≡ other
    → AreAllEquivalent olds news
    → leads release set olds ≡ leads release other news
along_equivalent release set other no_plans no_plans start equivalent = start
along_equivalent release set other (plan_then old olds) (plan_then new news) start (first, rest) =
    along_equivalent release (is_value release set (means release old)) (is_value release other (means release new))
    olds
    news
    (ap (λ (from : ℕ → Bool). is_value release from (means release old)) start
    ∙ ap (is_value release other) (first.mean release))
    rest
along_equivalent release set other no_plans (plan_then new news) start equivalent = absurd equivalent
along_equivalent release set other (plan_then old olds) no_plans start equivalent = absurd equivalent

-- a `walk_plan` keeps its meaning if its operand is replaced by one that means the same
pub walk_equivalent : (operator : Operator) (old new : Plan) → AreEquivalent old new
    → AreEquivalent (walk_plan operator old) (walk_plan operator new)
walk_equivalent operator old new equivalent = record {
  mean =
      λ release.
      ap {B = ℕ → Bool}
      (λ (set : ℕ → Bool) (concept : ℕ). has_concept release concept && walks release operator set concept)
      (equivalent.mean release);
}

-- a `members_plan` keeps its meaning if its operand is replaced by one that means the same
pub members_equivalent : (old new : Plan) → AreEquivalent old new → AreEquivalent (members_plan old) (members_plan new)
members_equivalent old new equivalent = record { mean = λ release. ap (is_component release) (equivalent.mean release) }

-- a conjunction of concepts keeps its meaning if its parts are replaced by parts that mean the same
pub and_equivalent : (olds news : Plans) → AreAllEquivalent olds news → AreEquivalent (and_plan olds) (and_plan news)
and_equivalent olds news equivalent = record {
  mean =
      λ release.
      ap {B = ℕ → Bool} (λ (set : ℕ → Bool) (concept : ℕ). has_concept release concept && set concept)
      (all_equivalent release olds news equivalent);
}

-- a disjunction of concepts keeps its meaning if its parts are replaced by parts that mean the same
pub or_equivalent : (olds news : Plans) → AreAllEquivalent olds news → AreEquivalent (or_plan olds) (or_plan news)
or_equivalent olds news equivalent = record { mean = λ release. some_equivalent release olds news equivalent }

-- a difference of concepts keeps its meaning if both operands are replaced by operands that mean the same
pub minus_equivalent : (first new_first second new_second : Plan) → AreEquivalent first new_first
    → AreEquivalent second new_second
    → AreEquivalent (minus_plan first second) (minus_plan new_first new_second)
minus_equivalent first new_first second new_second equivalent also = record {
  mean = λ release.
      ap {B = ℕ → Bool} (λ (set : ℕ → Bool) (concept : ℕ). set concept && not (means release second concept))
      (equivalent.mean release)
      ∙ ap {B = ℕ → Bool} (λ (set : ℕ → Bool) (concept : ℕ). means release new_first concept && not (set concept))
      (also.mean release);
}

-- a `values_plan` keeps its meaning if its start and its names are replaced by plans that mean the same
pub values_equivalent : (start new_start : Plan) (names new_names : Plans) → AreEquivalent start new_start
    → AreAllEquivalent names new_names → AreEquivalent (values_plan start names) (values_plan new_start new_names)
values_equivalent start new_start names new_names equivalent also = record {
  mean =
      λ release.
      along_equivalent release (means release start) (means release new_start) names new_names (equivalent.mean release)
      also;
}

-- `has_pairs` does not change if its types and its test are replaced by equal ones
pairs_counted : (count : Cardinality) (types other : ℕ → Bool) (passes others : Value → Bool) → types ≡ other
    → passes ≡ others → has_pairs count types passes ≡ has_pairs count other others
pairs_counted count types other passes others is also =
    ap (λ (set : ℕ → Bool). has_pairs count set passes) is ∙ ap (has_pairs count other) also

-- a `pairs_plan` keeps its meaning if its types are replaced by a plan that means the same, and its test by one that
-- passes exactly for the same values
pub pairs_equivalent : (back : Bool) (count : Cardinality) (types new_types : Plan) (test new_test : TestPlan)
    → AreEquivalent types new_types → PassEquivalently test new_test
    → AreEquivalent (pairs_plan back count types test) (pairs_plan back count new_types new_test)
pairs_equivalent back count types new_types test new_test equivalent also = record {
  mean = λ release.
      ap {B = ℕ → Bool}
      (λ (enough : List Pair → Bool) (concept : ℕ). has_concept release concept
      && enough (pairs_of release back concept))
      (pairs_counted count (means release types) (means release new_types) (value_passes release test)
      (value_passes release new_test) (equivalent.mean release) (also.pass release));
}

-- a `groups_plan` keeps its meaning if its plan of groups is replaced by one that means the same
pub groups_equivalent : (count : Cardinality) (old new : PlanOfGroups) → AreEquivalentGroups old new
    → AreEquivalent (groups_plan count old) (groups_plan count new)
groups_equivalent count old new equivalent = record {
  mean =
      λ release.
      ap {B = ℕ → Bool}
      (λ (set : List Pair → Bool) (concept : ℕ). has_concept release concept && has_groups release count set concept)
      (equivalent.mean release);
}

-- whether a value passes a `within_plan` does not change if the test's plan is replaced by one that means the same
pub within_equivalent : (old new : Plan) → AreEquivalent old new → PassEquivalently (within_plan old) (within_plan new)
within_equivalent old new equivalent = record { pass = λ release. ap is_within (equivalent.mean release) }

-- whether a value passes an `outside_plan` does not change if the test's plan is replaced by one that means the same
pub outside_equivalent : (old new : Plan) → AreEquivalent old new
    → PassEquivalently (outside_plan old) (outside_plan new)
outside_equivalent old new equivalent = record { pass = λ release. ap is_outside (equivalent.mean release) }

-- two lists of plans of groups that mean the same have the same groups in all of their sets
all_groups_equivalent : (release : Release) (olds news : PlansOfGroups) → AreAllEquivalentGroups olds news
    → all_groups_mean release olds ≡ all_groups_mean release news
all_groups_equivalent release no_group_plans no_group_plans equivalent = refl
all_groups_equivalent release (group_plan_then old olds) (group_plan_then new news) (first, rest) =
    ap {B = List Pair → Bool}
    (λ (set : List Pair → Bool) (pairs : List Pair). set pairs && all_groups_mean release olds pairs)
    (first.mean release)
    ∙ ap {B = List Pair → Bool}
    (λ (set : List Pair → Bool) (pairs : List Pair). group_means release new pairs && set pairs)
    (all_groups_equivalent release olds news rest)
all_groups_equivalent release no_group_plans (group_plan_then new news) equivalent = absurd equivalent
all_groups_equivalent release (group_plan_then old olds) no_group_plans equivalent = absurd equivalent

some_groups_equivalent : (release : Release) (olds news : PlansOfGroups) → AreAllEquivalentGroups olds news
    → some_group_means release olds ≡ some_group_means release news
some_groups_equivalent release no_group_plans no_group_plans equivalent = refl
some_groups_equivalent release (group_plan_then old olds) (group_plan_then new news) (first, rest) =
    ap {B = List Pair → Bool}
    (λ (set : List Pair → Bool) (pairs : List Pair). set pairs || some_group_means release olds pairs)
    (first.mean release)
    ∙ ap {B = List Pair → Bool}
    (λ (set : List Pair → Bool) (pairs : List Pair). group_means release new pairs || set pairs)
    (some_groups_equivalent release olds news rest)
some_groups_equivalent release no_group_plans (group_plan_then new news) equivalent = absurd equivalent
some_groups_equivalent release (group_plan_then old olds) no_group_plans equivalent = absurd equivalent

-- a conjunction of groups keeps its meaning if its parts are replaced by parts that mean the same
pub and_groups_equivalent : (olds news : PlansOfGroups) → AreAllEquivalentGroups olds news
    → AreEquivalentGroups (and_group_plan olds) (and_group_plan news)
and_groups_equivalent olds news equivalent =
    record { mean = λ release. all_groups_equivalent release olds news equivalent }

-- a disjunction of groups keeps its meaning if its parts are replaced by parts that mean the same
pub or_groups_equivalent : (olds news : PlansOfGroups) → AreAllEquivalentGroups olds news
    → AreEquivalentGroups (or_group_plan olds) (or_group_plan news)
or_groups_equivalent olds news equivalent =
    record { mean = λ release. some_groups_equivalent release olds news equivalent }

-- a difference of groups keeps its meaning if both operands are replaced by operands that mean the same
pub minus_groups_equivalent : (first new_first second new_second : PlanOfGroups) → AreEquivalentGroups first new_first
    → AreEquivalentGroups second new_second
    → AreEquivalentGroups (minus_group_plan first second) (minus_group_plan new_first new_second)
minus_groups_equivalent first new_first second new_second equivalent also = record {
  mean = λ release.
      ap {B = List Pair → Bool}
      (λ (set : List Pair → Bool) (pairs : List Pair). set pairs && not (group_means release second pairs))
      (equivalent.mean release)
      ∙ ap {B = List Pair → Bool}
      (λ (set : List Pair → Bool) (pairs : List Pair). group_means release new_first pairs && not (set pairs))
      (also.mean release);
}

-- a `pairs_group_plan` keeps its meaning if its types are replaced by a plan that means the same, and its test by one
-- that passes exactly for the same values
pub group_pairs_equivalent : (count : Cardinality) (types new_types : Plan) (test new_test : TestPlan)
    → AreEquivalent types new_types → PassEquivalently test new_test
    → AreEquivalentGroups (pairs_group_plan count types test) (pairs_group_plan count new_types new_test)
group_pairs_equivalent count types new_types test new_test equivalent also = record {
  mean =
      λ release.
      pairs_counted count (means release types) (means release new_types) (value_passes release test)
      (value_passes release new_test) (equivalent.mean release) (also.pass release);
}
