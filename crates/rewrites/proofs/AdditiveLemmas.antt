-- One law for the five rules that distribute something over the parts of an `Or`. A test of a set is additive if it
-- is false for the empty set, and true for a union exactly if it is true for one of the two sets.
use Rattle.std.proofs.Common.{ℕ, ◌≡◌, ◌&&◌, ◌||◌, Bool, false, List, [], ◌∷◌, refl, sym, ap, ◌∙◌}
use Rattle.std.specs.List.{list_any}
use Rattle.std.proofs.Math.Bool.{and-false}
use Rattle.release_model.specs.Release.{Release, Value, concept_value, number_value, text_value}
use Rattle.release_model.specs.Pairs.{Pair}
use Rattle.constraint_tree.specs.Passing.{is_within}
use Rattle.set_algebra.specs.Meaning.{means, some_means, group_means, some_group_means}
use Rattle.set_algebra.specs.Plan.{Plan, Plans, no_plans, plan_then, PlanOfGroups, PlansOfGroups, no_group_plans}
use Rattle.set_algebra.specs.Plan.{group_plan_then}
use Rattle.rewrites.specs.PlanLists.{plans_each, groups_each, groups_of_each, plans_of_each}
use Rattle.rewrites.proofs.BoolLemmas.{either_under, either_over, four}

-- a test of a set is additive: it is false for the empty set, and true for a union exactly if it is true for one of
-- the two sets
pub record IsAdditive {X : Type 0} (test : (X → Bool) → Bool) : Type 0 where
  -- the test is false for the empty set
  pub none : test (λ item. false) ≡ false
  -- the test is true for a union exactly if it is true for one of the two sets
  pub either : (one other : X → Bool) → test (λ item. one item || other item) ≡ (test one || test other)

-- the test whether an item is in a set is additive
pub holds_of : {X : Type 0} (item : X) → IsAdditive (λ (set : X → Bool). set item)
holds_of item = record { none = refl; either = λ one other. refl }

-- if `test` is additive, so is `test set && rest`, if `rest` does not depend on the set
pub and_after : {X : Type 0} (test : (X → Bool) → Bool) (rest : Bool) → IsAdditive test
    → IsAdditive (λ (set : X → Bool). test set && rest)
and_after test rest is = record {
  none = ap (λ (b : Bool). b && rest) is.none;
  either = λ one other. ap (λ (b : Bool). b && rest) (is.either one other) ∙ either_under (test one) (test other) rest;
}

-- if `test` is additive, so is `first && test set`, if `first` does not depend on the set
pub and_before : {X : Type 0} (first : Bool) (test : (X → Bool) → Bool) → IsAdditive test
    → IsAdditive (λ (set : X → Bool). first && test set)
and_before first test is = record {
  none = ap (λ (b : Bool). first && b) is.none ∙ and-false first;
  either = λ one other. ap (λ (b : Bool). first && b) (is.either one other) ∙ either_over first (test one) (test other);
}

-- the disjunction of two additive tests is additive
pub in_either : {X : Type 0} (test more : (X → Bool) → Bool) → IsAdditive test → IsAdditive more
    → IsAdditive (λ (set : X → Bool). test set || more set)
in_either test more is also = record {
  none = ap (λ (b : Bool). b || more (λ item. false)) is.none ∙ also.none;
  either = λ one other.
      ap (λ (b : Bool). b || more (λ item. one item || other item)) (is.either one other)
      ∙ ap (λ (b : Bool). (test one || test other) || b) (also.either one other)
      ∙ four (test one) (test other) (more one) (more other);
}

-- the test whether a value is a concept in a set is additive
pub within : (value : Value) → IsAdditive (λ (set : ℕ → Bool). is_within set value)
within (concept_value concept) = record { none = refl; either = λ one other. refl }
within (number_value number) = record { none = refl; either = λ one other. refl }
within (text_value text) = record { none = refl; either = λ one other. refl }

-- tests that some item of a list passes
module _ {X Y : Type 0} (test : Y → (X → Bool) → Bool) (each : (item : Y) → IsAdditive (test item)) where
  -- no item of a list passes for the empty set if the test of each item is additive
  none_of : (items : List Y) → list_any (λ item. test item (λ x. false)) items ≡ false
  none_of [] = refl
  none_of (first ∷ rest) =
      ap (λ (b : Bool). b || list_any (λ item. test item (λ x. false)) rest) ((each first).none) ∙ none_of rest

  -- some item passes for a union exactly if some item passes for one of the two sets
  either_of : (items : List Y) (one other : X → Bool)
      → list_any (λ item. test item (λ x. one x || other x)) items
      ≡ (list_any (λ item. test item one) items || list_any (λ item. test item other) items)
  either_of [] one other = refl
  either_of (first ∷ rest) one other =
      ap (λ (b : Bool). b || list_any (λ item. test item (λ x. one x || other x)) rest) ((each first).either one other)
      ∙ ap (λ (b : Bool). (test first one || test first other) || b) (either_of rest one other)
      ∙ four (test first one) (test first other) (list_any (λ item. test item one) rest)
      (list_any (λ item. test item other) rest)

  -- if the test of each item is additive, so is the test whether some item of a list passes
  pub some_of : (items : List Y) → IsAdditive (λ (set : X → Bool). list_any (λ item. test item set) items)
  some_of items = record { none = none_of items; either = either_of items }

-- if `test` gives the same result as the additive test `other` for every set, `test` is additive
pub equivalent : {X : Type 0} (test other : (X → Bool) → Bool) → ((set : X → Bool) → test set ≡ other set)
    → IsAdditive other
    → IsAdditive test
equivalent test other same is = record {
  none = same (λ item. false) ∙ is.none;
  either =
      λ one more. same (λ item. one item || more item)
      ∙ is.either one more
      ∙ sym (ap (λ (b : Bool). b || test more) (same one) ∙ ap (λ (b : Bool). other one || b) (same more));
}

-- if `test` is additive, and `make part` means a concept exactly if `test` is true for the set of `part`, then `test`
-- is true for the union of the sets of `parts` exactly if the `Or` of `make` of each part means the concept
pub spread_plans : (release : Release) (concept : ℕ) (make : Plan → Plan) (test : (ℕ → Bool) → Bool) → IsAdditive test
    → ((part : Plan) → means release (make part) concept ≡ test (means release part)) → (parts : Plans)
    → test (some_means release parts) ≡ some_means release (plans_each make parts) concept
spread_plans release concept make test is each no_plans = is.none
spread_plans release concept make test is each (plan_then first rest) =
    is.either (means release first) (some_means release rest)
    ∙ ap (λ (b : Bool). b || test (some_means release rest)) (sym (each first))
    ∙ ap (λ (b : Bool). means release (make first) concept || b) (spread_plans release concept make test is each rest)

-- if `test` is additive, and `make part` means a group exactly if `test` is true for the set of `part`, then `test`
-- is true for the union of the sets of `parts` exactly if the `Or` of `make` of each part means the group. Both
-- `part` and `make part` are plans of groups
pub spread_groups :
    (release : Release) (pairs : List Pair) (make : PlanOfGroups → PlanOfGroups) (test : (List Pair → Bool) → Bool)
    → IsAdditive test → ((part : PlanOfGroups)
    → group_means release (make part) pairs ≡ test (group_means release part))
    → (parts : PlansOfGroups)
    → test (some_group_means release parts) ≡ some_group_means release (groups_each make parts) pairs
spread_groups release pairs make test is each no_group_plans = is.none
spread_groups release pairs make test is each (group_plan_then first rest) =
    is.either (group_means release first) (some_group_means release rest)
    ∙ ap (λ (b : Bool). b || test (some_group_means release rest)) (sym (each first))
    ∙ ap (λ (b : Bool). group_means release (make first) pairs || b)
    (spread_groups release pairs make test is each rest)

-- if `test` is additive, and the plan of groups `make part` means a group exactly if `test` is true for the set of
-- the plan of concepts `part`, then `test` is true for the union of the sets of `parts` exactly if the `Or` of `make`
-- of each part means the group
pub spread_in_groups : (release : Release) (pairs : List Pair) (make : Plan → PlanOfGroups) (test : (ℕ → Bool) → Bool)
    → IsAdditive test → ((part : Plan) → group_means release (make part) pairs ≡ test (means release part))
    → (parts : Plans) → test (some_means release parts) ≡ some_group_means release (groups_of_each make parts) pairs
spread_in_groups release pairs make test is each no_plans = is.none
spread_in_groups release pairs make test is each (plan_then first rest) =
    is.either (means release first) (some_means release rest)
    ∙ ap (λ (b : Bool). b || test (some_means release rest)) (sym (each first))
    ∙ ap (λ (b : Bool). group_means release (make first) pairs || b)
    (spread_in_groups release pairs make test is each rest)

-- if `test` is additive, and the plan of concepts `make part` means a concept exactly if `test` is true for the set
-- of the plan of groups `part`, then `test` is true for the union of the sets of `parts` exactly if the `Or` of
-- `make` of each part means the concept
pub spread_braces : (release : Release) (concept : ℕ) (make : PlanOfGroups → Plan) (test : (List Pair → Bool) → Bool)
    → IsAdditive test → ((part : PlanOfGroups) → means release (make part) concept ≡ test (group_means release part))
    → (parts : PlansOfGroups)
    → test (some_group_means release parts) ≡ some_means release (plans_of_each make parts) concept
spread_braces release concept make test is each no_group_plans = is.none
spread_braces release concept make test is each (group_plan_then first rest) =
    is.either (group_means release first) (some_group_means release rest)
    ∙ ap (λ (b : Bool). b || test (some_group_means release rest)) (sym (each first))
    ∙ ap (λ (b : Bool). means release (make first) concept || b) (spread_braces release concept make test is each rest)
