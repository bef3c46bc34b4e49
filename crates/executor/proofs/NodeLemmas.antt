-- What each kind of plan of concepts means, from what its parts mean.
use Rattle.std.proofs.Common.{ℕ, zero, suc, ◌≡◌, ◌<◌, arith, ◌∙◌, ◌∷◌, [], Bool, true, ◌==◌, ◌&&◌, ◌||◌, List, length}
use Rattle.std.proofs.Common.{get_or, take, ◌+◌, refl, sym, ap}
use Rattle.std.proofs.lemmas.Bool.{and_parts}
use Rattle.std.specs.List.{list_all, list_any, range_with_len}
use Rattle.release_model.specs.Release.{Release, Value}
use Rattle.constraint_tree.specs.declared.operator.Operator.{Operator}
use Rattle.constraint_tree.specs.Denotation.{is_value}
use Rattle.constraint_tree.specs.Passing.{is_outside, is_within}
use Rattle.constraint_tree.specs.Walks.{has_concept, walks}
use Rattle.constraint_tree.specs.declared.operator.Cardinality.{Cardinality}
use Rattle.ancestor_index.specs.HierarchyLists.{Hierarchy, hierarchy_of}
use Rattle.set_algebra.specs.declared.plan.ConceptPlan.{ConceptPlan}
use Rattle.set_algebra.specs.Meaning.{all_mean, group_means, has_groups, has_pairs, leads, means, pairs_of, some_means}
use Rattle.set_algebra.specs.Meaning.{value_passes}
use Rattle.set_algebra.specs.Plan.{PlanOfGroups, Plan, Plans, TestPlan, all_plan, and_plan, members_plan, no_plans}
use Rattle.set_algebra.specs.Plan.{one_plan, or_plan}
use Rattle.set_algebra.specs.Plan.{outside_plan, pairs_plan, plan_then, groups_plan, values_plan, walk_plan}
use Rattle.set_algebra.specs.Plan.{within_plan}
use Rattle.set_algebra.proofs.MeaningLemmas.{in_force_if_meant}
use Rattle.walks.specs.Components.{components_of}
use Rattle.candidates.specs.Numbers.{is_one_of, numbers_in}
use Rattle.walks.specs.Related.{related_to}
use Rattle.walks.proofs.MemberLemmas.{components_in, one_of_set}
use Rattle.candidates.proofs.Normal.{each_in_force, in_force_kept, numbers_in-agree}
use Rattle.walks.proofs.StepLemmas.{related_is}
use Rattle.executor.specs.inside.Logical.{logical_of, logicals_of}

-- equal plans mean equal sets
meant : (release : Release) (plan other : Plan) → plan ≡ other → numbers_in release (means release other)
    ≡ numbers_in release (means release plan)
meant release plan other is = ap (λ (p : Plan). numbers_in release (means release p)) (sym is)

module _ (release : Release) (plan : Plan) (found : List ℕ) where
  -- the numbers of all concepts are what a plan of all concepts means
  pub all_node : plan ≡ all_plan → found ≡ range_with_len 0 (length release.concepts) → found
      ≡ numbers_in release (means release plan)
  all_node is found_is = found_is ∙ each_in_force release ∙ meant release plan all_plan is

  -- the concept in force with the identifier `id` is what a plan of this one concept means
  pub one_node : (id : ℕ) → plan ≡ one_plan id
      → found ≡ numbers_in release (λ concept. has_concept release concept && (concept == id))
      → found ≡ numbers_in release (means release plan)
  one_node id is found_is = found_is ∙ meant release plan (one_plan id) is

  -- what an operator leads to from the concepts of `child` is what the walk means
  pub walk_node : (child : Plan) (operator : Operator) (hierarchy : Hierarchy) (count : ℕ) (from : List ℕ) → plan
      ≡ walk_plan operator child
      → hierarchy ≡ hierarchy_of release → count ≡ length release.concepts → from
      ≡ numbers_in release (means release child)
      → found ≡ related_to hierarchy count operator from → found ≡ numbers_in release (means release plan)
  walk_node child operator hierarchy count from is over counted from_is found_is =
      found_is
      ∙ (λ i. related_to (over i) (counted i) operator from)
      ∙ related_is release (means release child) from from_is operator
      ∙ in_force_kept release (walks release operator (means release child))
      ∙ meant release plan (walk_plan operator child) is

  -- the components of the reference sets that `child` means are what the plan of members means
  pub members_node : (child : Plan) (from : List ℕ) → plan ≡ members_plan child → from
      ≡ numbers_in release (means release child)
      → found ≡ components_of release from → found ≡ numbers_in release (means release plan)
  members_node child from is from_is found_is =
      found_is ∙ components_in release (means release child) from from_is (in_force_if_meant release child)
      ∙ meant release plan (members_plan child) is

  -- the concepts that all parts mean are what their conjunction means
  pub and_node : (parts : List ConceptPlan) → plan ≡ and_plan (logicals_of parts)
      → found ≡ numbers_in release (λ concept. list_all (λ part. means release (logical_of part) concept) parts)
      → found ≡ numbers_in release (means release plan)
  and_node parts is found_is =
      found_is ∙ in_force_kept release (λ concept. list_all (λ part. means release (logical_of part) concept) parts)
      ∙ numbers_in-agree release (λ concept. has_concept release concept
      && list_all (λ part. means release (logical_of part) concept) parts)
      (λ concept. has_concept release concept && all_mean release (logicals_of parts) concept)
      (λ n _. ap (λ (b : Bool). has_concept release (get_or release.concepts n 0) && b)
      (all_listed parts (get_or release.concepts n 0)))
      ∙ meant release plan (and_plan (logicals_of parts)) is
    where
      all_listed : (some : List ConceptPlan) (concept : ℕ)
          → list_all (λ part. means release (logical_of part) concept) some
          ≡ all_mean release (logicals_of some) concept
      all_listed [] concept = refl
      all_listed (part ∷ some) concept = ap (λ (b : Bool). means release (logical_of part) concept && b)
          (all_listed some concept)

  -- the concepts that at least one part means are what their disjunction means
  pub or_node : (parts : List ConceptPlan) → plan ≡ or_plan (logicals_of parts)
      → found ≡ numbers_in release (λ concept. list_any (λ part. means release (logical_of part) concept) parts)
      → found ≡ numbers_in release (means release plan)
  or_node parts is found_is =
      found_is
      ∙ numbers_in-agree release (λ concept. list_any (λ part. means release (logical_of part) concept) parts)
      (λ concept. some_means release (logicals_of parts) concept)
      (λ n _. some_listed parts (get_or release.concepts n 0))
      ∙ meant release plan (or_plan (logicals_of parts)) is
    where
      some_listed : (some : List ConceptPlan) (concept : ℕ)
          → list_any (λ part. means release (logical_of part) concept) some
          ≡ some_means release (logicals_of some) concept
      some_listed [] concept = refl
      some_listed (part ∷ some) concept = ap (λ (b : Bool). means release (logical_of part) concept || b)
          (some_listed some concept)

-- whether a concept is in the set that a plan has found is whether the plan means it
pub one_meant : (release : Release) (plan : Plan) (concepts items : List ℕ) → concepts ≡ release.concepts → items
    ≡ numbers_in release (means release plan)
    → is_one_of concepts items ≡ means release plan
one_meant release plan concepts items are is =
    ap (λ (ids : List ℕ). is_one_of ids items) are
    ∙ (λ i id. one_of_set release (means release plan) items is (in_force_if_meant release plan) id i)

module _ (release : Release) (plan : Plan) (found : List ℕ) where
  -- the concepts that the attribute names lead to from `start` are what the plan of values means
  pub values_node : (start : Plan) (names : List ConceptPlan) → plan ≡ values_plan start (logicals_of names)
      → found ≡ numbers_in release (leads release (means release start) (logicals_of names)) → found
      ≡ numbers_in release (means release plan)
  values_node start names is found_is = found_is ∙ meant release plan (values_plan start (logicals_of names)) is

  -- the concepts whose number of pairs with types of `items` and passing values lies in `count` are what the leaf
  -- means
  pub pairs_node : (back : Bool) (count : Cardinality) (types : Plan) (test : TestPlan) (concepts items : List ℕ)
      → plan ≡ pairs_plan back count types test → concepts ≡ release.concepts → items
      ≡ numbers_in release (means release types)
      → found ≡ numbers_in release (λ concept. has_pairs count (is_one_of concepts items) (value_passes release test)
      (pairs_of release back concept))
      → found ≡ numbers_in release (means release plan)
  pairs_node back count types test concepts items is are items_are found_is =
      found_is
      ∙ ap (λ (set : ℕ → Bool). numbers_in release (λ concept. has_pairs count set (value_passes release test)
      (pairs_of release back concept)))
      (one_meant release types concepts items are items_are)
      ∙ in_force_kept release (λ concept. has_pairs count (means release types) (value_passes release test)
      (pairs_of release back concept))
      ∙ meant release plan (pairs_plan back count types test) is

  -- the concepts whose number of groups that `units` means lies in `count` are what the plan of groups means
  pub groups_node : (count : Cardinality) (units : PlanOfGroups) → plan ≡ groups_plan count units
      → found ≡ numbers_in release (has_groups release count (group_means release units)) → found
      ≡ numbers_in release (means release plan)
  groups_node count units is found_is =
      found_is ∙ in_force_kept release (has_groups release count (group_means release units))
      ∙ meant release plan (groups_plan count units) is

-- one more name leads from where the first `k` names lead to the values of attributes with a type that it means
leads_further : (release : Release) (names : List ConceptPlan) (k : ℕ) (d : ConceptPlan) → k < length names →
    (set : ℕ → Bool)
    → leads release set (logicals_of (take (suc k) names))
    ≡ is_value release (leads release set (logicals_of (take k names))) (means release (logical_of (get_or names k d)))
leads_further release [] k d within set = absurd (omega (arith, within))
leads_further release (name ∷ names) zero d within set = refl
leads_further release (name ∷ names) (suc k) d within set =
    leads_further release names k d (omega (arith, within)) (is_value release set (means release (logical_of name)))

-- the concepts that attribute names lead to are in force, if they start from concepts in force
related_in_force : (release : Release) (names : Plans) (set : ℕ → Bool) → ((concept : ℕ) → set concept
    ≡ true → has_concept release concept ≡ true)
    → (concept : ℕ) → leads release set names concept ≡ true → has_concept release concept ≡ true
related_in_force release no_plans set forced concept driven = forced concept driven
related_in_force release (plan_then name names) set forced concept driven =
    related_in_force release names (is_value release set (means release name))
    (λ value holds. (and_parts (has_concept release value) _ holds).0) concept driven

-- if the first `k` names lead to `found`, the name at `k` leads from there to where `k + 1` names lead
pub name_step : (release : Release) (plan : Plan) (names : List ConceptPlan) (k : ℕ) (name : ConceptPlan) → k < length
    names → name ≡ get_or names k name
    → (concepts found types driven : List ℕ) → concepts ≡ release.concepts
    → types ≡ numbers_in release (means release (logical_of name))
    → driven ≡ numbers_in release (is_value release (is_one_of concepts found) (is_one_of concepts types))
    → found ≡ numbers_in release (leads release (means release plan) (logicals_of (take k names)))
    → driven ≡ numbers_in release (leads release (means release plan) (logicals_of (take (k + 1) names)))
name_step release plan names k name within is concepts found types driven are types_are related_is found_is =
    related_is
    ∙ (λ i. numbers_in release
    (is_value release (sources i) (one_meant release (logical_of name) concepts types are types_are i)))
    ∙ (λ i. numbers_in release (is_value release (leads release (means release plan) (logicals_of (take k names)))
    (means release (logical_of (is i)))))
    ∙ ap (numbers_in release) (sym (leads_further release names k name within (means release plan)))
    ∙ ap (λ (m : ℕ). numbers_in release (leads release (means release plan) (logicals_of (take m names)))) next_place
  where
    next_place : suc k ≡ k + 1
    next_place = omega arith

    sources : is_one_of concepts found ≡ leads release (means release plan) (logicals_of (take k names))
    sources =
        ap (λ (ids : List ℕ). is_one_of ids found) are
        ∙ (λ i id. one_of_set release (leads release (means release plan) (logicals_of (take k names))) found found_is
        (related_in_force release (logicals_of (take k names)) (means release plan) (in_force_if_meant release plan)) id
        i)

-- what passes a test by the concepts of a set passes it by the plan that means them
module _ (release : Release) (plan : Plan) (concepts items : List ℕ) (test : TestPlan) where
  -- a value is within the set that a plan has found exactly if it passes the test within the plan
  pub within_passes : test ≡ within_plan plan → concepts ≡ release.concepts → items
      ≡ numbers_in release (means release plan)
      → (value : Value) → is_within (is_one_of concepts items) value ≡ value_passes release test value
  within_passes is are items_are value =
      ap (λ (set : ℕ → Bool). is_within set value) (one_meant release plan concepts items are items_are)
      ∙ ap (λ (t : TestPlan). value_passes release t value) (sym is)

  -- a value is outside the set that a plan has found exactly if it passes the test outside the plan
  pub outside_passes : test ≡ outside_plan plan → concepts ≡ release.concepts → items
      ≡ numbers_in release (means release plan)
      → (value : Value) → is_outside (is_one_of concepts items) value ≡ value_passes release test value
  outside_passes is are items_are value =
      ap (λ (set : ℕ → Bool). is_outside set value) (one_meant release plan concepts items are items_are)
      ∙ ap (λ (t : TestPlan). value_passes release t value) (sym is)
