-- A plan means only concepts in force.
use Rattle.std.proofs.Common.{ℕ, ◌≡◌, inl, inr, Bool, true}
use Rattle.std.proofs.lemmas.Bool.{false≢true, or_cases, and_parts}
use Rattle.release_model.specs.Release.{Release}
use Rattle.constraint_tree.specs.Walks.{has_concept}
use Rattle.constraint_tree.specs.Denotation.{is_value}
use Rattle.constraint_tree.proofs.WalkLemmas.{tells_in_force}
use Rattle.set_algebra.specs.Meaning.{means, some_means, leads, MeansConceptsInForce}
use Rattle.set_algebra.specs.Plan.{Plan, empty_plan, all_plan, one_plan, walk_plan, members_plan, and_plan, or_plan}
use Rattle.set_algebra.specs.Plan.{minus_plan, values_plan, pairs_plan, groups_plan, Plans, no_plans, plan_then}

-- each concept reached along `names` is in force if each concept of `set` is
leads_in_force : (names : Plans) (release : Release) (set : ℕ → Bool)
    → ((value : ℕ) → set value ≡ true → has_concept release value ≡ true) → (concept : ℕ)
    → leads release set names concept ≡ true → has_concept release concept ≡ true
leads_in_force no_plans release set each concept holds = each concept holds
leads_in_force (plan_then types others) release set each concept holds =
    leads_in_force others release (is_value release set (means release types))
    (λ value found. (and_parts (has_concept release value) _ found).0) concept holds

-- each concept that a plan or a disjunction means is in force
mutual
  -- if a plan means a concept, `has_concept` is true for it: it is in force
  pub in_force_if_meant : (release : Release) (plan : Plan) (concept : ℕ) → means release plan concept ≡ true
      → has_concept release concept ≡ true
  in_force_if_meant release empty_plan concept holds = absurd (false≢true holds)
  in_force_if_meant release all_plan concept holds = holds
  in_force_if_meant release (one_plan number) concept holds = (and_parts (has_concept release concept) _ holds).0
  in_force_if_meant release (walk_plan operator operand) concept holds =
      (and_parts (has_concept release concept) _ holds).0
  in_force_if_meant release (members_plan operand) concept holds = (and_parts (has_concept release concept) _ holds).0
  in_force_if_meant release (and_plan parts) concept holds = (and_parts (has_concept release concept) _ holds).0
  in_force_if_meant release (or_plan parts) concept holds = in_force_if_some_means release parts concept holds
  in_force_if_meant release (minus_plan first second) concept holds =
      in_force_if_meant release first concept (and_parts (means release first concept) _ holds).0
  in_force_if_meant release (values_plan start names) concept holds =
      leads_in_force names release (means release start) (λ value found. in_force_if_meant release start value found)
      concept holds
  in_force_if_meant release (pairs_plan back count types test) concept holds =
      (and_parts (has_concept release concept) _ holds).0
  in_force_if_meant release (groups_plan count units) concept holds =
      (and_parts (has_concept release concept) _ holds).0

  in_force_if_some_means : (release : Release) (plans : Plans) (concept : ℕ) → some_means release plans concept ≡ true
      → has_concept release concept ≡ true
  in_force_if_some_means release no_plans concept holds = absurd (false≢true holds)
  in_force_if_some_means release (plan_then first rest) concept holds =
      elim (or_cases (means release first concept) _ holds) [
        | inl here ↦ in_force_if_meant release first concept here
        | inr later ↦ in_force_if_some_means release rest concept later
      ]

-- each concept that a plan means is in the release's list of concepts in force
pub means_concepts_in_force : MeansConceptsInForce
means_concepts_in_force release plan concept holds =
    (tells_in_force release concept).0 (in_force_if_meant release plan concept holds)
