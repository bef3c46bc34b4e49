-- What is known of the rows of the concept that a plan names.
use Rattle.std.proofs.Common.{ℕ, ◌≡◌, ◌==◌, ◌&&◌, ◌∙◌, List, Option, sym, subst}
use Rattle.std.specs.List.Sorted.{IsStrictlyIncreasing}
use Rattle.release_model.specs.Release.{Release}
use Rattle.constraint_tree.specs.Walks.{has_concept}
use Rattle.held_release.specs.Numbering.{concept_number}
use Rattle.set_algebra.specs.declared.plan.ConceptPlan.{ConceptPlan}
use Rattle.set_algebra.specs.Plan.{Plan, one_plan, plan_of}
use Rattle.set_algebra.proofs.PhysicalLemmas.{logical-physical_of}
use Rattle.candidates.specs.Numbers.{numbers_in}
use Rattle.candidates.specs.RowEstimates.{Adds, Estimate}
use Rattle.candidates.proofs.Normal.{as_list, one_in}
use Rattle.executor.specs.inside.Logical.{logical_of}
use Rattle.executor.specs.inside.Named.{AddsNamed, HasNamed}

-- if an estimate adds the rows of the concept in force with the identifier `id`, or of none if there is none, this is
-- `AddsNamed` for the plan of the one concept `id`
pub adds_named : (release : Release) → IsStrictlyIncreasing release.concepts → (id : ℕ) (number : Option ℕ)
    → concept_number release.concepts id ≡ number → (early late : Estimate) → Adds (as_list number) early late
    → (plan : Plan) → plan ≡ one_plan id → AddsNamed release plan early late
adds_named release rising id number at early late adds plan is =
    subst (λ (plan : Plan). AddsNamed release plan early late) (sym is)
    (subst (λ (values : List ℕ). Adds values early late) (one_in release rising id number at) adds)

-- `AddsNamed` for the plan of the one concept `id` adds the rows of that concept, if it is in force
pub named_adds : (release : Release) (id : ℕ) (early late : Estimate) (plan : Plan) → plan
    ≡ one_plan id → AddsNamed release plan early late
    → Adds (numbers_in release (λ concept. has_concept release concept && (concept == id))) early late
named_adds release id early late plan is = subst (λ (plan : Plan). AddsNamed release plan early late) is

-- if two plans differ only in their choices, a set that has what one means also has what the other means
pub named_again : (release : Release) (before name : ConceptPlan) {items : List ℕ} {bound : ℕ}
    → plan_of before ≡ plan_of name → HasNamed release (logical_of before) items bound
    → HasNamed release (logical_of name) items bound
named_again release before name {items} {bound} same =
    subst (λ (plan : Plan). HasNamed release plan items bound)
    (logical-physical_of before ∙ same ∙ sym (logical-physical_of name))
