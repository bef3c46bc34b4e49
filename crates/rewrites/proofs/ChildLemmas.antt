-- A rule at a place in a child, if there is a child with that number and if there is none.
use Rattle.std.proofs.Common.{ℕ, zero, suc, ◌≡◌, ◌<◌, ◌≤◌, Bool, true, false, Some, None, List, [], ◌∷◌, length}
use Rattle.std.proofs.Common.{get_or, option_map, refl, sym, ap, ◌∙◌, arith}
use Rattle.std.specs.Prelude.{slice_get, slice_set}
use Rattle.set_algebra.specs.declared.plan.ConceptPlan.{ConceptPlan}
use Rattle.set_algebra.specs.declared.plan.UnitPlan.{UnitPlan}
use Rattle.set_algebra.specs.Plan.{Plan, plan_of, plans_of, plan_then, group_plan_of, group_plans_of, group_plan_then}
use Rattle.set_algebra.specs.Plan.{and_plan, or_plan, values_plan, and_group_plan, or_group_plan}
use Rattle.set_algebra.specs.Places.{Node, concept_node, group_node, children, plan_nodes, group_nodes, plans_with}
use Rattle.set_algebra.specs.Places.{groups_with, with_child}
use Rattle.rewrites.specs.declared.rule.Rule.{Rule}
use Rattle.rewrites.specs.Counts.{only_if}
use Rattle.rewrites.specs.RulesAtPlaces.{rewritten_at, in_child}

-- if child `number` of `whole` is `child`, a rule at a place within this child makes `whole` with the child that it
-- makes of `child`, or nothing if it makes nothing of it
pub step : (rule : Rule) (number : ℕ) (place : List ℕ) (whole child new : Node) (fits : Bool)
    → slice_get (children whole) number ≡ Some child → only_if fits new ≡ rewritten_at rule place child
    → only_if fits (with_child whole number new) ≡ rewritten_at rule (number ∷ place) whole
step rule number place whole child new true is made =
    ap (option_map (with_child whole number)) made ∙ sym (ap (in_child whole number (rewritten_at rule place)) is)
step rule number place whole child new false is made =
    ap (option_map (with_child whole number)) made ∙ sym (ap (in_child whole number (rewritten_at rule place)) is)

-- if `whole` has no child `number`, a rule makes nothing at a place within it
pub no_step : (rule : Rule) (number : ℕ) (place : List ℕ) (whole : Node) → slice_get (children whole) number ≡ None
    → None ≡ rewritten_at rule (number ∷ place) whole
no_step rule number place whole is = sym (ap (in_child whole number (rewritten_at rule place)) is)

-- child `number` of a list of plans of concepts is the plan of item `number`
part_at : (parts : List ConceptPlan) (number : ℕ) (old : ConceptPlan) → number < length parts
    → old ≡ get_or parts number old → slice_get (plan_nodes (plans_of parts)) number ≡ Some (concept_node (plan_of old))
part_at [] number old within is = absurd (omega arith)
part_at (first ∷ rest) zero old within is = ap (λ (plan : ConceptPlan). Some (concept_node (plan_of plan))) (sym is)
part_at (first ∷ rest) (suc number) old within is = part_at rest number old (omega arith) is

-- a list of plans of concepts has no child `number` if `number` is at least its length
no_part : (parts : List ConceptPlan) (number : ℕ) → length parts ≤ number
    → slice_get (plan_nodes (plans_of parts)) number ≡ None
no_part [] number past = refl
no_part (first ∷ rest) zero past = absurd (omega arith)
no_part (first ∷ rest) (suc number) past = no_part rest number (omega arith)

-- setting item `number` of a list of plans of concepts sets plan `number` of its plans
with_part : (parts : List ConceptPlan) (number : ℕ) (new : ConceptPlan)
    → plans_of (slice_set parts number new) ≡ plans_with (plans_of parts) number (plan_of new)
with_part [] number new = refl
with_part (first ∷ rest) zero new = refl
with_part (first ∷ rest) (suc number) new = ap (plan_then (plan_of first)) (with_part rest number new)

module _ (rule : Rule) (place : List ℕ) (parts : List ConceptPlan) (number : ℕ) where
  -- if an `And` of concepts has at most `number` parts, a rule makes nothing at a place within part `number`
  pub none_and : length parts ≤ number
      → None ≡ rewritten_at rule (number ∷ place) (concept_node (and_plan (plans_of parts)))
  none_and past = no_step rule number place (concept_node (and_plan (plans_of parts))) (no_part parts number past)

  -- if an `Or` of concepts has at most `number` parts, a rule makes nothing at a place within part `number`
  pub none_or : length parts ≤ number
      → None ≡ rewritten_at rule (number ∷ place) (concept_node (or_plan (plans_of parts)))
  none_or past = no_step rule number place (concept_node (or_plan (plans_of parts))) (no_part parts number past)

  -- if a `Values` has at most `number` names, a rule makes nothing at a place within name `number`
  pub none_values : (start : Plan) → length parts ≤ number
      → None ≡ rewritten_at rule (suc number ∷ place) (concept_node (values_plan start (plans_of parts)))
  none_values start past =
      no_step rule (suc number) place (concept_node (values_plan start (plans_of parts))) (no_part parts number past)

  module _ (old new : ConceptPlan) (fits : Bool) (within : number < length parts) (is : old ≡ get_or parts number old)
      (made : only_if fits (concept_node (plan_of new)) ≡ rewritten_at rule place (concept_node (plan_of old))) where
    -- a rule at a place within part `number` of an `And` of concepts makes the `And` with this part replaced by
    -- `new`, or nothing if it makes nothing of the part
    pub part_and :
        only_if fits (concept_node (and_plan (plans_of (slice_set parts number new))))
        ≡ rewritten_at rule (number ∷ place) (concept_node (and_plan (plans_of parts)))
    part_and =
        ap (λ plans. only_if fits (concept_node (and_plan plans))) (with_part parts number new)
        ∙ step rule number place (concept_node (and_plan (plans_of parts))) (concept_node (plan_of old))
        (concept_node (plan_of new)) fits (part_at parts number old within is) made

    -- a rule at a place within part `number` of an `Or` of concepts makes the `Or` with this part replaced by `new`,
    -- or nothing if it makes nothing of the part
    pub part_or :
        only_if fits (concept_node (or_plan (plans_of (slice_set parts number new))))
        ≡ rewritten_at rule (number ∷ place) (concept_node (or_plan (plans_of parts)))
    part_or =
        ap (λ plans. only_if fits (concept_node (or_plan plans))) (with_part parts number new)
        ∙ step rule number place (concept_node (or_plan (plans_of parts))) (concept_node (plan_of old))
        (concept_node (plan_of new)) fits (part_at parts number old within is) made

    -- a rule at a place within name `number` of a `Values` makes the `Values` with this name replaced by `new`, or
    -- nothing if it makes nothing of the name
    pub part_values : (start : Plan)
        → only_if fits (concept_node (values_plan start (plans_of (slice_set parts number new))))
        ≡ rewritten_at rule (suc number ∷ place) (concept_node (values_plan start (plans_of parts)))
    part_values start =
        ap (λ plans. only_if fits (concept_node (values_plan start plans))) (with_part parts number new)
        ∙ step rule (suc number) place (concept_node (values_plan start (plans_of parts))) (concept_node (plan_of old))
        (concept_node (plan_of new)) fits (part_at parts number old within is) made

-- child `number` of a list of plans of groups is the plan of item `number`
group_at : (parts : List UnitPlan) (number : ℕ) (old : UnitPlan) → number < length parts → old ≡ get_or parts number old
    → slice_get (group_nodes (group_plans_of parts)) number ≡ Some (group_node (group_plan_of old))
group_at [] number old within is = absurd (omega arith)
group_at (first ∷ rest) zero old within is = ap (λ (plan : UnitPlan). Some (group_node (group_plan_of plan))) (sym is)
group_at (first ∷ rest) (suc number) old within is = group_at rest number old (omega arith) is

no_group : (parts : List UnitPlan) (number : ℕ) → length parts ≤ number
    → slice_get (group_nodes (group_plans_of parts)) number ≡ None
no_group [] number past = refl
no_group (first ∷ rest) zero past = absurd (omega arith)
no_group (first ∷ rest) (suc number) past = no_group rest number (omega arith)

with_group : (parts : List UnitPlan) (number : ℕ) (new : UnitPlan)
    → group_plans_of (slice_set parts number new) ≡ groups_with (group_plans_of parts) number (group_plan_of new)
with_group [] number new = refl
with_group (first ∷ rest) zero new = refl
with_group (first ∷ rest) (suc number) new = ap (group_plan_then (group_plan_of first)) (with_group rest number new)

module _ (rule : Rule) (place : List ℕ) (parts : List UnitPlan) (number : ℕ) where
  -- if an `And` of groups has at most `number` parts, a rule makes nothing at a place within part `number`
  pub no_group_and : length parts ≤ number
      → None ≡ rewritten_at rule (number ∷ place) (group_node (and_group_plan (group_plans_of parts)))
  no_group_and past =
      no_step rule number place (group_node (and_group_plan (group_plans_of parts))) (no_group parts number past)

  -- if an `Or` of groups has at most `number` parts, a rule makes nothing at a place within part `number`
  pub no_group_or : length parts ≤ number
      → None ≡ rewritten_at rule (number ∷ place) (group_node (or_group_plan (group_plans_of parts)))
  no_group_or past = no_step rule number place (group_node (or_group_plan (group_plans_of parts)))
      (no_group parts number past)

  module _ (old new : UnitPlan) (fits : Bool) (within : number < length parts) (is : old ≡ get_or parts number old)
      (made : only_if fits (group_node (group_plan_of new)) ≡ rewritten_at rule place (group_node (group_plan_of old)))
    where
      -- a rule at a place within part `number` of an `And` of groups makes the `And` with this part replaced by
      -- `new`, or nothing if it makes nothing of the part
      pub group_and :
          only_if fits (group_node (and_group_plan (group_plans_of (slice_set parts number new))))
          ≡ rewritten_at rule (number ∷ place) (group_node (and_group_plan (group_plans_of parts)))
      group_and =
          ap (λ plans. only_if fits (group_node (and_group_plan plans))) (with_group parts number new)
          ∙ step rule number place (group_node (and_group_plan (group_plans_of parts))) (group_node (group_plan_of old))
          (group_node (group_plan_of new)) fits (group_at parts number old within is) made

      -- a rule at a place within part `number` of an `Or` of groups makes the `Or` with this part replaced by `new`,
      -- or nothing if it makes nothing of the part
      pub group_or :
          only_if fits (group_node (or_group_plan (group_plans_of (slice_set parts number new))))
          ≡ rewritten_at rule (number ∷ place) (group_node (or_group_plan (group_plans_of parts)))
      group_or =
          ap (λ plans. only_if fits (group_node (or_group_plan plans))) (with_group parts number new)
          ∙ step rule number place (group_node (or_group_plan (group_plans_of parts))) (group_node (group_plan_of old))
          (group_node (group_plan_of new)) fits (group_at parts number old within is) made
