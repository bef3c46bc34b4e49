-- The plans of joined lists, and of a list made of another list.
use Rattle.std.proofs.Common.{ℕ, ◌≡◌, ◌<◌, ◌≤◌, ◌+◌, List, [], ◌∷◌, ◌++◌, length, get_or, take, map, refl}
use Rattle.std.proofs.Common.{sym, ap, ◌∙◌, Result, Ok, IfOk}
use Rattle.std.proofs.lemmas.List.{take_all, map_push, map_more}
use Rattle.std.proofs.lemmas.Result.{IfOk-at_ok}
use Rattle.set_algebra.specs.declared.plan.ConceptPlan.{ConceptPlan}
use Rattle.set_algebra.specs.declared.plan.UnitPlan.{UnitPlan}
use Rattle.set_algebra.specs.Plan.{Plan, plans_from, plan_of, plans_of, plan_then, PlanOfGroups, groups_from}
use Rattle.set_algebra.specs.Plan.{group_plan_then, group_plan_of, group_plans_of}
use Rattle.rewrites.specs.PlanLists.{plans_joined, plans_each, groups_joined, groups_each}
use Rattle.rewrites.specs.PlanLists.{groups_of_each, plans_of_each}

-- `plans_of` of two joined lists of plans of concepts is its values for the two lists, joined
pub plans_of_joined : (parts others : List ConceptPlan)
    → plans_of (parts ++ others) ≡ plans_joined (plans_of parts) (plans_of others)
plans_of_joined [] others = refl
plans_of_joined (first ∷ rest) others = ap (plan_then (plan_of first)) (plans_of_joined rest others)

-- `group_plans_of` of two joined lists of plans of groups is its values for the two lists, joined
pub group_plans_of_joined : (parts others : List UnitPlan)
    → group_plans_of (parts ++ others) ≡ groups_joined (group_plans_of parts) (group_plans_of others)
group_plans_of_joined [] others = refl
group_plans_of_joined (first ∷ rest) others =
    ap (group_plan_then (group_plan_of first)) (group_plans_of_joined rest others)

-- A loop that makes an item of each part of a list. `look` gives the plan of an item, and `make` the plan that it
-- should have.
module _ {Part Made P : Type 0} (look : Made → P) (make : Part → P) (made : List Made) (parts : List Part)
    (i : ℕ) where
  -- loop step: the items made of `i` parts with one more, made of part `i`, are those made of `i + 1` parts
  made_more :
      (next : List Made) (new : Made) (part : Part)
      → next ≡ made ++ new ∷ [] → i < length parts → part ≡ get_or parts i part
      → map look made ≡ map make (take i parts) → look new ≡ make part
      → map look next ≡ map make (take (i + 1) parts)
  made_more next new part next_is within part_is so_far one =
      ap (map look) next_is
      ∙ map_push look made new
      ∙ ap (λ (plans : List P). plans ++ look new ∷ []) so_far
      ∙ ap (λ (plan : P). map make (take i parts) ++ plan ∷ []) (one ∙ ap make part_is)
      ∙ sym (map_more make parts i part within)

  -- loop step: if `made` has what `make` gives for the first `i` parts, then `made` with the result for part `i`
  -- appended has what `make` gives for the first `i + 1` parts
  pub more_made : {E : Type 0} (next : List Made) (new : Result Made E) (part : Part)
      → (last : Made) × (new ≡ Ok last) × (next ≡ made ++ last ∷ []) → i < length parts → part ≡ get_or parts i part
      → map look made ≡ map make (take i parts) → IfOk new (λ last. look last ≡ make part)
      → map look next ≡ map make (take (i + 1) parts)
  more_made next new part told within part_is so_far one =
      made_more next told.0 part told.2 within part_is so_far
      (IfOk-at_ok (λ (last : Made). look last ≡ make part) told.1 one)

  -- if `made` has what `make` gives for the first `i` parts, and there are at most `i` parts, then it has what `make`
  -- gives for all parts
  pub all_made : length parts ≤ i → map look made ≡ map make (take i parts) → map look made ≡ map make parts
  all_made past so_far = so_far ∙ ap (map make) (take_all i parts past)

-- Applying `make` to the plan of each plan of concepts in `parts` gives `plans_each make` of these plans
pub plans_made : (make : Plan → Plan) (parts : List ConceptPlan)
    → plans_from (map (λ part. make (plan_of part)) parts) ≡ plans_each make (plans_of parts)
plans_made make [] = refl
plans_made make (first ∷ rest) = ap (plan_then (make (plan_of first))) (plans_made make rest)

-- Applying `make` to the plan of each plan of groups in `parts` gives `groups_each make` of these plans
pub groups_made : (make : PlanOfGroups → PlanOfGroups) (parts : List UnitPlan)
    → groups_from (map (λ part. make (group_plan_of part)) parts) ≡ groups_each make (group_plans_of parts)
groups_made make [] = refl
groups_made make (first ∷ rest) = ap (group_plan_then (make (group_plan_of first))) (groups_made make rest)

-- Applying `make`, whose results are plans of groups, to the plan of each plan of concepts in `parts` gives
-- `groups_of_each make` of these plans
pub groups_made_of_plans : (make : Plan → PlanOfGroups) (parts : List ConceptPlan)
    → groups_from (map (λ part. make (plan_of part)) parts) ≡ groups_of_each make (plans_of parts)
groups_made_of_plans make [] = refl
groups_made_of_plans make (first ∷ rest) = ap (group_plan_then (make (plan_of first))) (groups_made_of_plans make rest)

-- Applying `make`, whose results are plans of concepts, to the plan of each plan of groups in `parts` gives
-- `plans_of_each make` of these plans
pub plans_made_of_groups : (make : PlanOfGroups → Plan) (parts : List UnitPlan)
    → plans_from (map (λ part. make (group_plan_of part)) parts) ≡ plans_of_each make (group_plans_of parts)
plans_made_of_groups make [] = refl
plans_made_of_groups make (first ∷ rest) =
    ap (plan_then (make (group_plan_of first))) (plans_made_of_groups make rest)
