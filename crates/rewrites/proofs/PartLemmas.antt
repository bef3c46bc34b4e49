-- The rules that treat And and Or alike, by the list of the parts.
use Rattle.std.proofs.Common.{◌≡◌, ◌<◌, ◌≤◌, Bool, true, false, Some, None, List, [], ◌∷◌, length, take, drop, refl, ap}
use Rattle.std.proofs.Common.{◌∙◌, arith}
use Rattle.std.proofs.lemmas.Bool.{false≢true}
use Rattle.set_algebra.specs.declared.plan.ConceptPlan.{ConceptPlan}
use Rattle.set_algebra.specs.declared.plan.UnitPlan.{UnitPlan}
use Rattle.set_algebra.specs.EqualLaws.{decides_plan, decides_group}
use Rattle.set_algebra.specs.Plan.{Plan, Plans, no_plans, plan_then, and_plan, or_plan, plan_of, plans_of, PlanOfGroups}
use Rattle.set_algebra.specs.Plan.{PlansOfGroups, no_group_plans, group_plan_then, and_group_plan, or_group_plan}
use Rattle.set_algebra.specs.Plan.{group_plan_of}
use Rattle.set_algebra.specs.Plan.{group_plans_of}
use Rattle.rewrites.specs.declared.connective.Connective.{Connective}
use Rattle.rewrites.specs.declared.connective.Connective.TheVariants.{And, Or}
use Rattle.rewrites.specs.declared.rule.Rule.TheVariants.{Turn, Join, Pair, Same}
use Rattle.rewrites.specs.Counts.{only_if}
use Rattle.rewrites.specs.inside.Connected.{connected, connected_groups}
use Rattle.rewrites.specs.PlanLists.{plans_then, plans_joined, groups_then, groups_joined}
use Rattle.rewrites.specs.Rules.{rewritten, rewritten_group}
use Rattle.rewrites.specs.Simplified.{begins_twice, group_begins_twice}

-- adding `last` at the end of a list of plans of concepts is joining the list of `last` alone
last_joined : (parts : Plans) (last : Plan) → plans_then parts last ≡ plans_joined parts (plan_then last no_plans)
last_joined no_plans last = refl
last_joined (plan_then first rest) last = ap (plan_then first) (last_joined rest last)

-- if there are at least two parts of concepts, Turn makes the node with the first part moved to the end
pub turned : (connective : Connective) (parts : List ConceptPlan) → 2 ≤ length parts
    → rewritten Turn (connected connective (plans_of parts))
    ≡ Some (connected connective (plans_joined (plans_of (drop 1 parts)) (plans_of (take 1 parts))))
turned connective [] long = absurd (omega arith)
turned connective (one ∷ []) long = absurd (omega arith)
turned And (one ∷ (other ∷ more)) long =
    ap (λ plans. Some (and_plan plans)) (last_joined (plans_of (other ∷ more)) (plan_of one))
turned Or (one ∷ (other ∷ more)) long =
    ap (λ plans. Some (or_plan plans)) (last_joined (plans_of (other ∷ more)) (plan_of one))

-- if there are fewer than two parts of concepts, Turn makes nothing
pub not_turned : (connective : Connective) (parts : List ConceptPlan) → length parts < 2
    → rewritten Turn (connected connective (plans_of parts)) ≡ None
not_turned And [] few = refl
not_turned Or [] few = refl
not_turned And (first ∷ []) few = refl
not_turned Or (first ∷ []) few = refl
not_turned connective (first ∷ (second ∷ rest)) few = absurd (omega arith)

-- the lemmas on Turn for parts of concepts: two or more, and fewer
pub ruleset turning = (turned, not_turned)

-- if the first part of concepts has the same connective as the node, Join makes the node with the parts of that part
-- in its place
pub joined : (connective : Connective) (parts rest : Plans)
    → rewritten Join (connected connective (plan_then (connected connective parts) rest))
    ≡ Some (connected connective (plans_joined parts rest))
joined And parts rest = refl
joined Or parts rest = refl

-- if there are at least three parts of concepts, Pair makes the node whose first part has the same connective and the
-- first two parts
pub paired : (connective : Connective) (parts : List ConceptPlan) → 3 ≤ length parts
    → rewritten Pair (connected connective (plans_of parts))
    ≡ Some
    (connected connective (plan_then (connected connective (plans_of (take 2 parts))) (plans_of (drop 2 parts))))
paired connective [] long = absurd (omega arith)
paired connective (one ∷ []) long = absurd (omega arith)
paired connective (one ∷ (other ∷ [])) long = absurd (omega arith)
paired And (one ∷ (other ∷ (third ∷ more))) long = refl
paired Or (one ∷ (other ∷ (third ∷ more))) long = refl

-- if there are fewer than three parts of concepts, Pair makes nothing
pub not_paired : (connective : Connective) (parts : List ConceptPlan) → length parts < 3
    → rewritten Pair (connected connective (plans_of parts)) ≡ None
not_paired And [] few = refl
not_paired Or [] few = refl
not_paired And (first ∷ []) few = refl
not_paired Or (first ∷ []) few = refl
not_paired And (first ∷ (second ∷ [])) few = refl
not_paired Or (first ∷ (second ∷ [])) few = refl
not_paired connective (first ∷ (second ∷ (third ∷ rest))) few = absurd (omega arith)

-- the lemmas on Pair for parts of concepts: three or more, and fewer
pub ruleset pairing = (paired, not_paired)

-- if the first two parts of concepts are equal, Same makes the node without the first
pub dropped : (connective : Connective) (parts : List ConceptPlan) → begins_twice (plans_of parts) ≡ true
    → rewritten Same (connected connective (plans_of parts)) ≡ Some (connected connective (plans_of (drop 1 parts)))
dropped connective [] twice = absurd (false≢true twice)
dropped connective (one ∷ []) twice = absurd (false≢true twice)
dropped And (one ∷ (other ∷ more)) twice =
    ap (λ (same : Bool). only_if same (and_plan (plan_then (plan_of one) (plans_of more)))) twice
    ∙ ap (λ (plan : Plan). Some (and_plan (plan_then plan (plans_of more))))
    ((decides_plan (plan_of one) (plan_of other)).0 twice)
dropped Or (one ∷ (other ∷ more)) twice =
    ap (λ (same : Bool). only_if same (or_plan (plan_then (plan_of one) (plans_of more)))) twice
    ∙ ap (λ (plan : Plan). Some (or_plan (plan_then plan (plans_of more))))
    ((decides_plan (plan_of one) (plan_of other)).0 twice)

-- if there are no first two parts of concepts that are equal, Same makes nothing
pub not_dropped : (connective : Connective) (parts : List ConceptPlan) → begins_twice (plans_of parts) ≡ false
    → rewritten Same (connected connective (plans_of parts)) ≡ None
not_dropped And [] differ = refl
not_dropped Or [] differ = refl
not_dropped And (first ∷ []) differ = refl
not_dropped Or (first ∷ []) differ = refl
not_dropped And (first ∷ (second ∷ rest)) differ =
    ap (λ (same : Bool). only_if same (and_plan (plan_then (plan_of first) (plans_of rest)))) differ
not_dropped Or (first ∷ (second ∷ rest)) differ =
    ap (λ (same : Bool). only_if same (or_plan (plan_then (plan_of first) (plans_of rest)))) differ

-- if a list of plans of concepts begins with two equal plans, it has at least two plans
pub are_two : (parts : List ConceptPlan) → begins_twice (plans_of parts) ≡ true → 2 ≤ length parts
are_two [] twice = absurd (false≢true twice)
are_two (first ∷ []) twice = absurd (false≢true twice)
are_two (first ∷ (second ∷ rest)) twice = omega arith

-- the lemmas on Same for parts of concepts: first two equal, and not equal
pub ruleset dropping = (dropped, not_dropped, are_two)

-- adding `last` at the end of a list of plans of groups is joining the list of `last` alone
last_group_joined : (parts : PlansOfGroups) (last : PlanOfGroups)
    → groups_then parts last ≡ groups_joined parts (group_plan_then last no_group_plans)
last_group_joined no_group_plans last = refl
last_group_joined (group_plan_then first rest) last = ap (group_plan_then first) (last_group_joined rest last)

-- if there are at least two parts of groups, Turn makes the node with the first part moved to the end
pub group_turned : (connective : Connective) (parts : List UnitPlan) → 2 ≤ length parts
    → rewritten_group Turn (connected_groups connective (group_plans_of parts))
    ≡ Some
    (connected_groups connective (groups_joined (group_plans_of (drop 1 parts)) (group_plans_of (take 1 parts))))
group_turned connective [] long = absurd (omega arith)
group_turned connective (one ∷ []) long = absurd (omega arith)
group_turned And (one ∷ (other ∷ more)) long =
    ap (λ plans. Some (and_group_plan plans)) (last_group_joined (group_plans_of (other ∷ more)) (group_plan_of one))
group_turned Or (one ∷ (other ∷ more)) long =
    ap (λ plans. Some (or_group_plan plans)) (last_group_joined (group_plans_of (other ∷ more)) (group_plan_of one))

-- if there are fewer than two parts of groups, Turn makes nothing
pub group_not_turned : (connective : Connective) (parts : List UnitPlan) → length parts < 2
    → rewritten_group Turn (connected_groups connective (group_plans_of parts)) ≡ None
group_not_turned And [] few = refl
group_not_turned Or [] few = refl
group_not_turned And (first ∷ []) few = refl
group_not_turned Or (first ∷ []) few = refl
group_not_turned connective (first ∷ (second ∷ rest)) few = absurd (omega arith)

-- the lemmas on Turn for parts of groups: two or more, and fewer
pub ruleset group_turning = (group_turned, group_not_turned)

-- if the first part of groups has the same connective as the node, Join makes the node with the parts of that part in
-- its place
pub groups_joined_up : (connective : Connective) (parts rest : PlansOfGroups)
    → rewritten_group Join (connected_groups connective (group_plan_then (connected_groups connective parts) rest))
    ≡ Some (connected_groups connective (groups_joined parts rest))
groups_joined_up And parts rest = refl
groups_joined_up Or parts rest = refl

-- if there are at least three parts of groups, Pair makes the node whose first part has the same connective and the
-- first two parts
pub group_paired : (connective : Connective) (parts : List UnitPlan) → 3 ≤ length parts
    → rewritten_group Pair (connected_groups connective (group_plans_of parts))
    ≡ Some
    (connected_groups connective
    (group_plan_then (connected_groups connective (group_plans_of (take 2 parts))) (group_plans_of (drop 2 parts))))
group_paired connective [] long = absurd (omega arith)
group_paired connective (one ∷ []) long = absurd (omega arith)
group_paired connective (one ∷ (other ∷ [])) long = absurd (omega arith)
group_paired And (one ∷ (other ∷ (third ∷ more))) long = refl
group_paired Or (one ∷ (other ∷ (third ∷ more))) long = refl

-- if there are fewer than three parts of groups, Pair makes nothing
pub group_not_paired : (connective : Connective) (parts : List UnitPlan) → length parts < 3
    → rewritten_group Pair (connected_groups connective (group_plans_of parts)) ≡ None
group_not_paired And [] few = refl
group_not_paired Or [] few = refl
group_not_paired And (first ∷ []) few = refl
group_not_paired Or (first ∷ []) few = refl
group_not_paired And (first ∷ (second ∷ [])) few = refl
group_not_paired Or (first ∷ (second ∷ [])) few = refl
group_not_paired connective (first ∷ (second ∷ (third ∷ rest))) few = absurd (omega arith)

-- the lemmas on Pair for parts of groups: three or more, and fewer
pub ruleset group_pairing = (group_paired, group_not_paired)

-- if the first two parts of groups are equal, Same makes the node without the first
pub group_dropped : (connective : Connective) (parts : List UnitPlan)
    → group_begins_twice (group_plans_of parts) ≡ true
    → rewritten_group Same (connected_groups connective (group_plans_of parts))
    ≡ Some (connected_groups connective (group_plans_of (drop 1 parts)))
group_dropped connective [] twice = absurd (false≢true twice)
group_dropped connective (one ∷ []) twice = absurd (false≢true twice)
group_dropped And (one ∷ (other ∷ more)) twice =
    ap (λ (same : Bool). only_if same (and_group_plan (group_plan_then (group_plan_of one) (group_plans_of more))))
    twice
    ∙ ap (λ (plan : PlanOfGroups). Some (and_group_plan (group_plan_then plan (group_plans_of more))))
    ((decides_group (group_plan_of one) (group_plan_of other)).0 twice)
group_dropped Or (one ∷ (other ∷ more)) twice =
    ap (λ (same : Bool). only_if same (or_group_plan (group_plan_then (group_plan_of one) (group_plans_of more)))) twice
    ∙ ap (λ (plan : PlanOfGroups). Some (or_group_plan (group_plan_then plan (group_plans_of more))))
    ((decides_group (group_plan_of one) (group_plan_of other)).0 twice)

-- if there are no first two parts of groups that are equal, Same makes nothing
pub group_not_dropped : (connective : Connective) (parts : List UnitPlan)
    → group_begins_twice (group_plans_of parts) ≡ false
    → rewritten_group Same (connected_groups connective (group_plans_of parts)) ≡ None
group_not_dropped And [] differ = refl
group_not_dropped Or [] differ = refl
group_not_dropped And (first ∷ []) differ = refl
group_not_dropped Or (first ∷ []) differ = refl
group_not_dropped And (first ∷ (second ∷ rest)) differ =
    ap (λ (same : Bool). only_if same (and_group_plan (group_plan_then (group_plan_of first) (group_plans_of rest))))
    differ
group_not_dropped Or (first ∷ (second ∷ rest)) differ =
    ap (λ (same : Bool). only_if same (or_group_plan (group_plan_then (group_plan_of first) (group_plans_of rest))))
    differ

-- if a list of plans of groups begins with two equal plans, it has at least two plans
pub groups_are_two : (parts : List UnitPlan) → group_begins_twice (group_plans_of parts) ≡ true → 2 ≤ length parts
groups_are_two [] twice = absurd (false≢true twice)
groups_are_two (first ∷ []) twice = absurd (false≢true twice)
groups_are_two (first ∷ (second ∷ rest)) twice = omega arith

-- the lemmas on Same for parts of groups: first two equal, and not equal
pub ruleset group_dropping = (group_dropped, group_not_dropped, groups_are_two)
