use Rattle.std.proofs.Common.{◌≡◌, true, List, Option, unwrap_or, sym, ap, ◌∙◌}
use Rattle.set_algebra.specs.declared.plan.UnitPlan.{UnitPlan}
use Rattle.set_algebra.specs.Plan.{PlanOfGroups, group_plans_of, and_group_plan, or_group_plan}
use Rattle.rewrites.specs.declared.connective.Connective.TheVariants.{And, Or}
use Rattle.rewrites.specs.Simplified.{group_begins_twice}
use Rattle.rewrites.proofs.PartLemmas.{group_dropped}
use Rattle.rewrites.proofs.group_shortening.fewer.Goals as goal

twice : (items seen : List UnitPlan) (result : _) → seen ≡ items → result ≡ group_begins_twice (group_plans_of seen)
    → result ≡ true → group_begins_twice (group_plans_of items) ≡ true
twice items seen result is told holds =
    sym (ap (λ (parts : List UnitPlan). group_begins_twice (group_plans_of parts)) is) ∙ sym told ∙ holds

-- dropping the first part of an `And` of groups that begins with two equal parts is what Same makes of it
pub returns-then-begins_twice-clause-and : goal.returns-then-begins_twice-clause-and
returns-then-begins_twice-clause-and c =
    ap (λ (items : List UnitPlan). and_group_plan (group_plans_of items)) c.remove.ensures.by_index.2
    ∙ sym
    (ap (λ (made : Option PlanOfGroups). unwrap_or made (and_group_plan (group_plans_of c.args.parts.items)))
    (group_dropped And c.args.parts.items
    (twice _ _ _ c.deref.ensures.value c.begins_twice.ensures c.if-begins_twice.true)))

-- dropping the first part of an `Or` of groups that begins with two equal parts is what Same makes of it
pub returns-then-begins_twice-clause-or : goal.returns-then-begins_twice-clause-or
returns-then-begins_twice-clause-or c =
    ap (λ (items : List UnitPlan). or_group_plan (group_plans_of items)) c.remove.ensures.by_index.2
    ∙ sym
    (ap (λ (made : Option PlanOfGroups). unwrap_or made (or_group_plan (group_plans_of c.args.parts.items)))
    (group_dropped Or c.args.parts.items
    (twice _ _ _ c.deref.ensures.value c.begins_twice.ensures c.if-begins_twice.true)))
