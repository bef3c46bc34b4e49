use Rattle.std.proofs.Common.{◌≡◌, true, List, Option, unwrap_or, sym, ap, ◌∙◌}
use Rattle.set_algebra.specs.declared.plan.ConceptPlan.{ConceptPlan}
use Rattle.set_algebra.specs.Plan.{Plan, plans_of, and_plan, or_plan}
use Rattle.rewrites.specs.declared.connective.Connective.TheVariants.{And, Or}
use Rattle.rewrites.specs.Simplified.{begins_twice}
use Rattle.rewrites.proofs.PartLemmas.{dropped}
use Rattle.rewrites.proofs.shortening.fewer.Goals as goal

twice : (items seen : List ConceptPlan) (result : _) → seen ≡ items → result ≡ begins_twice (plans_of seen)
    → result ≡ true → begins_twice (plans_of items) ≡ true
twice items seen result is told holds =
    sym (ap (λ (parts : List ConceptPlan). begins_twice (plans_of parts)) is) ∙ sym told ∙ holds

-- dropping the first part of an `And` of concepts that begins with two equal parts is what Same makes of it
pub returns-then-begins_twice-clause-and : goal.returns-then-begins_twice-clause-and
returns-then-begins_twice-clause-and c =
    ap (λ (items : List ConceptPlan). and_plan (plans_of items)) c.remove.ensures.by_index.2
    ∙ sym
    (ap (λ (made : Option Plan). unwrap_or made (and_plan (plans_of c.args.parts.items)))
    (dropped And c.args.parts.items
    (twice _ _ _ c.deref.ensures.value c.begins_twice.ensures c.if-begins_twice.true)))

-- dropping the first part of an `Or` of concepts that begins with two equal parts is what Same makes of it
pub returns-then-begins_twice-clause-or : goal.returns-then-begins_twice-clause-or
returns-then-begins_twice-clause-or c =
    ap (λ (items : List ConceptPlan). or_plan (plans_of items)) c.remove.ensures.by_index.2
    ∙ sym
    (ap (λ (made : Option Plan). unwrap_or made (or_plan (plans_of c.args.parts.items)))
    (dropped Or c.args.parts.items
    (twice _ _ _ c.deref.ensures.value c.begins_twice.ensures c.if-begins_twice.true)))
