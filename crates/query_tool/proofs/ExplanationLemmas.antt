-- The text of the plan with which a constraint is answered explains the constraint.
use Rattle.std.proofs.Common.{ℕ, ◌≡◌, ap, refl, subst}
use Rattle.release_model.specs.Release.{Release}
use Rattle.constraint_tree.specs.Denotation.{denotes}
use Rattle.constraint_tree.specs.Tree.{Tree}
use Rattle.set_algebra.specs.Meaning.{means}
use Rattle.set_algebra.specs.Physical.{Physical}
use Rattle.held_release.specs.Contents.{Contents}
use Rattle.postings.specs.Indexed.{Indexed, IsIndexOf}
use Rattle.planner.specs.Chosen.{chosen}
use Rattle.plan_bounds.specs.Offered.{AreLeast}
use Rattle.answer_printer.specs.PlanText.{plan_text}
use Rattle.query_service.specs.Explanation.{Explains, executed_plan}
use Rattle.query_service.specs.LimitedAnswer.{least_plan}

-- if `plan` is the executed plan with the choices `chosen`, its leaves have the choices with the least bound, and it
-- means what the constraint denotes, then the text of `plan` explains the constraint
pub explains : (contents : Contents) (tree : Tree) (indexed : Indexed) (plan : Physical)
    → IsIndexOf indexed contents.release
    → plan ≡ chosen indexed (executed_plan tree) → AreLeast indexed plan
    → ((release : Release) (concept : ℕ) → means release (executed_plan tree) concept ≡ denotes release tree concept)
    → Explains contents tree (plan_text indexed plan)
explains contents tree indexed plan of_release plan_is least same = record {
  indexed = indexed;
  of_release = of_release;
  meaning = same contents.release;
  least = subst (AreLeast indexed) plan_is least;
  written = ap (plan_text indexed) plan_is;
}

-- under the same premises, the text of `least_plan` explains the constraint
pub explains_least : (contents : Contents) (tree : Tree) (indexed : Indexed) (plan : Physical)
    → IsIndexOf indexed contents.release → plan ≡ chosen indexed (executed_plan tree) → AreLeast indexed plan
    → ((release : Release) (concept : ℕ) → means release (executed_plan tree) concept ≡ denotes release tree concept)
    → Explains contents tree (plan_text indexed (least_plan indexed tree))
explains_least contents tree indexed plan of_release plan_is least same =
    explains contents tree indexed (least_plan indexed tree) of_release refl
    (subst (AreLeast indexed) plan_is least) same
