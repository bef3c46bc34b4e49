-- The text that explains a query line: the plan with which the program answers the line, and how
-- many items the plan visits at most.
use Rattle.std.specs.Prelude.{ℕ, ◌≡◌, List}
use Rattle.constraint_tree.specs.Denotation.{denotes}
use Rattle.constraint_tree.specs.Tree.{Tree}
use Rattle.set_algebra.specs.Lowering.{lowered}
use Rattle.set_algebra.specs.Meaning.{means}
use Rattle.set_algebra.specs.Plan.{Plan}
use Rattle.rewrites.specs.Simplified.{simplified}
use Rattle.held_release.specs.Contents.{Contents}
use Rattle.postings.specs.Indexed.{Indexed, IsIndexOf}
use Rattle.planner.specs.Chosen.{chosen}
use Rattle.plan_bounds.specs.Offered.{AreLeast}
use Rattle.answer_printer.specs.PlanText.{plan_text}
use Rattle.query_service.specs.Answer.{IsForLine}

-- the plan with which a constraint is answered: its own plan, simplified
abbrev pub executed_plan : Tree → Plan
executed_plan tree = simplified (lowered tree)

-- `text` explains a constraint: over indexes of the release, it is the text of a plan that means
-- what the constraint denotes, where each leaf has the choice with the least bound
pub record Explains (contents : Contents) (tree : Tree) (text : List ℕ) : Type 0 where
  -- indexes
  pub indexed : Indexed
  -- they are indexes of the release
  pub of_release : IsIndexOf indexed contents.release
  -- the plan means what the constraint denotes
  pub meaning : (concept : ℕ) → means contents.release (executed_plan tree) concept
      ≡ denotes contents.release tree concept
  -- each leaf has the choice with the least bound
  pub least : AreLeast indexed (chosen indexed (executed_plan tree))
  -- the text is that of the plan
  pub written : text ≡ plan_text indexed (chosen indexed (executed_plan tree))

-- `text` explains a query line: it explains the line's constraint, or is the line's refusal
abbrev pub IsExplanation : Contents → List ℕ → List ℕ → Type 0
IsExplanation contents line text = IsForLine (Explains contents) line text
