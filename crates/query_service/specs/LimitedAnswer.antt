-- The text that answers a query line in a given form, under a limit on the visits of its plan.
use Rattle.std.specs.Prelude.{ℕ, ◌≡◌, ◌+◌, ◌-◌, ◌^◌, ◌<◌, ◌≤◌, ◌⊎◌, if◌then◌else◌, List, min, nat_lt}
use Rattle.ecl_lexer.specs.declared.fault.QueryFault.{QueryFault}
use Rattle.constraint_tree.specs.Denotation.{denotation}
use Rattle.constraint_tree.specs.Refusal.{IsConstraint, IsRefusalOf}
use Rattle.constraint_tree.specs.Tree.{Tree}
use Rattle.set_algebra.specs.Physical.{Physical}
use Rattle.held_release.specs.Contents.{Contents}
use Rattle.held_release.specs.Name.{name_of}
use Rattle.postings.specs.Indexed.{Indexed, IsIndexOf}
use Rattle.planner.specs.Chosen.{chosen}
use Rattle.plan_bounds.specs.Bounds.{bound, capped}
use Rattle.plan_bounds.specs.Floors.{floor}
use Rattle.answer_printer.specs.AnswerText.{answer_in, bound_refusal, refusal_text}
use Rattle.answer_printer.specs.PlanText.{plan_text}
use Rattle.answer_printer.specs.declared.form.AnswerForm.{AnswerForm}
use Rattle.query_service.specs.Answer.{IsForLine}
use Rattle.query_service.specs.Explanation.{Explains, executed_plan}

-- the plan with which a constraint is answered over indexes; each leaf has the choice with the
-- least bound
abbrev pub least_plan : Indexed → Tree → Physical
least_plan indexed tree = chosen indexed (executed_plan tree)

-- the bound of a constraint's plan, at most 2^64 - 1, as its explanation has it after `PLAN`
abbrev pub told_bound : Indexed → Tree → ℕ
told_bound indexed tree = capped (bound indexed (least_plan indexed tree))

-- `answer`, or the line `ERR bound` if the bound `most` is above the limit
abbrev pub unless_above : ℕ → ℕ → List ℕ → List ℕ
unless_above limit most answer = if nat_lt limit most then bound_refusal most else answer

-- the answer to a constraint in a form, without a limit
abbrev pub constraint_answer_in : AnswerForm → Contents → Tree → List ℕ
constraint_answer_in form contents tree =
    answer_in form (name_of contents.release contents.language) (denotation contents.release tree)

-- `text` answers a constraint under a limit, in a form. If the bound of the plan that explains the
-- constraint is above the limit, `text` states this bound. Otherwise it lists the concepts that the
-- constraint denotes, as the form asks
pub record AnswersWithin (limit : ℕ) (form : AnswerForm) (contents : Contents) (tree : Tree)
    (text : List ℕ)
    : Type 0 where
  -- indexes
  pub indexed : Indexed
  -- they are indexes of the release
  pub of_release : IsIndexOf indexed contents.release
  -- the plan whose bound is compared explains the constraint
  pub explained : Explains contents tree (plan_text indexed (least_plan indexed tree))
  -- the text is the answer in the form, or states the bound if the bound is above the limit
  pub written : text ≡ unless_above limit (told_bound indexed tree)
      (constraint_answer_in form contents tree)

-- `text` answers a query line under a limit, in a form: it answers the line's constraint, or is the
-- line's refusal
abbrev pub IsAnswerWithin : ℕ → AnswerForm → Contents → List ℕ → List ℕ → Type 0
IsAnswerWithin limit form contents line text =
    IsForLine (AnswersWithin limit form contents) line text

-- the counts of visits before (`early`) and after (`late`) a constraint is answered under a limit:
-- none are added if the plan's bound is above the limit; otherwise at least the plan's floor and at
-- most its bound
pub record ReadsWithin (limit : ℕ) (indexed : Indexed) (tree : Tree) (early late : ℕ) : Type 0 where
  -- if the bound is above the limit, no visit is counted
  pub refused : limit < told_bound indexed tree → late ≡ early
  -- the visits counted are at most the bound of the plan
  pub within : late ≤ early + bound indexed (least_plan indexed tree)
  -- if the bound is not above the limit, the visits counted are at least the floor of the plan
  -- (unless the count has reached its greatest number)
  pub floor_is_read : told_bound indexed tree ≤ limit
      → min (early + floor indexed (least_plan indexed tree)) (2 ^ 64 - 1) ≤ late

-- `text` answers a constraint under a limit, and the visits counted are those of the plan whose
-- bound was compared with the limit
pub record AnswersCounted (limit : ℕ) (form : AnswerForm) (contents : Contents) (tree : Tree)
    (early late : ℕ)
    (text : List ℕ) : Type 0 where
  -- the text answers the constraint under the limit
  pub answers : AnswersWithin limit form contents tree text
  -- the visits counted are those of the plan, over the same indexes
  pub reads : ReadsWithin limit answers.indexed tree early late

-- `text` answers a query line under a limit, with the counts of visits before and after; a line
-- that is refused visits nothing
abbrev pub IsAnswerCounted : ℕ → AnswerForm → Contents → List ℕ → ℕ → ℕ → List ℕ → Type 0
IsAnswerCounted limit form contents line early late text =
    ((tree : Tree) × IsConstraint line tree
    × AnswersCounted limit form contents tree early late text)
    ⊎ ((fault : QueryFault) × IsRefusalOf line fault × (text ≡ refusal_text fault) × (late ≡ early))
