-- The three results of a query line under a limit on the visits of its plan: a refusal, a bound
-- above the limit, or concepts.
use Rattle.std.specs.Prelude.{ℕ, ◌≡◌, ◌+◌, ◌-◌, ◌^◌, ◌<◌, ◌≤◌, List, map, min, slice_index}
use Rattle.ecl_lexer.specs.declared.fault.QueryFault.{QueryFault}
use Rattle.constraint_tree.specs.Denotation.{denotation}
use Rattle.constraint_tree.specs.Tree.{Tree}
use Rattle.held_release.specs.Contents.{Contents}
use Rattle.held_release.specs.Name.{name_of}
use Rattle.postings.specs.Indexed.{Indexed}
use Rattle.plan_bounds.specs.Bounds.{bound}
use Rattle.plan_bounds.specs.Floors.{floor}
use Rattle.answer_printer.specs.AnswerText.{answer_in, bound_refusal, refusal_text}
use Rattle.answer_printer.specs.PlanText.{plan_text}
use Rattle.answer_printer.specs.declared.form.AnswerForm.{AnswerForm}
use Rattle.query_service.specs.Explanation.{Explains}
use Rattle.query_service.specs.LimitedAnswer.{least_plan, told_bound}
use Rattle.query_tool.specs.declared.finding.LineFound.{LineFound}
use Rattle.query_tool.specs.declared.finding.LineFound.TheVariants.{Refused, Above, Concepts}

-- the one of three statements that belongs to the result of a query line
abbrev pub MatchFound : {S : Type 0} → LineFound S → (QueryFault → Type 0) → (ℕ → Type 0)
    → (S → Type 0)
    → Type 0
MatchFound (Refused fault) refused above concepts = refused fault
MatchFound (Above most) refused above concepts = above most
MatchFound (Concepts set) refused above concepts = concepts set

-- the bound `most` of the constraint's plan is above the limit, and nothing was visited
pub record IsAbove (limit : ℕ) (contents : Contents) (indexed : Indexed) (tree : Tree)
    (early late most : ℕ)
    : Type 0 where
  -- the plan explains the constraint
  pub explained : Explains contents tree (plan_text indexed (least_plan indexed tree))
  -- `most` is the bound of the plan
  pub most_is : most ≡ told_bound indexed tree
  -- `most` is above the limit
  pub above : limit < most
  -- nothing was visited
  pub unread : late ≡ early

-- the bound of the constraint's plan is not above the limit, and the plan found the concepts
-- `numbers`, with visits between its floor and its bound
pub record AreFound (limit : ℕ) (contents : Contents) (indexed : Indexed) (tree : Tree)
    (early late : ℕ)
    (numbers : List ℕ) : Type 0 where
  -- the plan explains the constraint
  pub explained : Explains contents tree (plan_text indexed (least_plan indexed tree))
  -- the bound of the plan is not above the limit
  pub not_above : told_bound indexed tree ≤ limit
  -- the numbers are those of the concepts that the constraint denotes
  pub concepts : map (slice_index contents.release.concepts) numbers
      ≡ denotation contents.release tree
  -- the visits are at most the bound of the plan
  pub within : late ≤ early + bound indexed (least_plan indexed tree)
  -- the visits are at least the floor of the plan
  pub floor_is_read : min (early + floor indexed (least_plan indexed tree)) (2 ^ 64 - 1) ≤ late

-- the text for the result of a query line, in a form; `items` gives the concept numbers of a set
abbrev pub found_text : {S : Type 0} → (S → List ℕ) → AnswerForm → Contents → LineFound S → List ℕ
found_text items form contents (Refused fault) = refusal_text fault
found_text items form contents (Above most) = bound_refusal most
found_text items form contents (Concepts set) =
    answer_in form (name_of contents.release contents.language)
    (map (slice_index contents.release.concepts) (items set))
