-- The plan that a caller asks for by rewriting steps and choices, and its visits.
use Rattle.std.specs.Prelude.{◌≡◌, ◌≤◌, ◌+◌, ◌-◌, ◌^◌, List, min}
use Rattle.constraint_tree.specs.Tree.{Tree}
use Rattle.set_algebra.specs.Lowering.{lowered}
use Rattle.set_algebra.specs.Physical.{Physical, logical}
use Rattle.set_algebra.specs.Plan.{Plan}
use Rattle.set_algebra.specs.declared.choice.Choice.{Choice}
use Rattle.rewrites.specs.Steps.{all_applied}
use Rattle.rewrites.specs.declared.rule.Step.{Step}
use Rattle.reading.specs.declared.counter.Visits.{Visits}
use Rattle.postings.specs.Indexed.{Indexed}
use Rattle.plan_bounds.specs.Bounds.{bound}
use Rattle.plan_bounds.specs.Floors.{floor}
use Rattle.plan_bounds.specs.Leaves.{choices_in}
use Rattle.planner.specs.Asked.{choices_with}

-- the plan of a constraint after rewriting steps; a step that does not apply is skipped
abbrev pub plan_after : List Step → Tree → Plan
plan_after steps tree = (all_applied steps (lowered tree) 0).0

-- the visits of the plan after `steps`, with the asked choices that its leaves offer, are at least
-- its floor and at most its bound
pub record ReadsAsked (indexed : Indexed) (steps : List Step) (choices : List Choice) (tree : Tree)
    (early late : Visits) : Type 0 where
  -- the plan with its choices
  pub physical : Physical
  -- without its choices it is the constraint's plan after the steps
  pub plan : logical physical ≡ plan_after steps tree
  -- its choices are those of `choices` that its leaves offer
  pub choices_are : choices_in physical ≡ choices_with indexed choices (plan_after steps tree)
  -- the visits are at most the bound of the plan
  pub within : late.count ≤ early.count + bound indexed physical
  -- the visits are at least the floor of the plan
  pub floor_is_read : min (early.count + floor indexed physical) (2 ^ 64 - 1) ≤ late.count
