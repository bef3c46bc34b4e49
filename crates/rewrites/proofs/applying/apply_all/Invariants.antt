use Rattle.std.proofs.Common.{ℕ, ◌≡◌, ◌≤◌, drop}
use Rattle.release_model.specs.Release.{Release}
use Rattle.set_algebra.specs.Meaning.{means}
use Rattle.set_algebra.specs.Plan.{plan_of}
use Rattle.rewrites.specs.Steps.{all_applied}
use Rattle.rewrites.proofs.applying.apply_all.Given as goal

-- the rest of the steps makes of the plan so far what all steps make of the first plan, which means the same; at most
-- one step is used in each turn
abbrev pub invariant-loop-step : goal.invariant-loop-step
invariant-loop-step l = record {
  steps :
      all_applied (drop l.step-index l.steps) (plan_of l.plan) l.used ≡ all_applied l.steps (plan_of l.initial.plan) 0;
  meaning : (release : Release) (concept : ℕ)
      → means release (plan_of l.initial.plan) concept ≡ means release (plan_of l.plan) concept;
  few : l.used ≤ l.step-index;
}
