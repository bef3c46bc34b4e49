-- Steps of rewriting, one after another. A step is skipped if its rule makes no plan, or one that
-- is deeper than 1,024. The other steps are counted.
use Rattle.std.specs.Prelude.{ℕ, ◌+◌, nat_le, Option, Some, None, is_some, unwrap_or, if◌then◌else◌, List, [], ◌∷◌}
use Rattle.set_algebra.specs.Depth.{plan_depth}
use Rattle.set_algebra.specs.Plan.{Plan}
use Rattle.set_algebra.specs.Places.{Node, concept_node, group_node}
use Rattle.rewrites.specs.declared.rule.Step.{Step}
use Rattle.rewrites.specs.Counts.{only_if}
use Rattle.rewrites.specs.RulesAtPlaces.{rewritten_at}

-- the plan of concepts that a node is if it is at most 1,024 deep, or `None` otherwise
abbrev pub if_shallow : Option Node → Option Plan
if_shallow None = None
if_shallow (Some (concept_node new)) = only_if (nat_le (plan_depth new) 1024) new
if_shallow (Some (group_node new)) = None

-- the plan that a step makes of `plan`, or `None` if the step is skipped
abbrev pub applied : Step → Plan → Option Plan
applied step plan = if_shallow (rewritten_at step.rule step.place.now (concept_node plan))

-- the plan after all steps, and `count` plus the number of steps that were applied
abbrev pub all_applied : List Step → Plan → ℕ → Plan × ℕ
all_applied [] plan count = (plan, count)
all_applied (step ∷ steps) plan count =
    all_applied steps (unwrap_or (applied step plan) plan)
    (count + (if is_some (applied step plan) then 1 else 0))
