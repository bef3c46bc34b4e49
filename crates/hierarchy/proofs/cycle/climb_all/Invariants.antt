use Rattle.std.proofs.Common.{◌≤◌, ◌<◌, ℕ, slice_index_or}
use Rattle.std.specs.Bool.{OnFalse, OnTrue}
use Rattle.hierarchy.specs.inside.Search.{IsFollowed, MarksReached, unmarked_count}
use Rattle.hierarchy.proofs.cycle.climb_all.Given as goal

-- only reached concepts are marked; if nothing new was found, the rows so far are followed
abbrev pub invariant-loop-row : goal.invariant-loop-row
invariant-loop-row l =
    (MarksReached l.rows l.start l.initial.reached → MarksReached l.rows l.start l.reached)
    × (unmarked_count l.reached ≤ unmarked_count l.initial.reached)
    × OnTrue l.found (unmarked_count l.reached < unmarked_count l.initial.reached)
    × OnFalse l.found ((k : ℕ) → k < l.row-index → (d : ℕ × ℕ)
    → IsFollowed l.start l.reached (slice_index_or l.rows k d))
