use Rattle.hierarchy.specs.inside.Search.{MarksReached}
use Rattle.hierarchy.proofs.cycle.climb_in.Given as goal

-- only reached concepts are marked
abbrev pub invariant-loop-place : goal.invariant-loop-place
invariant-loop-place l =
    MarksReached l.rows l.start l.initial.reached → MarksReached l.rows l.start l.reached
