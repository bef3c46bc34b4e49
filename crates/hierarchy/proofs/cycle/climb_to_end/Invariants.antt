use Rattle.hierarchy.specs.inside.Search.{MarksReached, unmarked_count}
use Rattle.hierarchy.proofs.cycle.climb_to_end.Given as goal

-- only reached concepts are marked
abbrev pub invariant-loop : goal.invariant-loop
invariant-loop l = MarksReached l.rows l.start l.initial.reached → MarksReached l.rows l.start l.reached

-- the number of unmarked concepts gets less
abbrev pub decreases-loop : goal.decreases-loop
decreases-loop l = unmarked_count l.reached
