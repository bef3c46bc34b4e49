use Rattle.hierarchy.specs.inside.Released.{AreRoots}
use Rattle.hierarchy.proofs.order.roots.Given as goal

-- the roots so far are the concepts below `concept` that wait for no parent
abbrev pub invariant-loop-concept : goal.invariant-loop-concept
invariant-loop-concept l = AreRoots l.concept l.waiting l.roots.items
