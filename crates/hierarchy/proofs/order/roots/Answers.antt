use Rattle.std.proofs.Common.{ℕ, subst, arith}
use Rattle.hierarchy.specs.inside.Released.{AreRoots}
use Rattle.hierarchy.proofs.OrderLemmas.{roots_none, roots_one, roots_other}
use Rattle.hierarchy.proofs.order.roots.Goals as goal
use Rattle.hierarchy.proofs.order.roots.Goals.{then-left-eq0+in_ok-push, else-left-eq0}

-- before the first concept there is no root
pub loop-concept-init : goal.loop-concept-init
loop-concept-init c = rw c.in_ok-roots.ensures.items (roots_none c.args.waiting.now)

-- a concept is added exactly if it waits for no parent
pub loop-concept-preserved : goal.loop-concept-preserved
loop-concept-preserved c = elim c.if-left-eq0.branch [
  | then-left-eq0+in_ok-push w ↦
      rw (w.roots-is, w.in_ok-push.ensures.items)
      (roots_one c.loop-concept.concept c.args.waiting.now c.loop-concept.roots.items c.loop-concept.invariant
      w.if-left-eq0.true)
  | else-left-eq0 w ↦ rw w.roots-is (roots_other c.loop-concept.concept c.args.waiting.now c.loop-concept.roots.items
      c.loop-concept.invariant w.if-left-eq0.false)
]

-- after the last concept all roots are found
pub returns : goal.returns
returns c = subst (λ (n : ℕ). AreRoots n c.args.waiting.now c.loop-concept.roots.items) (omega arith)
    c.loop-concept.invariant
