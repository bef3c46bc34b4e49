use Rattle.std.proofs.Common.{◌++◌, ◌∷◌, [], ◌∙◌, get_or, arith, ap, append_assoc, List, ℕ, subst, take_all}
use Rattle.std.proofs.lemmas.List.{get_or_read}
use Rattle.hierarchy.specs.inside.Released.{IsReleased}
use Rattle.hierarchy.proofs.ReleaseLemmas.{release_next, still_waits}
use Rattle.hierarchy.proofs.order.release.Goals as goal
use Rattle.hierarchy.proofs.order.release.Goals.{then-left-eq0+in_ok-push, else-left-eq0}

-- one child more is released
pub loop-child-preserved : goal.loop-child-preserved
loop-child-preserved c =
    let child = get_or c.args.children.now c.loop-child.child-index 0 in
    let added = c.loop-child.invariant.0 in
    let below = c.requires.within c.loop-child.child-index 0 c.loop-child-test.true in
    let next = release_next c.args.children.now c.loop-child.child-index c.loop-child-test.true
    (omega (arith, c.loop-child.invariant.2, below)) c.loop-child.invariant.2 c.requires.waits c.index.ensures in
    elim c.if-left-eq0.branch [
      | then-left-eq0+in_ok-push w ↦
          rw w.order-is (
            added ++ child ∷ [],
            w.in_ok-push.ensures.items
                ∙ ap (λ xs. xs ++ child ∷ []) c.loop-child.invariant.1 ∙ append_assoc _ added (child ∷ []),
            next.0 w.if-left-eq0.true,
          )
      | else-left-eq0 w ↦ rw w.order-is (added, c.loop-child.invariant.1, next.1 w.if-left-eq0.false)
    ]

-- after the last child all children are released
pub returns : goal.returns
returns c =
    let waiting = c.loop-child.waiting.items in
    let added = c.loop-child.invariant.0 in
    let all = take_all c.loop-child.child-index c.args.children.now c.loop-child-test.false in (
      added,
      c.loop-child.invariant.1,
      subst (λ (children : List ℕ). IsReleased children c.args.waiting.now.items waiting added)
          all c.loop-child.invariant.2,
    )

-- the next child waits for at least one parent, so the subtraction does not underflow
pub overflow_sub-left : goal.overflow_sub-left
overflow_sub-left c =
    let children = c.args.children.now in
    let i = c.loop-child.child-index in
    let waiting = c.loop-child.waiting.items in
    let within = c.loop-child-test.true in
    let released = c.loop-child.invariant.2 in
    let below = c.requires.within i 0 within in
    omega (
      arith,
      still_waits children _ waiting c.loop-child.invariant.0 i within released c.requires.waits,
      get_or_read waiting (get_or children i 0) c.index.result.now (omega (arith, released, below)) c.index.ensures 0,
    )
