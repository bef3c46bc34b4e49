use Rattle.std.proofs.Common.{◌∙◌, ap, append-nil, refl, nat_lt, filter, take_all}
use Rattle.std.proofs.lemmas.Bool.{le-ltb, lt-ltb}
use Rattle.release_rows.proofs.NeighbourLemmas.{filter_more}
use Rattle.release_rows.proofs.repeated.keys_below.Goals as goal
use Rattle.release_rows.proofs.repeated.keys_below.Goals.{then-key-bound+in_ok-push, else-key-bound}

-- a key is added if it is below the bound
pub loop-key-preserved : goal.loop-key-preserved
loop-key-preserved c =
    let more = filter_more (λ key. nat_lt key c.args.bound) c.args.keys.now c.loop-key.key-index c.loop-key-test.true in
    elim c.if-key-bound.branch [
      | then-key-bound+in_ok-push w ↦
          rw (w.below-is, w.in_ok-push.ensures.items, c.loop-key.invariant, more, lt-ltb _ _ w.if-key-bound.true) refl
      | else-key-bound w ↦ rw (w.below-is, c.loop-key.invariant, more, le-ltb _ _ w.if-key-bound.false, append-nil) refl
    ]

-- after the last key the list has all keys below the bound
pub returns : goal.returns
returns c = c.loop-key.invariant
    ∙ ap (filter (λ key. nat_lt key c.args.bound)) (take_all c.loop-key.key-index c.args.keys.now c.loop-key-test.false)
