use Rattle.std.proofs.Common.{◌∙◌, ap, append-nil, filter, refl, sym, take_all}
use Rattle.number_lists.specs.Members.{has}
use Rattle.release_rows.proofs.NeighbourLemmas.{filter_more}
use Rattle.release_rows.proofs.repeated.keys_among.Goals as goal
use Rattle.release_rows.proofs.repeated.keys_among.Goals.{then-has+in_ok-push, else-has}

-- a key is added if it is one of `others`
pub loop-key-preserved : goal.loop-key-preserved
loop-key-preserved c =
    let more = filter_more (has c.args.others) c.args.keys.now c.loop-key.key-index c.loop-key-test.true in
    let others = c.loop-key.invariant.others in
    let told = sym c.has.ensures.has in
    record {
      others = c.has.ensures.same ∙ others;
      among = elim c.if-has.branch [
        | then-has+in_ok-push w ↦
            rw (w.among-is, w.in_ok-push.ensures.items, c.loop-key.invariant.among, more, ← others, told, w.if-has.true)
            refl
        | else-has w ↦
            rw (w.among-is, c.loop-key.invariant.among, more, ← others, told, w.if-has.false, append-nil) refl
      ];
    }

-- after the last key the list has the keys that are in `others`
pub returns : goal.returns
returns c = c.loop-key.invariant.among
    ∙ ap (filter (has c.args.others)) (take_all c.loop-key.key-index c.args.keys.now c.loop-key-test.false)
