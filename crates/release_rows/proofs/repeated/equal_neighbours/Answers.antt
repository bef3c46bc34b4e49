use Rattle.std.proofs.Common.{◌∙◌, ap, append-nil, eq-eqb, refl}
use Rattle.std.proofs.lemmas.Bool.{ne_eqb}
use Rattle.std.proofs.lemmas.List.{take_all}
use Rattle.release_rows.specs.inside.Repeated.{equal_neighbours}
use Rattle.release_rows.proofs.NeighbourLemmas.{neighbours_more}
use Rattle.release_rows.proofs.repeated.equal_neighbours.Goals as goal
use Rattle.release_rows.proofs.repeated.equal_neighbours.Goals.{then-sorted-place+in_ok-push, else-sorted-place}

-- a number is added to the equal neighbours if it equals the one before it
pub loop-place-preserved : goal.loop-place-preserved
loop-place-preserved c =
    let more = neighbours_more c.args.sorted.now c.loop-place.place c.loop-place.auto.place c.loop-place-test.true in
    let before = c.loop-place.invariant in
    elim c.if-sorted-place.branch [
      | then-sorted-place+in_ok-push w ↦
          rw (w.repeated-is, w.in_ok-push.ensures.items, before, more, eq-eqb _ _ w.if-sorted-place.true) refl
      | else-sorted-place w ↦
          rw (w.repeated-is, before, more, ne_eqb _ _ w.if-sorted-place.false, append-nil) refl
    ]

-- after the last number the list has the equal neighbours of all numbers
pub returns : goal.returns
returns c = c.loop-place.invariant
    ∙ ap equal_neighbours (take_all c.loop-place.place c.args.sorted.now c.loop-place-test.false)
