use Rattle.std.proofs.Common.{get_or, arith}
use Rattle.ancestor_index.proofs.ListLemmas.{places_step}
use Rattle.ancestor_index.proofs.closure.places_in.Goals as goal

-- storing the place of one concept more keeps the places of those before it
pub loop-place-preserved : goal.loop-place-preserved
loop-place-preserved c =
    let concept = get_or c.args.order.now c.loop-place.place 0 in
    record {
      len = c.loop-place.invariant.len;
      places = places_step c.args.order.now c.loop-place.places.items c.loop-place.place c.requires.once
          c.loop-place-test.true
          (omega (arith, c.requires.below c.loop-place.place 0 c.loop-place-test.true, c.loop-place.invariant.len))
          c.loop-place.invariant.places;
    }
