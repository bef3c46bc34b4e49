use Rattle.std.proofs.Common.{length, arith}
use Rattle.executor.proofs.OrderLemmas.{places_all, places_more}
use Rattle.executor.proofs.estimates.concept_order.Goals as goal

-- a turn appends its place next to the estimate of the part there
pub loop-place-preserved : goal.loop-place-preserved
loop-place-preserved c =
    places_more c.loop-place.order.items _ c.concept_key-key.result c.loop-place.place c.loop-place.invariant
    c.in_ok-push.ensures.items

-- sorting moves the places, and drops none
pub returns : goal.returns
returns c =
    places_all c.loop-place.order.items c.sort_unstable.new.self.items c.loop-place.place (length c.args.parts.now)
    c.loop-place.invariant (omega arith) c.sort_unstable.ensures.permutation
