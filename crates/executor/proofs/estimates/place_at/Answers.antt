use Rattle.std.proofs.Common.{refl}
use Rattle.executor.proofs.OrderLemmas.{is_place}
use Rattle.executor.proofs.estimates.place_at.Goals as goal

-- what stands in the order at `turn` is the place of a part
pub returns-clause-at : goal.returns-clause-at
returns-clause-at c = record {
  within = c.requires.turn;
  is = refl;
  inside = is_place c.args.count c.args.order.now c.requires.order c.args.turn c.requires.turn;
}

-- each place of an order is the place of a part
pub returns-clause-inside : goal.returns-clause-inside
returns-clause-inside c = is_place c.args.count c.args.order.now c.requires.order c.args.turn c.requires.turn
