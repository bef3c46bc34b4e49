use Rattle.std.proofs.Common.{◌+◌, ◌-◌, ◌/◌, arith}
use Rattle.std.proofs.lemmas.Grind.{common_steps}
use Rattle.held_release.proofs.NumberingLemmas.{number_at, number_nowhere}
use Rattle.number_lists.proofs.IncreasingLemmas.{not_falling}
use Rattle.held_release.proofs.concepts.number_between.Goals as goal

-- if the identifier in the middle is `id`, its number is the middle
pub returns-then-found-id : goal.returns-then-found-id
returns-then-found-id c =
    grind (
      arith,
      common_steps,
      (number_at c.args.ids.now c.requires.rising c.args.id (c.loop-low.low + (c.loop-low.high - c.loop-low.low) / 2)),
      c.loop-low-test.true,
      c.loop-low.invariant.within,
    )

-- if the identifier in the middle is less than `id`, all up to it are
pub loop-low-preserved-then-found-id-2 : goal.loop-low-preserved-then-found-id-2
loop-low-preserved-then-found-id-2 c =
    let middle = c.loop-low.low + (c.loop-low.high - c.loop-low.low) / 2 in record {
      within = c.loop-low.invariant.within;
      above = λ place before. grind (arith, common_steps, not_falling c.args.ids.now c.requires.rising place middle);
      below = c.loop-low.invariant.below;
    }

-- if the identifier in the middle is greater than `id`, all from it on are
pub loop-low-preserved : goal.loop-low-preserved
loop-low-preserved c =
    let middle = c.loop-low.low + (c.loop-low.high - c.loop-low.low) / 2 in record {
      within = omega (arith, c.loop-low-test.true, c.loop-low.invariant.within);
      above = c.loop-low.invariant.above;
      below = λ place following below. grind
          (arith, common_steps, not_falling c.args.ids.now c.requires.rising middle place);
    }

-- if no place is left between `low` and `high`, `id` has no number
pub returns : goal.returns
returns c = grind (
  arith,
  (number_nowhere c.args.ids.now c.requires.rising c.args.id c.loop-low.high c.loop-low.invariant.within),
  c.loop-low.invariant.above,
  c.loop-low.invariant.below,
  c.loop-low-test.false,
)
