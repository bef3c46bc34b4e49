use Rattle.std.proofs.Common.{ℕ, List, length, ap, arith}
use Rattle.number_lists.specs.KeyedLists.{transposed_from}
use Rattle.number_lists.proofs.KeyedLemmas.{length-lists_by}
use Rattle.hierarchy.proofs.WayLemmas.{parents_below}
use Rattle.hierarchy.proofs.components.component_ranks.Goals as goal

-- the parents are below `count`
pub transposed-requires-clause-items : goal.transposed-requires-clause-items
transposed-requires-clause-items c =
    parents_below c.args.count c.args.rows.now c.in_ok-up.up c.requires.within c.in_ok-up.ensures

-- there are fewer than 2^32 lists of parents
pub transposed-requires-clause-few : goal.transposed-requires-clause-few
transposed-requires-clause-few c =
    omega (
      arith,
      ap (λ (xs : List (List ℕ)). length xs) c.in_ok-up.ensures,
      length-lists_by c.args.count c.args.rows.now,
      c.ranges.count.fits,
    )

-- there are fewer than 2^32 lists for the search upwards
pub finish_order-requires : goal.finish_order-requires
finish_order-requires c =
    omega (
      arith,
      ap (λ (xs : List (List ℕ)). length xs) c.in_ok-up.ensures,
      length-lists_by c.args.count c.args.rows.now,
      c.ranges.count.fits,
    )

-- there are fewer than 2^32 lists of children
pub ranks_after-requires : goal.ranks_after-requires
ranks_after-requires c = omega (
  arith,
  ap (λ (xs : List (List ℕ)). length xs) c.in_ok-down.ensures,
  length-lists_by c.args.count (transposed_from 0 c.in_ok-up.up),
  c.ranges.count.fits,
)
