use Rattle.std.proofs.Common.{ℕ, ◌∙◌, List, ap, arith, length}
use Rattle.release_rows.specs.inside.Repeated.{equal_neighbours}
use Rattle.number_lists.specs.Members.{times}
use Rattle.release_rows.proofs.NeighbourLemmas.{neighbours_few, times_again}
use Rattle.release_rows.proofs.repeated.sorted_neighbours.Goals as goal

-- each key occurs once less among the equal neighbours of the sorted list than in the list
pub returns-clause-times : goal.returns-clause-times
returns-clause-times c = λ key.
    ap (times key) (c.in_ok-again.ensures ∙ ap equal_neighbours c.as_slice.ensures.value)
    ∙ times_again c.args.keys.items c.sort_unstable.new.self.items c.sort_unstable.ensures.permutation
    c.sort_unstable.ensures.sorted key

-- the equal neighbours are no more than the keys
pub returns-clause-few : goal.returns-clause-few
returns-clause-few c =
    omega (
      arith,
      ap (λ (keys : List ℕ). length keys) c.in_ok-again.ensures,
      neighbours_few c.as_slice.result.now,
      c.as_slice.ensures.len,
      c.sort_unstable.ensures.len,
    )
