use Rattle.rewrites.proofs.parts.minus_each.Goals as goal

-- `minus_each` returns the difference of concepts of `from` without `first`, without the `Or` of `rest`
pub returns : goal.returns
returns c =
    c.minus.ensures _ _ (c.in_box.ensures _ (c.minus-kept.ensures _ _ c.boxed.ensures c.boxed-2.ensures))
    (c.in_box-2.ensures _ c.or_of_copies.ensures)
