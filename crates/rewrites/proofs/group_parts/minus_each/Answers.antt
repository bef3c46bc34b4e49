use Rattle.rewrites.proofs.group_parts.minus_each.Goals as goal

-- `minus_each` returns the difference of groups of `from` without `first`, without the `Or` of `rest`
pub returns : goal.returns
returns c =
    c.minus_group_plan.ensures _ _
    (c.group_in_box.ensures _ (c.minus_group_plan-kept.ensures _ _ c.boxed_group.ensures c.boxed_group-2.ensures))
    (c.group_in_box-2.ensures _ c.or_of_copies.ensures)
