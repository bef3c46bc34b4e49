use Rattle.rewrites.proofs.group_parts.minus_from_and.Goals as goal

-- `minus_from_and` returns the `And` of groups of `from` and `rest`, without `without`
pub returns : goal.returns
returns c = c.minus_group_plan.ensures _ _ (c.group_in_box-kept.ensures _ c.and_first.ensures) c.boxed_group.ensures
