use Rattle.rewrites.proofs.parts.minus_from_and.Goals as goal

-- `minus_from_and` returns the `And` of concepts of `from` and `rest`, without `without`
pub returns : goal.returns
returns c = c.minus.ensures _ _ (c.in_box-kept.ensures _ c.and_first.ensures) c.boxed.ensures
