use Rattle.std.proofs.Common.{arith}
use Rattle.std.proofs.lemmas.Grind.{common_steps}
use Rattle.std.proofs.lemmas.List.Elements.{All-weaker}
use Rattle.row_lists.specs.KeptRows.{IsKeptIn, attribute_kept}
use Rattle.row_lists.proofs.AttributeLemmas.{attribute-extends, within-extends}
use Rattle.row_lists.proofs.SpanLemmas.{all-push, rows-same}
use Rattle.row_lists.proofs.attributes.Attributes.push.Goals as goal

-- if the row cannot be added, the rows still have their values among the concrete values
pub invariant_of-self-in_err-push : goal.invariant_of-self-in_err-push
invariant_of-self-in_err-push c =
    rw c.in_err-push.ensures.items
    (All-weaker (IsKeptIn c.self.inside.concrete) (IsKeptIn c.keep_value.new.concrete)
    (λ row. within-extends _ _ c.in_ok-kept.ensures.grown row.value) c.self.inside.rows.items c.self.invariant)

-- after the row is added, all rows have their values among the concrete values
pub invariant_of-self-2 : goal.invariant_of-self-2
invariant_of-self-2 c = grind (
  arith,
  (all-push (IsKeptIn c.self.inside.concrete)
      (IsKeptIn c.keep_value.new.concrete)),
  within-extends,
  c.in_ok-kept.ensures.grown,
  c.in_ok-push.ensures.items,
  c.self.invariant,
  c.in_ok-kept.ensures.within,
)

-- after the row is added, its attribute comes last
pub returns : goal.returns
returns c =
    let kept = rows-same (attribute_kept c.self.inside.concrete) (attribute_kept c.keep_value.new.concrete)
    (IsKeptIn c.self.inside.concrete) (attribute-extends c.self.inside.concrete c.keep_value.new.concrete
    c.in_ok-kept.ensures.grown) in
    grind (arith, common_steps, kept, c.self.invariant, c.in_ok-push.ensures.items, c.in_ok-kept.ensures.value)

-- if the value cannot be kept, the rows still have their values among the concrete values
pub invariant_of-self : goal.invariant_of-self
invariant_of-self c = All-weaker (IsKeptIn c.self.inside.concrete) (IsKeptIn c.keep_value.new.concrete)
    (λ row. within-extends _ _ c.in_err-kept.ensures.grown row.value) c.self.inside.rows.items c.self.invariant
