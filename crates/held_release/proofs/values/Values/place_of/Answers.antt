use Rattle.std.proofs.Common.{ℕ, ◌≡◌, ◌+◌, ◌∙◌, Some, ap, arith, length, sym}
use Rattle.std.specs.List.{slice_get}
use Rattle.row_lists.specs.ConcreteValues.{concrete_lent, concrete_value}
use Rattle.row_lists.specs.declared.concrete_values.LentConcrete.{LentConcrete}
use Rattle.held_release.proofs.ValueLemmas.{text_placed, values_after}
use Rattle.held_release.proofs.values.Values.place_of.Goals as goal

-- the place of a text is counted after the decimals
pub returns-in-Other : goal.returns-in-Other
returns-in-Other c =
    let decimals = c.args.self.now.decimals.items in
    let texts = c.args.self.now.texts in
    let long : c.len.result ≡ length decimals = omega (arith, c.len.ensures) in
    ap (λ (n : ℕ). slice_get (values_after decimals texts) (n + c.place_of-in-Other.result)) long
    ∙ text_placed decimals texts c.in-Other.text.now c.place_of-in-Other.result c.place_of-in-Other.ensures
    ∙ ap (λ (value : LentConcrete). Some (concrete_value (concrete_lent value))) (sym c.in-Other.is)
