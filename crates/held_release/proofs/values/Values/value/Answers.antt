use Rattle.std.proofs.Common.{ℕ, ◌+◌, ◌-◌, ◌≡◌, ◌<◌, ◌∙◌, [], length, get_or, sym, ap, arith}
use Rattle.release_model.specs.Release.{text_value}
use Rattle.held_release.specs.CodedRows.{value_at}
use Rattle.held_release.proofs.ValueLemmas.{text_after, values_after}
use Rattle.held_release.proofs.values.Values.value.Goals as goal

-- the text at a place after the decimals is the value there
pub returns : goal.returns
returns c =
    let decimals = c.args.self.now.decimals.items in
    let texts = c.args.self.now.texts in
    let k = c.args.place - length decimals in
    let long : length c.as_slice-decimals.result.now ≡ length decimals = ap length c.as_slice-decimals.ensures.value in
    let at : length decimals + k ≡ c.args.place = omega (arith, long, c.if-place-decimals.false) in
    let below : k < length texts = omega (arith, at, c.requires) in
    ap text_value (c.of.ensures ∙ ap (λ (n : ℕ). get_or texts (c.args.place - n) []) long)
    ∙ sym (text_after decimals texts k (text_value []) below)
    ∙ ap (value_at (values_after decimals texts)) at
