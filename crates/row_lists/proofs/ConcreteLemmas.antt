-- Stored values that are not concepts keep their meaning if texts are appended to the buffer.
use Rattle.std.proofs.Common.{ℕ, ◌≡◌, List, ap, refl}
use Rattle.row_lists.specs.inside.ConcreteInside.{IsPlaced, concrete_in}
use Rattle.row_lists.specs.ConcreteValues.{a_text}
use Rattle.row_lists.specs.Spans.{Extends}
use Rattle.row_lists.specs.declared.concrete_values.KeptConcrete.{KeptConcrete}
use Rattle.row_lists.specs.declared.concrete_values.KeptConcrete.TheVariants.{Decimal, Other}
use Rattle.row_lists.proofs.SpanLemmas.{span-extends, text-extends}

module _ (texts grown : List ℕ) (extends : Extends texts grown) where
  -- a text that stands within the buffer stays within if the buffer grows
  pub placed-extends : (value : KeptConcrete) → IsPlaced texts value → IsPlaced grown value
  placed-extends (Decimal decimal) placed = tt
  placed-extends (Other span) placed = span-extends texts grown extends span placed

  -- a kept value stands for one value before and after the buffer grows
  pub concrete-extends : (value : KeptConcrete) → IsPlaced texts value
      → concrete_in grown value ≡ concrete_in texts value
  concrete-extends (Decimal decimal) placed = refl
  concrete-extends (Other span) placed = ap a_text (text-extends texts grown extends span placed)
