-- Stored attribute rows keep their meaning if values are appended to the list of values that are not concepts.
use Rattle.std.proofs.Common.{arith, ◌≡◌, ◌∙◌, List, ap, get_or, length, length-append, refl}
use Rattle.row_lists.specs.KeptRows.{IsValueIn, attribute_kept, value_kept}
use Rattle.row_lists.specs.ConcreteValues.{Concrete, concrete_value, no_text}
use Rattle.row_lists.specs.Spans.{Extends}
use Rattle.std.proofs.lemmas.List.{get_or_append_left}
use Rattle.row_lists.specs.declared.attributes.KeptRow.{KeptRow}
use Rattle.row_lists.specs.declared.attributes.KeptValue.{KeptValue}
use Rattle.row_lists.specs.declared.attributes.KeptValue.TheVariants.{Concept, Concrete as ConcreteAt}

module _ (values grown : List Concrete) (extends : Extends values grown) where
  -- a value whose index is within the values stays within if more are added
  pub within-extends : (value : KeptValue) → IsValueIn values value → IsValueIn grown value
  within-extends (Concept concept) within = tt
  within-extends (ConcreteAt place) within =
      omega (arith, within, ap (λ (xs : List Concrete). length xs) extends.1, length-append values extends.0)

  -- a kept value stands for one value before and after more values are added
  value-extends : (value : KeptValue) → IsValueIn values value → value_kept grown value ≡ value_kept values value
  value-extends (Concept concept) within = refl
  value-extends (ConcreteAt place) within =
      (λ i. concrete_value (get_or (extends.1 i) place no_text))
      ∙ (λ i. concrete_value (get_or_append_left values extends.0 no_text place within i))

  -- a kept row stands for one attribute before and after more values are added
  pub attribute-extends : (row : KeptRow) → IsValueIn values row.value
      → attribute_kept grown row ≡ attribute_kept values row
  attribute-extends row within = λ i. record {
    source = row.source;
    type_id = row.type_id;
    group = row.group;
    value = value-extends row.value within i;
  }
