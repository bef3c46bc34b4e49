-- The meaning of the attribute rows that a load keeps.
use Rattle.std.specs.Prelude.{◌<◌, ⊤, List, length, slice_index_or}
use Rattle.release_model.specs.Release.{Attribute, Value, concept_value}
use Rattle.row_lists.specs.ConcreteValues.{Concrete, concrete_value, no_text}
use Rattle.row_lists.specs.declared.attributes.KeptRow.{KeptRow}
use Rattle.row_lists.specs.declared.attributes.KeptValue.{KeptValue}
use Rattle.row_lists.specs.declared.attributes.KeptValue.TheVariants.{Concept, Concrete as ConcreteAt}

-- the value that a kept value means: a concept, or the value at an index of `values`
abbrev pub value_kept : List Concrete → KeptValue → Value
value_kept values (Concept concept) = concept_value concept
value_kept values (ConcreteAt place) = concrete_value (slice_index_or values place no_text)

-- the attribute that a kept row means
abbrev pub attribute_kept : List Concrete → KeptRow → Attribute
attribute_kept values row = record {
  source = row.source;
  type_id = row.type_id;
  group = row.group;
  value = value_kept values row.value;
}

-- a kept value that is not a concept has an index within `values`
abbrev pub IsValueIn : List Concrete → KeptValue → Type 0
IsValueIn values (Concept concept) = ⊤
IsValueIn values (ConcreteAt place) = place < length values

-- the value of a kept row, if it is not a concept, has an index within `values`
abbrev pub IsKeptIn : List Concrete → KeptRow → Type 0
IsKeptIn values row = IsValueIn values row.value
