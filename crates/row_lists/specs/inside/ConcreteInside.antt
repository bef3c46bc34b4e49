-- The values that the fields of a `ConcreteValues` hold, and the invariant of these fields.
use Rattle.std.specs.Prelude.{ℕ, ⊤, List, All, map}
use Rattle.row_lists.specs.ConcreteValues.{Concrete, a_number, a_text}
use Rattle.row_lists.specs.Spans.{IsSpanOf, text_at}
use Rattle.row_lists.specs.declared.concrete_values.KeptConcrete.{KeptConcrete}
use Rattle.row_lists.specs.declared.concrete_values.KeptConcrete.TheVariants.{Decimal, Other}
use Rattle.row_lists.specs.declared.concrete_values.ConcreteValues.TheInside.{Inside}

-- the value that a stored value means: a number, or the text at a span of the buffer
abbrev pub concrete_in : List ℕ → KeptConcrete → Concrete
concrete_in texts (Decimal decimal) = a_number decimal.0
concrete_in texts (Other span) = a_text (text_at texts span)

-- the values that `inside` holds
abbrev pub concrete_in_all : Inside → List Concrete
concrete_in_all inside = map (concrete_in inside.texts.items) inside.values.items

-- the span of a stored value, if it is not a number, lies within the buffer
abbrev pub IsPlaced : List ℕ → KeptConcrete → Type 0
IsPlaced texts (Decimal decimal) = ⊤
IsPlaced texts (Other span) = IsSpanOf texts span

-- the span of each value that is not a number lies within the buffer
abbrev pub AreConcretePlaced : Inside → Type 0
AreConcretePlaced inside = All (IsPlaced inside.texts.items) inside.values.items
