-- Values of attributes that are not concepts.
use Rattle.std.specs.Prelude.{ℕ, ℤ, List, []}
use Rattle.release_model.specs.Release.{Value, number_value, text_value}
use Rattle.row_lists.specs.declared.concrete_values.LentConcrete.{LentConcrete}
use Rattle.row_lists.specs.declared.concrete_values.LentConcrete.TheVariants.{Decimal as LentDecimal}
use Rattle.row_lists.specs.declared.concrete_values.LentConcrete.TheVariants.{Other as LentOther}

-- a value that is not a concept: a number, in units of 10^-18, or another text
pub data Concrete : Type 0 where
  a_number : ℤ → Concrete
  a_text : List ℕ → Concrete

-- the default value for an index past the end of a list
abbrev pub no_text : Concrete
no_text = a_text []

-- a value that is not a concept, as a value of an attribute
abbrev pub concrete_value : Concrete → Value
concrete_value (a_number number) = number_value number
concrete_value (a_text text) = text_value text

-- the value that a `LentConcrete` of the program means
abbrev pub concrete_lent : LentConcrete → Concrete
concrete_lent (LentDecimal decimal) = a_number decimal.0
concrete_lent (LentOther text) = a_text text.now
