-- Which values pass the test of an attribute, and which counts lie in a cardinality (Expression
-- Constraint Language, "Refinements" and "Cardinality"). A set is given as the test whether a
-- concept is in it.
use Rattle.std.specs.Prelude.{ℕ, ℤ, Bool, true, false, not, ◌&&◌, Option, Some, None, nat_le, int_lt, int_le}
use Rattle.std.specs.Ordering.{int_eq}
use Rattle.release_model.specs.Release.{Value, concept_value, number_value}
use Rattle.constraint_tree.specs.declared.operator.Cardinality.{Cardinality}
use Rattle.constraint_tree.specs.declared.operator.Compare.{Compare}
use Rattle.constraint_tree.specs.declared.operator.Compare.TheVariants.{Equal, NotEqual, Less, LessOrEqual, Greater}
use Rattle.constraint_tree.specs.declared.operator.Compare.TheVariants.{GreaterOrEqual}

-- `=` before a constraint: the value is a concept in the set. A number or a string is no concept,
-- so it passes neither `=` nor `!=` before a constraint (this project's choice)
abbrev pub is_within : (ℕ → Bool) → Value → Bool
is_within set (concept_value concept) = set concept
is_within set other = false

-- `!=` before a constraint: the value is a concept outside the set. A concept without such an
-- attribute has no value that passes, so `!=` is not the negation of `=`
abbrev pub is_outside : (ℕ → Bool) → Value → Bool
is_outside set (concept_value concept) = not (set concept)
is_outside set other = false

-- whether the comparison of `first` with `second` holds
abbrev pub compares : Compare → ℤ → ℤ → Bool
compares Equal first second = int_eq first second
compares NotEqual first second = not (int_eq first second)
compares Less first second = int_lt first second
compares LessOrEqual first second = int_le first second
compares Greater first second = int_lt second first
compares GreaterOrEqual first second = int_le second first

-- whether a value is a number whose comparison with `number` holds
abbrev pub is_number_that : Compare → ℤ → Value → Bool
is_number_that compare number (number_value found) = compares compare found number
is_number_that compare number other = false

-- whether `count` is at most the maximum; without a maximum every count is
abbrev pub is_up_to : Option ℕ → ℕ → Bool
is_up_to None count = true
is_up_to (Some most) count = nat_le count most

-- whether `count` lies between the minimum and the maximum of the cardinality
abbrev pub lies_in : Cardinality → ℕ → Bool
lies_in cardinality count = nat_le cardinality.min count && is_up_to cardinality.max count
