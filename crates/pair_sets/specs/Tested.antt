-- The test of a leaf for the values of its pairs.
use Rattle.std.specs.Prelude.{ℕ, ◌≡◌, Bool, List, length}
use Rattle.std.specs.declared.cmp.Ordering.{Ordering}
use Rattle.std.specs.Ordering.{is_eq, is_ge, is_gt, is_le, is_lt, is_ne}
use Rattle.release_model.specs.Release.{Value}
use Rattle.constraint_tree.specs.declared.operator.Compare.{Compare}
use Rattle.constraint_tree.specs.declared.operator.Compare.TheVariants.{Equal, NotEqual, Less, LessOrEqual, Greater}
use Rattle.constraint_tree.specs.declared.operator.Compare.TheVariants.{GreaterOrEqual}
use Rattle.candidates.specs.Numbers.{is_one_of}
use Rattle.constraint_tree.specs.Passing.{is_number_that, is_outside, is_within}
use Rattle.pair_sets.specs.declared.tested.Tested.{Tested}
use Rattle.pair_sets.specs.declared.tested.Tested.TheVariants as tests

-- whether a value passes a test
abbrev pub passes_of : {S : Type 0} → (S → List ℕ) → List ℕ → Tested S → Value → Bool
passes_of items_of concepts (tests.Within set) value =
    is_within (is_one_of concepts (items_of set)) value
passes_of items_of concepts (tests.Outside set) value =
    is_outside (is_one_of concepts (items_of set)) value
passes_of items_of concepts (tests.Number compare number) value =
    is_number_that compare number.0 value

-- the set of a test has the bound `count`; true for a comparison with a number
abbrev pub IsTestBelow : {S : Type 0} → (S → ℕ) → ℕ → Tested S → Type 0
IsTestBelow bound_of count (tests.Within set) = bound_of set ≡ count
IsTestBelow bound_of count (tests.Outside set) = bound_of set ≡ count
IsTestBelow bound_of count (tests.Number compare number) = Unit {0}

-- how many concepts the set of a test has; 0 for a comparison with a number
abbrev pub found_for : {S : Type 0} → (S → List ℕ) → Tested S → ℕ
found_for items_of (tests.Within set) = length (items_of set)
found_for items_of (tests.Outside set) = length (items_of set)
found_for items_of (tests.Number compare number) = 0

-- whether a comparison holds for two numbers whose order is `order`
abbrev pub meets : Compare → Ordering → Bool
meets Equal order = is_eq order
meets NotEqual order = is_ne order
meets Less order = is_lt order
meets LessOrEqual order = is_le order
meets Greater order = is_gt order
meets GreaterOrEqual order = is_ge order
