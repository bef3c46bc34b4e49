-- The own bound of a node is no less if its parts find more.
use Rattle.std.proofs.Common.{ℕ, ◌≤◌, Bool, Option, Some, None, arith}
use Rattle.constraint_tree.specs.declared.operator.Cardinality.{Cardinality}
use Rattle.constraint_tree.specs.declared.operator.Operator.{Operator}
use Rattle.postings.specs.Indexed.{Indexed}
use Rattle.set_algebra.specs.Physical.{Physical, PhysicalTest}
use Rattle.set_algebra.specs.declared.choice.Choice.{Choice}
use Rattle.set_algebra.specs.declared.choice.Choice.TheVariants.{ByValue, ByType, Scan}
use Rattle.plan_bounds.specs.Alternatives.{leaf_bound}
use Rattle.plan_bounds.specs.Bounds.{members_bound, walk_bound}
use Rattle.plan_bounds.specs.Counts.{leaf_of}

-- the bound of a walk node itself does not fall if its operand finds more concepts
pub walk_more : (indexed : Indexed) (operator : Operator) (one : Option ℕ) (few many : ℕ) → few ≤ many
    → walk_bound indexed operator one few ≤ walk_bound indexed operator one many
walk_more indexed operator (Some id) few many more = omega arith
walk_more indexed operator None few many more = omega (arith, more)

-- the bound of a `Members` node itself does not fall if its operand finds more concepts
pub members_more : (indexed : Indexed) (one : Option ℕ) (few many : ℕ) → few ≤ many
    → members_bound indexed one few ≤ members_bound indexed one many
members_more indexed (Some id) few many more = omega arith
members_more indexed None few many more = omega (arith, more)

-- the bound of a leaf itself does not fall if its types and its test find more concepts
pub leaf_more : (indexed : Indexed) (all : ℕ) (back : Bool) (count : Cardinality) (types : Physical)
    (test : PhysicalTest)
    (few_types many_types few_values many_values : ℕ) (choice : Choice) → few_types ≤ many_types → few_values
    ≤ many_values
    → leaf_bound (leaf_of indexed all back count types test few_types few_values) choice
    ≤ leaf_bound (leaf_of indexed all back count types test many_types many_values) choice
leaf_more indexed all back count types test few_types many_types few_values many_values ByValue more_types more_values =
    omega (arith, more_values)
leaf_more indexed all back count types test few_types many_types few_values many_values ByType more_types more_values =
    omega (arith, more_types)
leaf_more indexed all back count types test few_types many_types few_values many_values Scan more_types more_values =
    omega arith
