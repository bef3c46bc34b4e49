use Rattle.std.proofs.Common.{refl}
use Rattle.set_algebra.proofs.laws.worked_plans_hold.Goals as goal

-- `*` means all concepts of the sample release
pub returns-clause-everything : goal.returns-clause-everything
returns-clause-everything c = refl

-- `<` means the descendants of its operand, without the operand itself
pub returns-clause-descendants : goal.returns-clause-descendants
returns-clause-descendants c = refl

-- braces ask for one group with all attributes, and without braces any groups do
pub returns-clause-braces : goal.returns-clause-braces
returns-clause-braces c = (refl, refl)

-- cardinalities count each distinct pair once
pub returns-clause-distinct_pairs : goal.returns-clause-distinct_pairs
returns-clause-distinct_pairs c = refl

-- the cardinality before braces counts groups
pub returns-clause-brace_counts : goal.returns-clause-brace_counts
returns-clause-brace_counts c = (refl, refl, refl)

-- `[0..0]` in braces asks for a group without the attribute, outside braces for a concept without it, and before
-- braces for no group with it
pub returns-clause-none_in_braces : goal.returns-clause-none_in_braces
returns-clause-none_in_braces c = (refl, refl, refl)

-- `R` counts the sources of the rows whose value the concept is
pub returns-clause-reverse : goal.returns-clause-reverse
returns-clause-reverse c = refl

-- a dotted constraint means the values that its attributes lead to
pub returns-clause-dotted : goal.returns-clause-dotted
returns-clause-dotted c = (refl, refl)

-- `!=` asks for a value that differs, and leaves out concepts without such a value
pub returns-clause-not_equal : goal.returns-clause-not_equal
returns-clause-not_equal c = (refl, refl, refl)

-- member constraints and attributes with `=*` mean the concepts that have a row in force
pub returns-clause-rows_in_force : goal.returns-clause-rows_in_force
returns-clause-rows_in_force c = (refl, refl, refl, refl, refl)

-- comparisons of numbers compare their values, whatever their digits
pub returns-clause-numbers : goal.returns-clause-numbers
returns-clause-numbers c = (refl, refl, refl)

-- `<=` and `>=` hold at the bound, `<` and `>` do not
pub returns-clause-bounds : goal.returns-clause-bounds
returns-clause-bounds c = (refl, refl, refl, refl)

-- `MINUS` means the concepts of the first operand that are not in the second
pub returns-clause-differences : goal.returns-clause-differences
returns-clause-differences c = (refl, refl, refl)

-- `OR` of two attributes means the concepts that have at least one of them
pub returns-clause-either : goal.returns-clause-either
returns-clause-either c = (refl, refl)

-- the nine worked walks mean the concepts that their hierarchy operators lead to
pub returns-clause-walks : goal.returns-clause-walks
returns-clause-walks c = (refl, refl, refl, refl, refl, refl, refl, refl, refl)

-- a walk of a conjunction differs from the conjunction of the walks, and a hierarchy operator takes only the operand
-- after it
pub returns-clause-operands : goal.returns-clause-operands
returns-clause-operands c = (refl, refl, refl)

-- a number that is not a concept in force and a cardinality with minimum above maximum mean no concept, and `[0..*]`
-- leaves out none
pub returns-clause-empty_answers : goal.returns-clause-empty_answers
returns-clause-empty_answers c = (refl, refl, refl, refl)
