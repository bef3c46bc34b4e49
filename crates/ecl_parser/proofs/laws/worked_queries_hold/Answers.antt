use Rattle.std.proofs.Common.{refl}
use Rattle.ecl_parser.proofs.TextLemmas.{gives, text_tree}
use Rattle.ecl_parser.proofs.laws.worked_queries_hold.Goals as goal

-- `*` gives every concept of the sample release
pub returns-clause-everything : goal.returns-clause-everything
unfolding text_tree
returns-clause-everything c = gives refl refl

-- `<100005` gives Beta, Gamma and Delta
pub returns-clause-descendants : goal.returns-clause-descendants
unfolding text_tree
returns-clause-descendants c = gives refl refl

-- two attributes in braces give only Beta; without braces they give Gamma and Delta as well
pub returns-clause-braces : goal.returns-clause-braces
unfolding text_tree
returns-clause-braces c = (gives refl refl, gives refl refl)

-- `[2..*]` counts distinct pairs with a concept as the value, and so finds no concept
pub returns-clause-distinct_pairs : goal.returns-clause-distinct_pairs
unfolding text_tree
returns-clause-distinct_pairs c = gives refl refl

-- a cardinality in front of braces counts the groups that satisfy the set
pub returns-clause-brace_counts : goal.returns-clause-brace_counts
unfolding text_tree
returns-clause-brace_counts c = (gives refl refl, gives refl refl, gives refl refl)

-- `[0..0]` in braces finds a group without the attribute, outside braces a concept without it, and before braces a
-- concept with no such group
pub returns-clause-none_in_braces : goal.returns-clause-none_in_braces
unfolding text_tree
returns-clause-none_in_braces c = (gives refl refl, gives refl refl, gives refl refl)

-- an attribute that is read backwards counts each source once
pub returns-clause-reverse : goal.returns-clause-reverse
unfolding text_tree
returns-clause-reverse c = gives refl refl

-- a dotted constraint gives the values of its attributes, and none if no value has the next attribute
pub returns-clause-dotted : goal.returns-clause-dotted
unfolding text_tree
returns-clause-dotted c = (gives refl refl, gives refl refl)

-- `!=` gives the concepts with a value other than the operand's
pub returns-clause-not_equal : goal.returns-clause-not_equal
unfolding text_tree
returns-clause-not_equal c = (gives refl refl, gives refl refl, gives refl refl)

-- `^` gives the components of reference sets, and only attribute rows in force are found
pub returns-clause-rows_in_force : goal.returns-clause-rows_in_force
unfolding text_tree
returns-clause-rows_in_force c = (gives refl refl, gives refl refl, gives refl refl, gives refl refl, gives refl refl)

-- numbers are compared by value, whatever their spelling
pub returns-clause-numbers : goal.returns-clause-numbers
unfolding text_tree
returns-clause-numbers c = (gives refl refl, gives refl refl, gives refl refl)

-- on their bound `<=` and `>=` hold, and `<` does not
pub returns-clause-bounds : goal.returns-clause-bounds
unfolding text_tree
returns-clause-bounds c = (gives refl refl, gives refl refl, gives refl refl, gives refl refl)

-- `MINUS` gives the concepts of the first operand that are not in the second
pub returns-clause-differences : goal.returns-clause-differences
unfolding text_tree
returns-clause-differences c = (gives refl refl, gives refl refl, gives refl refl)

-- `OR` of two attributes gives the concepts with at least one of them
pub returns-clause-either : goal.returns-clause-either
unfolding text_tree
returns-clause-either c = (gives refl refl, gives refl refl)

-- each hierarchy operator gives the concepts that it reaches
pub returns-clause-walks : goal.returns-clause-walks
unfolding text_tree
returns-clause-walks c = (
  gives refl refl,
  gives refl refl,
  gives refl refl,
  gives refl refl,
  gives refl refl,
  gives refl refl,
  gives refl refl,
  gives refl refl,
  gives refl refl,
)

-- an operator on a bracketed conjunction applies to the whole; without brackets it applies to its own operand
pub returns-clause-operands : goal.returns-clause-operands
unfolding text_tree
returns-clause-operands c = (gives refl refl, gives refl refl, gives refl refl)

-- a concept that is not in force, and a minimum above the maximum, give no concept; `[0..*]` excludes none
pub returns-clause-empty_answers : goal.returns-clause-empty_answers
unfolding text_tree
returns-clause-empty_answers c = (gives refl refl, gives refl refl, gives refl refl, gives refl refl)
