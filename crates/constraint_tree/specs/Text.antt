-- The text of a tree (Expression Constraint Language 2.2, 5.1 "Brief syntax"). Round brackets are
-- written only around a part that the grammar does not allow without them.
use Rattle.std.specs.Prelude.{ℕ, zero, suc, ◌+◌, ◌/◌, ◌%◌, ◌^◌, ◌==◌, ℤ, pos, negsuc, Bool, true, false, if◌then◌else◌}
use Rattle.std.specs.Prelude.{List, [], ◌∷◌, ◌++◌, Option, None, Some, codes, decimal}
use Rattle.constraint_tree.specs.declared.operator.Cardinality.{Cardinality}
use Rattle.constraint_tree.specs.declared.operator.Compare.{Compare}
use Rattle.constraint_tree.specs.declared.operator.Compare.TheVariants.{Equal, NotEqual, Less, LessOrEqual, Greater}
use Rattle.constraint_tree.specs.declared.operator.Compare.TheVariants.{GreaterOrEqual}
use Rattle.constraint_tree.specs.declared.operator.Operator.{Operator}
use Rattle.constraint_tree.specs.declared.operator.Operator.TheVariants.{Descendants, DescendantsOrSelf, Children}
use Rattle.constraint_tree.specs.declared.operator.Operator.TheVariants.{ChildrenOrSelf, Ancestors, AncestorsOrSelf}
use Rattle.constraint_tree.specs.declared.operator.Operator.TheVariants.{Parents, ParentsOrSelf, Top, Bottom}
use Rattle.constraint_tree.specs.Tree.{Tree, concept_tree, any_tree, walk_tree, member_tree, and_tree, or_tree}
use Rattle.constraint_tree.specs.Tree.{minus_tree, dotted_tree, refined_tree, Trees, no_trees, tree_then}
use Rattle.constraint_tree.specs.Tree.{RefinementTree, one_refinement, group_refinement, and_refinement, or_refinement}
use Rattle.constraint_tree.specs.Tree.{RefinementTrees, no_refinements, refinement_then, AttributeSetTree, one_set}
use Rattle.constraint_tree.specs.Tree.{and_set, or_set, AttributeSetTrees, no_sets, set_then, AttributeTree}
use Rattle.constraint_tree.specs.Tree.{attribute_tree, TestTree, within_test, outside_test, number_test}

-- the symbol of a hierarchy operator
abbrev pub operator_text : Operator → List ℕ
operator_text Descendants = codes "<"
operator_text DescendantsOrSelf = codes "<<"
operator_text Children = codes "<!"
operator_text ChildrenOrSelf = codes "<<!"
operator_text Ancestors = codes ">"
operator_text AncestorsOrSelf = codes ">>"
operator_text Parents = codes ">!"
operator_text ParentsOrSelf = codes ">>!"
operator_text Top = codes "!!>"
operator_text Bottom = codes "!!<"

-- the symbol of a comparison
abbrev pub compare_text : Compare → List ℕ
compare_text Equal = codes "="
compare_text NotEqual = codes "!="
compare_text Less = codes "<"
compare_text LessOrEqual = codes "<="
compare_text Greater = codes ">"
compare_text GreaterOrEqual = codes ">="

-- the digits of `fraction`, which counts 10^-`places`, up to the last digit that is not zero
unfoldable pub fraction_digits : ℕ → ℕ → List ℕ
fraction_digits zero fraction = []
fraction_digits (suc places) fraction =
    if fraction == 0 then []
    else (48 + fraction / 10 ^ places) ∷ fraction_digits places (fraction % 10 ^ places)

-- the point and the digits of `fraction`, which counts 10^-18, or nothing if it is 0
abbrev pub fraction_text : ℕ → List ℕ
fraction_text fraction = if fraction == 0 then [] else 46 ∷ fraction_digits 18 fraction

-- the decimal text of `number`, which counts 10^-18, without a sign
abbrev pub unsigned_text : ℕ → List ℕ
unsigned_text number = decimal (number / 10 ^ 18) ++ fraction_text (number % 10 ^ 18)

-- the text of a number, which counts 10^-18: `#`, `-` if it is negative, and its digits
abbrev pub number_text : ℤ → List ℕ
number_text (pos number) = 35 ∷ unsigned_text number
number_text (negsuc below) = 35 ∷ 45 ∷ unsigned_text (suc below)

-- the maximum of a cardinality: its digits, or `*` if there is none
abbrev pub most_text : Option ℕ → List ℕ
most_text None = codes "*"
most_text (Some most) = decimal most

-- the text of the cardinality from `least` to `most`, in square brackets
abbrev pub range_text : ℕ → Option ℕ → List ℕ
range_text least most = codes "[" ++ decimal least ++ codes ".." ++ most_text most ++ codes "]"

-- the text of the cardinality from `least` to the given maximum; empty for `[1..*]`, because this
-- is the default
abbrev pub count_text : ℕ → Option ℕ → List ℕ
count_text least None = if least == 1 then [] else range_text least None
count_text least (Some most) = range_text least (Some most)

-- the text of a cardinality of the code; empty for `[1..*]`
abbrev pub cardinality_text : Cardinality → List ℕ
cardinality_text count = count_text count.min count.max

-- `R` and a blank for an attribute that is read backwards, or else nothing
abbrev pub reverse_text : Bool → List ℕ
reverse_text true = codes "R "
reverse_text false = []

-- whether a constraint may follow `^` without brackets
abbrev pub is_focus : Tree → Bool
is_focus (concept_tree number) = true
is_focus any_tree = true
is_focus other = false

-- whether a constraint may follow a hierarchy operator without brackets
abbrev pub is_member_or_focus : Tree → Bool
is_member_or_focus (member_tree operand) = true
is_member_or_focus other = is_focus other

-- whether a constraint may be an operand without brackets. Every larger constraint is made of
-- operands
abbrev pub is_sub : Tree → Bool
is_sub (walk_tree operator operand) = true
is_sub other = is_member_or_focus other

-- whether a refinement may be a part of `And` or `Or` without brackets
abbrev pub is_item : RefinementTree → Bool
is_item (and_refinement parts) = false
is_item (or_refinement parts) = false
is_item other = true

-- whether an attribute set may be a part of `And` or `Or` without brackets
abbrev pub is_part : AttributeSetTree → Bool
is_part (one_set what) = true
is_part other = false

-- the opening bracket of a text, or nothing if the text needs no brackets
abbrev pub opening : Bool → List ℕ
opening true = []
opening false = codes "("

-- the closing bracket of a text, or nothing if the text needs no brackets
abbrev pub closing : Bool → List ℕ
closing true = []
closing false = codes ")"

-- a text in round brackets, or the text alone if `stands`: it needs no brackets
abbrev pub placed_text : Bool → List ℕ → List ℕ
placed_text stands text = opening stands ++ text ++ closing stands

-- the texts of trees, without brackets around them
abbrev mutual
  -- the text of a constraint
  pub constraint_text : Tree → List ℕ
  constraint_text (concept_tree number) = decimal number
  constraint_text any_tree = codes "*"
  constraint_text (walk_tree operator operand) =
      operator_text operator ++ placed_text (is_member_or_focus operand) (constraint_text operand)
  constraint_text (member_tree operand) =
      codes "^" ++ placed_text (is_focus operand) (constraint_text operand)
  constraint_text (and_tree parts) = joined_text (codes ",") parts
  constraint_text (or_tree parts) = joined_text (codes " OR ") parts
  constraint_text (minus_tree first second) =
      placed_text (is_sub first) (constraint_text first)
      ++ codes " MINUS " ++ placed_text (is_sub second) (constraint_text second)
  constraint_text (dotted_tree start names) =
      placed_text (is_sub start) (constraint_text start) ++ listed_text (codes ".") names
  constraint_text (refined_tree focus refinement) =
      placed_text (is_sub focus) (constraint_text focus) ++ codes ":" ++ refinement_text refinement

  -- the texts of operands, with `between` between two of them
  pub joined_text : List ℕ → Trees → List ℕ
  joined_text between no_trees = []
  joined_text between (tree_then first rest) =
      placed_text (is_sub first) (constraint_text first) ++ listed_text between rest

  -- the texts of operands, each after `before`
  pub listed_text : List ℕ → Trees → List ℕ
  listed_text before no_trees = []
  listed_text before (tree_then first rest) =
      before ++ placed_text (is_sub first) (constraint_text first) ++ listed_text before rest

  -- the text of a refinement
  pub refinement_text : RefinementTree → List ℕ
  refinement_text (one_refinement what) = attribute_text what
  refinement_text (group_refinement count set) =
      cardinality_text count ++ codes "{" ++ set_text set ++ codes "}"
  refinement_text (and_refinement parts) = joined_items (codes ",") parts
  refinement_text (or_refinement parts) = joined_items (codes " OR ") parts

  -- the texts of items, with `between` between two of them
  pub joined_items : List ℕ → RefinementTrees → List ℕ
  joined_items between no_refinements = []
  joined_items between (refinement_then first rest) =
      placed_text (is_item first) (refinement_text first) ++ listed_items between rest

  -- the texts of items, each after `before`
  pub listed_items : List ℕ → RefinementTrees → List ℕ
  listed_items before no_refinements = []
  listed_items before (refinement_then first rest) =
      before ++ placed_text (is_item first) (refinement_text first) ++ listed_items before rest

  -- the text of an attribute set
  pub set_text : AttributeSetTree → List ℕ
  set_text (one_set what) = attribute_text what
  set_text (and_set parts) = joined_parts (codes ",") parts
  set_text (or_set parts) = joined_parts (codes " OR ") parts

  -- the texts of parts of an attribute set, with `between` between two of them
  pub joined_parts : List ℕ → AttributeSetTrees → List ℕ
  joined_parts between no_sets = []
  joined_parts between (set_then first rest) =
      placed_text (is_part first) (set_text first) ++ listed_parts between rest

  -- the texts of parts of an attribute set, each after `before`
  pub listed_parts : List ℕ → AttributeSetTrees → List ℕ
  listed_parts before no_sets = []
  listed_parts before (set_then first rest) =
      before ++ placed_text (is_part first) (set_text first) ++ listed_parts before rest

  -- the text of an attribute: its cardinality, `R`, name and test
  pub attribute_text : AttributeTree → List ℕ
  attribute_text (attribute_tree count reverse name test) =
      cardinality_text count ++ reverse_text reverse ++ placed_text (is_sub name)
      (constraint_text name) ++ test_text test

  -- the text of a value test: the comparison, and the constraint or number after it
  pub test_text : TestTree → List ℕ
  test_text (within_test operand) =
      codes "=" ++ placed_text (is_sub operand) (constraint_text operand)
  test_text (outside_test operand) =
      codes "!=" ++ placed_text (is_sub operand) (constraint_text operand)
  test_text (number_test compare value) = compare_text compare ++ number_text value
