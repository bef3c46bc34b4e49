-- The text of a plan. First comes how many items the plan visits at most, then a line for each
-- node, a node before its children. A line has a space for each node above it, the words for the
-- node, and how many items the node itself visits at most, without its children.
use Rattle.std.specs.Prelude.{ℕ, ◌++◌, Bool, true, false, List, [], ◌∷◌, codes, decimal}
use Rattle.std.specs.Fmt.{signed_decimal}
use Rattle.std.specs.List.{flat_map}
use Rattle.constraint_tree.specs.declared.operator.Cardinality.{Cardinality}
use Rattle.constraint_tree.specs.declared.operator.Operator.{Operator}
use Rattle.constraint_tree.specs.declared.operator.Operator.TheVariants.{Descendants, DescendantsOrSelf, Children}
use Rattle.constraint_tree.specs.declared.operator.Operator.TheVariants.{ChildrenOrSelf, Ancestors, AncestorsOrSelf}
use Rattle.constraint_tree.specs.declared.operator.Operator.TheVariants.{Parents, ParentsOrSelf, Top, Bottom}
use Rattle.constraint_tree.specs.Text.{compare_text, most_text}
use Rattle.set_algebra.specs.Physical.{Physical, physical_empty, physical_all, physical_one, physical_walk}
use Rattle.set_algebra.specs.Physical.{physical_members, physical_and, physical_or, physical_minus, physical_values}
use Rattle.set_algebra.specs.Physical.{physical_pairs, physical_groups, Physicals, no_physicals, physical_then}
use Rattle.set_algebra.specs.Physical.{PhysicalGroups, physical_nothing, physical_every, physical_groups_and}
use Rattle.set_algebra.specs.Physical.{physical_groups_or, physical_groups_minus, physical_groups_pairs}
use Rattle.set_algebra.specs.Physical.{PhysicalGroupsList, no_physical_groups, physical_groups_then, PhysicalTest}
use Rattle.set_algebra.specs.Physical.{physical_within, physical_outside, physical_number}
use Rattle.postings.specs.Indexed.{Indexed}
use Rattle.set_algebra.specs.declared.choice.Choice.{Choice}
use Rattle.set_algebra.specs.declared.choice.Choice.TheVariants.{ByValue, ByType, Scan}
use Rattle.plan_bounds.specs.Bounds.{bound, capped, group_own_bound, own_bound}
use Rattle.answer_printer.specs.AnswerText.{number_line}

-- ---- what a node is
-- the word for a hierarchy operator
abbrev pub operator_word : Operator → List ℕ
operator_word Descendants = codes "descendants"
operator_word DescendantsOrSelf = codes "descendants-self"
operator_word Children = codes "children"
operator_word ChildrenOrSelf = codes "children-self"
operator_word Ancestors = codes "ancestors"
operator_word AncestorsOrSelf = codes "ancestors-self"
operator_word Parents = codes "parents"
operator_word ParentsOrSelf = codes "parents-self"
operator_word Top = codes "top"
operator_word Bottom = codes "bottom"

-- the words for a cardinality: its minimum, `..` and its maximum
abbrev pub count_words : Cardinality → List ℕ
count_words count = decimal count.min ++ codes ".." ++ most_text count.max

-- the words for a test on values; a number is printed in units of 10^-18
abbrev pub test_words : PhysicalTest → List ℕ
test_words (physical_within operand) = codes "within"
test_words (physical_outside operand) = codes "outside"
test_words (physical_number compare number) =
    compare_text compare ++ codes " " ++ signed_decimal number

-- the words for the choice of a leaf
abbrev pub choice_words : Choice → List ℕ
choice_words ByValue = codes "by value"
choice_words ByType = codes "by type"
choice_words Scan = codes "by scan"

-- the words for a leaf: its cardinality, its test and its choice
abbrev pub leaf_words : Cardinality → PhysicalTest → Choice → List ℕ
leaf_words count test choice =
    count_words count ++ codes " " ++ test_words test ++ codes " " ++ choice_words choice

-- the words for the direction in which attribute rows are read: `out` from their sources, `in` from
-- their values
abbrev pub pairs_words : Bool → List ℕ
pairs_words false = codes "pairs out "
pairs_words true = codes "pairs in "

-- the words for a node of a concept plan, without its children
abbrev pub node_words : Physical → List ℕ
node_words physical_empty = codes "empty"
node_words physical_all = codes "all"
node_words (physical_one number) = codes "one " ++ decimal number
node_words (physical_walk operator operand) = operator_word operator
node_words (physical_members operand) = codes "members"
node_words (physical_and parts) = codes "and"
node_words (physical_or parts) = codes "or"
node_words (physical_minus first second) = codes "minus"
node_words (physical_values start names) = codes "values"
node_words (physical_pairs back count types test choice) =
    pairs_words back ++ leaf_words count test choice
node_words (physical_groups count units) = codes "units " ++ count_words count

-- the words for a node of a group plan, without its children
abbrev pub group_words : PhysicalGroups → List ℕ
group_words physical_nothing = codes "no-units"
group_words physical_every = codes "every-unit"
group_words (physical_groups_and parts) = codes "unit-and"
group_words (physical_groups_or parts) = codes "unit-or"
group_words (physical_groups_minus first second) = codes "unit-minus"
group_words (physical_groups_pairs count types test choice) =
    codes "unit-pairs " ++ leaf_words count test choice

-- ---- a text for each node
-- how one node is printed, given the spaces before it
pub record NodeText : Type 0 where
  -- the text for a node of a concept plan
  pub of_plan : List ℕ → Physical → List ℕ
  -- the text for a node of a group plan
  pub of_group : List ℕ → PhysicalGroups → List ℕ

-- ---- the outline: a text for each node, a node before its children, which have one space more
abbrev mutual
  -- the texts of the nodes of a concept plan, a node before its children, which have one space more
  pub outline : NodeText → List ℕ → Physical → List (List ℕ)
  outline node spaces physical_empty = node.of_plan spaces physical_empty ∷ []
  outline node spaces physical_all = node.of_plan spaces physical_all ∷ []
  outline node spaces (physical_one number) = node.of_plan spaces (physical_one number) ∷ []
  outline node spaces (physical_walk operator operand) =
      node.of_plan spaces (physical_walk operator operand) ∷ outline node (32 ∷ spaces) operand
  outline node spaces (physical_members operand) =
      node.of_plan spaces (physical_members operand) ∷ outline node (32 ∷ spaces) operand
  outline node spaces (physical_and parts) =
      node.of_plan spaces (physical_and parts) ∷ plans_outline node (32 ∷ spaces) parts
  outline node spaces (physical_or parts) =
      node.of_plan spaces (physical_or parts) ∷ plans_outline node (32 ∷ spaces) parts
  outline node spaces (physical_minus first second) =
      node.of_plan spaces (physical_minus first second)
      ∷ (outline node (32 ∷ spaces) first ++ outline node (32 ∷ spaces) second)
  outline node spaces (physical_values start names) =
      node.of_plan spaces (physical_values start names)
      ∷ (outline node (32 ∷ spaces) start ++ plans_outline node (32 ∷ spaces) names)
  outline node spaces (physical_pairs back count types test choice) =
      node.of_plan spaces (physical_pairs back count types test choice)
      ∷ (outline node (32 ∷ spaces) types ++ test_outline node (32 ∷ spaces) test)
  outline node spaces (physical_groups count units) =
      node.of_plan spaces (physical_groups count units) ∷ group_outline node (32 ∷ spaces) units

  -- the texts of the nodes of several concept plans, plan after plan
  pub plans_outline : NodeText → List ℕ → Physicals → List (List ℕ)
  plans_outline node spaces no_physicals = []
  plans_outline node spaces (physical_then first rest) =
      outline node spaces first ++ plans_outline node spaces rest

  -- the texts of the nodes of a group plan
  pub group_outline : NodeText → List ℕ → PhysicalGroups → List (List ℕ)
  group_outline node spaces physical_nothing = node.of_group spaces physical_nothing ∷ []
  group_outline node spaces physical_every = node.of_group spaces physical_every ∷ []
  group_outline node spaces (physical_groups_and parts) =
      node.of_group spaces (physical_groups_and parts) ∷ groups_outline node (32 ∷ spaces) parts
  group_outline node spaces (physical_groups_or parts) =
      node.of_group spaces (physical_groups_or parts) ∷ groups_outline node (32 ∷ spaces) parts
  group_outline node spaces (physical_groups_minus first second) =
      node.of_group spaces (physical_groups_minus first second)
      ∷ (group_outline node (32 ∷ spaces) first ++ group_outline node (32 ∷ spaces) second)
  group_outline node spaces (physical_groups_pairs count types test choice) =
      node.of_group spaces (physical_groups_pairs count types test choice)
      ∷ (outline node (32 ∷ spaces) types ++ test_outline node (32 ∷ spaces) test)

  -- the texts of the nodes of several group plans, plan after plan
  pub groups_outline : NodeText → List ℕ → PhysicalGroupsList → List (List ℕ)
  groups_outline node spaces no_physical_groups = []
  groups_outline node spaces (physical_groups_then first rest) =
      group_outline node spaces first ++ groups_outline node spaces rest

  -- the texts of the nodes of the plan inside a test; the test itself is no node
  pub test_outline : NodeText → List ℕ → PhysicalTest → List (List ℕ)
  test_outline node spaces (physical_within operand) = outline node spaces operand
  test_outline node spaces (physical_outside operand) = outline node spaces operand
  test_outline node spaces (physical_number compare number) = []

-- ---- the text of a plan
-- a line that consists of the text `before`, a space and the bound `most`
abbrev pub bound_line : List ℕ → ℕ → List ℕ
bound_line before most = before ++ codes " " ++ number_line most

-- the line of each node: its spaces, its words and its own bound
abbrev pub node_line : Indexed → NodeText
node_line indexed = record {
  of_plan = λ spaces plan. bound_line (spaces ++ node_words plan) (capped (own_bound indexed plan));
  of_group = λ spaces plan. bound_line (spaces ++ group_words plan)
      (capped (group_own_bound indexed plan));
}

-- the lines of all nodes of a plan, one after another
abbrev pub plan_lines : Indexed → Physical → List ℕ
plan_lines indexed plan = flat_map (λ line. line) (outline (node_line indexed) [] plan)

-- the text of a plan: `PLAN` and the bound of the plan, then the lines of its nodes
abbrev pub plan_text : Indexed → Physical → List ℕ
plan_text indexed plan =
    (codes "PLAN " ++ number_line (capped (bound indexed plan))) ++ plan_lines indexed plan
