-- The grammar of expression constraints over tokens (Expression Constraint Language 2.2, 5.1 "Brief
-- syntax"), and the tree of a list of tokens. A form is a derivation by the rules of the grammar,
-- with one constructor for each alternative of a rule. A form has the tokens that it derives, and a
-- tree, which does not show brackets and terms. The functions on tokens put a form's tokens in
-- front of the tokens that follow. The lexer refuses some parts of the brief syntax, which have no
-- form here: filters and history supplements, fields of reference sets, alternate identifiers, and
-- strings and truth values as values. The parser refuses `R` in front of an attribute inside
-- braces, which the standard has.
use Rattle.std.specs.Prelude.{◌≡◌, ℕ, ℤ, Bool, true, false, List, [], ◌∷◌, map, drop, Option, None, Some, IsTrue}
use Rattle.ecl_lexer.specs.Tokens.{Spelled}
use Rattle.ecl_lexer.specs.declared.token.TokenKind.{TokenKind}
use Rattle.ecl_lexer.specs.declared.token.TokenKind.TheVariants.{DescendantOf, DescendantOrSelfOf, ChildOf}
use Rattle.ecl_lexer.specs.declared.token.TokenKind.TheVariants.{ChildOrSelfOf, AncestorOf, AncestorOrSelfOf, ParentOf}
use Rattle.ecl_lexer.specs.declared.token.TokenKind.TheVariants.{ParentOrSelfOf, Top as TopOf, Bottom as BottomOf}
use Rattle.ecl_lexer.specs.declared.token.TokenKind.TheVariants.{MemberOf, Wildcard, RoundOpen, RoundClose, BraceOpen}
use Rattle.ecl_lexer.specs.declared.token.TokenKind.TheVariants.{BraceClose, BracketOpen, BracketClose, Colon, Dot}
use Rattle.ecl_lexer.specs.declared.token.TokenKind.TheVariants.{Dots, Equal as EqualSign, NotEqual as NotEqualSign}
use Rattle.ecl_lexer.specs.declared.token.TokenKind.TheVariants.{LessOrEqual as LessOrEqualSign}
use Rattle.ecl_lexer.specs.declared.token.TokenKind.TheVariants.{GreaterOrEqual as GreaterOrEqualSign, And, Or, Minus}
use Rattle.ecl_lexer.specs.declared.token.TokenKind.TheVariants.{Reverse, Digits, Number, Term}
use Rattle.numerals.specs.Numbers.{is_number, number_of}
use Rattle.numerals.specs.Decimals.{decimal_of}
use Rattle.constraint_tree.specs.declared.operator.Cardinality.{Cardinality}
use Rattle.constraint_tree.specs.declared.operator.Compare.{Compare}
use Rattle.constraint_tree.specs.declared.operator.Compare.TheVariants.{Equal, NotEqual, Less, LessOrEqual, Greater}
use Rattle.constraint_tree.specs.declared.operator.Compare.TheVariants.{GreaterOrEqual}
use Rattle.constraint_tree.specs.declared.operator.Operator.{Operator}
use Rattle.constraint_tree.specs.declared.operator.Operator.TheVariants.{Descendants, DescendantsOrSelf, Children}
use Rattle.constraint_tree.specs.declared.operator.Operator.TheVariants.{ChildrenOrSelf, Ancestors, AncestorsOrSelf}
use Rattle.constraint_tree.specs.declared.operator.Operator.TheVariants.{Parents, ParentsOrSelf, Top, Bottom}
use Rattle.constraint_tree.specs.Tree.{Tree, concept_tree, any_tree, walk_tree, member_tree, and_tree, or_tree}
use Rattle.constraint_tree.specs.Tree.{minus_tree, dotted_tree, refined_tree, Trees, no_trees, tree_then}
use Rattle.constraint_tree.specs.Tree.{RefinementTree, one_refinement, group_refinement, and_refinement, or_refinement}
use Rattle.constraint_tree.specs.Tree.{RefinementTrees, no_refinements, refinement_then, AttributeSetTree, one_set}
use Rattle.constraint_tree.specs.Tree.{and_set, or_set, AttributeSetTrees, no_sets, set_then, AttributeTree}
use Rattle.constraint_tree.specs.Tree.{attribute_tree, within_test, outside_test, number_test}

-- a derivation of a cardinality: the digits of its minimum, and the digits of its maximum or `*`
pub data CountForm : Type 0 where
  at_least : (least : List ℕ) → IsTrue (is_number 1 18 least) → CountForm
  between : (least most : List ℕ) → IsTrue (is_number 1 18 least) → IsTrue (is_number 1 18 most)
      → CountForm

mutual
  -- a derivation of a constraint
  pub data ConstraintForm : Type 0 where
    -- Sub
    alone : SubForm → ConstraintForm
    -- Sub ":" Refinement
    refined : SubForm → RefinementForm → ConstraintForm
    -- Sub (AND Sub)+, Sub (OR Sub)+
    conjunction : SubForm → SubForm → SubForms → ConstraintForm
    disjunction : SubForm → SubForm → SubForms → ConstraintForm
    -- Sub MINUS Sub
    exclusion : SubForm → SubForm → ConstraintForm
    -- Sub ("." Sub)+
    dotted : SubForm → SubForm → SubForms → ConstraintForm

  -- the further operands of a conjunction, disjunction or dotted constraint, after the second
  pub data SubForms : Type 0 where
    no_subs : SubForms
    sub_then : SubForm → SubForms → SubForms

  -- a derivation of an operand: [Operator] ["^"] Focus
  pub data SubForm : Type 0 where
    plain : FocusForm → SubForm
    member : FocusForm → SubForm
    walk : Operator → FocusForm → SubForm
    walk_member : Operator → FocusForm → SubForm

  -- a derivation of a focus: a concept, `*`, or a constraint in round brackets
  pub data FocusForm : Type 0 where
    -- Digits [Term]
    concept : (run : List ℕ) → IsTrue (is_number 6 18 run) → FocusForm
    concept_term : (run : List ℕ) → IsTrue (is_number 6 18 run) → FocusForm
    -- "*"
    any : FocusForm
    -- "(" Constraint ")"
    round : ConstraintForm → FocusForm

  -- a derivation of a refinement
  pub data RefinementForm : Type 0 where
    -- Item, Item (AND Item)+, Item (OR Item)+
    one_item : ItemForm → RefinementForm
    all_items : ItemForm → ItemForm → ItemForms → RefinementForm
    some_items : ItemForm → ItemForm → ItemForms → RefinementForm

  -- the further items of a conjunction or disjunction of refinements, after the second
  pub data ItemForms : Type 0 where
    no_items : ItemForms
    item_then : ItemForm → ItemForms → ItemForms

  -- a derivation of an item of a refinement
  pub data ItemForm : Type 0 where
    -- [Count] ["R"] Pair
    attribute : Option CountForm → (reverse : Bool) → PairForm → ItemForm
    -- [Count] "{" Set "}"
    group : Option CountForm → SetForm → ItemForm
    -- "(" Refinement ")"
    round_refinement : RefinementForm → ItemForm

  -- a derivation of an attribute set
  pub data SetForm : Type 0 where
    -- Part, Part (AND Part)+, Part (OR Part)+
    one_part : PartForm → SetForm
    all_parts : PartForm → PartForm → PartForms → SetForm
    some_parts : PartForm → PartForm → PartForms → SetForm

  -- the further parts of a conjunction or disjunction of attribute sets, after the second
  pub data PartForms : Type 0 where
    no_parts : PartForms
    part_then : PartForm → PartForms → PartForms

  -- a derivation of a part of an attribute set
  pub data PartForm : Type 0 where
    -- [Count] Pair
    counted_part : Option CountForm → PairForm → PartForm
    -- "(" Set ")"
    round_set : SetForm → PartForm

  -- a derivation of an attribute without its cardinality and `R`: a name and a test of the value
  pub data PairForm : Type 0 where
    -- Sub "=" Sub, Sub "!=" Sub
    within : SubForm → SubForm → PairForm
    outside : SubForm → SubForm → PairForm
    -- Sub Comparison Number
    number : SubForm → Compare → (text : List ℕ) → (value : ℤ)
        → decimal_of (drop 1 text) ≡ Some value → PairForm

-- a token as the grammar sees it: digits and numbers by their bytes, every other token by its kind
-- alone
pub data Symbol : Type 0 where
  digits : List ℕ → Symbol
  decimal : List ℕ → Symbol
  mark : TokenKind → Symbol

-- the token of the lexer as the grammar sees it
abbrev pub symbol_of : Spelled → Symbol
symbol_of token = by token.kind
  where
    by : TokenKind → Symbol
    by Digits = digits token.bytes
    by Number = decimal token.bytes
    by other = mark token.kind

-- the kind of the token that spells a hierarchy operator
abbrev pub operator_kind : Operator → TokenKind
operator_kind Descendants = DescendantOf
operator_kind DescendantsOrSelf = DescendantOrSelfOf
operator_kind Children = ChildOf
operator_kind ChildrenOrSelf = ChildOrSelfOf
operator_kind Ancestors = AncestorOf
operator_kind AncestorsOrSelf = AncestorOrSelfOf
operator_kind Parents = ParentOf
operator_kind ParentsOrSelf = ParentOrSelfOf
operator_kind Top = TopOf
operator_kind Bottom = BottomOf

-- the kind of the token that spells a comparison; `<` and `>` share their tokens with hierarchy
-- operators
abbrev pub compare_kind : Compare → TokenKind
compare_kind Equal = EqualSign
compare_kind NotEqual = NotEqualSign
compare_kind Less = DescendantOf
compare_kind LessOrEqual = LessOrEqualSign
compare_kind Greater = AncestorOf
compare_kind GreaterOrEqual = GreaterOrEqualSign

-- the tokens of a cardinality, in front of `rest`
abbrev pub count_tokens : CountForm → List Symbol → List Symbol
count_tokens (at_least least is) rest =
    mark BracketOpen ∷ digits least ∷ mark Dots ∷ mark Wildcard ∷ mark BracketClose ∷ rest
count_tokens (between least most is also) rest =
    mark BracketOpen ∷ digits least ∷ mark Dots ∷ digits most ∷ mark BracketClose ∷ rest

-- the tokens of a cardinality if there is one, in front of `rest`
abbrev pub counted_tokens : Option CountForm → List Symbol → List Symbol
counted_tokens None rest = rest
counted_tokens (Some count) rest = count_tokens count rest

-- the token `R` if `reverse` is set, in front of `rest`
abbrev pub reverse_tokens : Bool → List Symbol → List Symbol
reverse_tokens true rest = mark Reverse ∷ rest
reverse_tokens false rest = rest

-- The tokens of each form, in front of `rest`.
abbrev mutual
  -- the tokens of a constraint, in front of `rest`
  pub constraint_tokens : ConstraintForm → List Symbol → List Symbol
  constraint_tokens (alone sub) rest = sub_tokens sub rest
  constraint_tokens (refined focus refinement) rest =
      sub_tokens focus (mark Colon ∷ refinement_tokens refinement rest)
  constraint_tokens (conjunction first second more) rest =
      sub_tokens first (mark And ∷ sub_tokens second (subs_tokens And more rest))
  constraint_tokens (disjunction first second more) rest =
      sub_tokens first (mark Or ∷ sub_tokens second (subs_tokens Or more rest))
  constraint_tokens (exclusion first second) rest =
      sub_tokens first (mark Minus ∷ sub_tokens second rest)
  constraint_tokens (dotted start name more) rest =
      sub_tokens start (mark Dot ∷ sub_tokens name (subs_tokens Dot more rest))

  -- the tokens of further operands, each after a token of `kind`, in front of `rest`
  pub subs_tokens : TokenKind → SubForms → List Symbol → List Symbol
  subs_tokens kind no_subs rest = rest
  subs_tokens kind (sub_then sub more) rest =
      mark kind ∷ sub_tokens sub (subs_tokens kind more rest)

  -- the tokens of an operand, in front of `rest`
  pub sub_tokens : SubForm → List Symbol → List Symbol
  sub_tokens (plain focus) rest = focus_tokens focus rest
  sub_tokens (member focus) rest = mark MemberOf ∷ focus_tokens focus rest
  sub_tokens (walk operator focus) rest = mark (operator_kind operator) ∷ focus_tokens focus rest
  sub_tokens (walk_member operator focus) rest =
      mark (operator_kind operator) ∷ mark MemberOf ∷ focus_tokens focus rest

  -- the tokens of a focus, in front of `rest`
  pub focus_tokens : FocusForm → List Symbol → List Symbol
  focus_tokens (concept run is) rest = digits run ∷ rest
  focus_tokens (concept_term run is) rest = digits run ∷ mark Term ∷ rest
  focus_tokens any rest = mark Wildcard ∷ rest
  focus_tokens (round constraint) rest =
      mark RoundOpen ∷ constraint_tokens constraint (mark RoundClose ∷ rest)

  -- the tokens of a refinement, in front of `rest`
  pub refinement_tokens : RefinementForm → List Symbol → List Symbol
  refinement_tokens (one_item item) rest = item_tokens item rest
  refinement_tokens (all_items first second more) rest =
      item_tokens first (mark And ∷ item_tokens second (items_tokens And more rest))
  refinement_tokens (some_items first second more) rest =
      item_tokens first (mark Or ∷ item_tokens second (items_tokens Or more rest))

  -- the tokens of further items, each after a token of `kind`, in front of `rest`
  pub items_tokens : TokenKind → ItemForms → List Symbol → List Symbol
  items_tokens kind no_items rest = rest
  items_tokens kind (item_then item more) rest =
      mark kind ∷ item_tokens item (items_tokens kind more rest)

  -- the tokens of an item, in front of `rest`
  pub item_tokens : ItemForm → List Symbol → List Symbol
  item_tokens (attribute count reverse pair) rest =
      counted_tokens count (reverse_tokens reverse (pair_tokens pair rest))
  item_tokens (group count set) rest =
      counted_tokens count (mark BraceOpen ∷ set_tokens set (mark BraceClose ∷ rest))
  item_tokens (round_refinement refinement) rest =
      mark RoundOpen ∷ refinement_tokens refinement (mark RoundClose ∷ rest)

  -- the tokens of an attribute set, in front of `rest`
  pub set_tokens : SetForm → List Symbol → List Symbol
  set_tokens (one_part part) rest = part_tokens part rest
  set_tokens (all_parts first second more) rest =
      part_tokens first (mark And ∷ part_tokens second (parts_tokens And more rest))
  set_tokens (some_parts first second more) rest =
      part_tokens first (mark Or ∷ part_tokens second (parts_tokens Or more rest))

  -- the tokens of further parts, each after a token of `kind`, in front of `rest`
  pub parts_tokens : TokenKind → PartForms → List Symbol → List Symbol
  parts_tokens kind no_parts rest = rest
  parts_tokens kind (part_then part more) rest =
      mark kind ∷ part_tokens part (parts_tokens kind more rest)

  -- the tokens of a part of an attribute set, in front of `rest`
  pub part_tokens : PartForm → List Symbol → List Symbol
  part_tokens (counted_part count pair) rest = counted_tokens count (pair_tokens pair rest)
  part_tokens (round_set set) rest = mark RoundOpen ∷ set_tokens set (mark RoundClose ∷ rest)

  -- the tokens of a name, its comparison and its value, in front of `rest`
  pub pair_tokens : PairForm → List Symbol → List Symbol
  pair_tokens (within name value) rest = sub_tokens name (mark EqualSign ∷ sub_tokens value rest)
  pair_tokens (outside name value) rest =
      sub_tokens name (mark NotEqualSign ∷ sub_tokens value rest)
  pair_tokens (number name compare text value is) rest =
      sub_tokens name (mark (compare_kind compare) ∷ decimal text ∷ rest)

-- the cardinality that a form derives, or `[1..*]` if there is no form
abbrev pub cardinality_of : Option CountForm → Cardinality
cardinality_of None = record { min = 1; max = None }
cardinality_of (Some (at_least least is)) = record { min = number_of least; max = None }
cardinality_of (Some (between least most is also)) =
    record { min = number_of least; max = Some (number_of most) }

-- the trees of forms
abbrev mutual
  -- the tree of a constraint form
  pub constraint_tree : ConstraintForm → Tree
  constraint_tree (alone sub) = sub_tree sub
  constraint_tree (refined focus refinement) =
      refined_tree (sub_tree focus) (refinement_tree refinement)
  constraint_tree (conjunction first second more) =
      and_tree (tree_then (sub_tree first) (tree_then (sub_tree second) (sub_trees more)))
  constraint_tree (disjunction first second more) =
      or_tree (tree_then (sub_tree first) (tree_then (sub_tree second) (sub_trees more)))
  constraint_tree (exclusion first second) = minus_tree (sub_tree first) (sub_tree second)
  constraint_tree (dotted start name more) =
      dotted_tree (sub_tree start) (tree_then (sub_tree name) (sub_trees more))

  -- the trees of further operands, in their order
  pub sub_trees : SubForms → Trees
  sub_trees no_subs = no_trees
  sub_trees (sub_then sub more) = tree_then (sub_tree sub) (sub_trees more)

  -- the tree of an operand; a hierarchy operator in front of `^` applies to the members of the
  -- reference sets
  pub sub_tree : SubForm → Tree
  sub_tree (plain focus) = focus_tree focus
  sub_tree (member focus) = member_tree (focus_tree focus)
  sub_tree (walk operator focus) = walk_tree operator (focus_tree focus)
  sub_tree (walk_member operator focus) = walk_tree operator (member_tree (focus_tree focus))

  -- the tree of a focus, which does not show the term of a concept or round brackets
  pub focus_tree : FocusForm → Tree
  focus_tree (concept run is) = concept_tree (number_of run)
  focus_tree (concept_term run is) = concept_tree (number_of run)
  focus_tree any = any_tree
  focus_tree (round constraint) = constraint_tree constraint

  -- the tree of a refinement form
  pub refinement_tree : RefinementForm → RefinementTree
  refinement_tree (one_item item) = item_tree item
  refinement_tree (all_items first second more) =
      and_refinement (refinement_then (item_tree first)
      (refinement_then (item_tree second) (item_trees more)))
  refinement_tree (some_items first second more) =
      or_refinement (refinement_then (item_tree first)
      (refinement_then (item_tree second) (item_trees more)))

  -- the trees of further items, in their order
  pub item_trees : ItemForms → RefinementTrees
  item_trees no_items = no_refinements
  item_trees (item_then item more) = refinement_then (item_tree item) (item_trees more)

  -- the tree of an item
  pub item_tree : ItemForm → RefinementTree
  item_tree (attribute count reverse pair) = one_refinement (pair_tree count reverse pair)
  item_tree (group count set) = group_refinement (cardinality_of count) (set_tree set)
  item_tree (round_refinement refinement) = refinement_tree refinement

  -- the tree of an attribute set form
  pub set_tree : SetForm → AttributeSetTree
  set_tree (one_part part) = part_tree part
  set_tree (all_parts first second more) =
      and_set (set_then (part_tree first) (set_then (part_tree second) (part_trees more)))
  set_tree (some_parts first second more) =
      or_set (set_then (part_tree first) (set_then (part_tree second) (part_trees more)))

  -- the trees of further parts, in their order
  pub part_trees : PartForms → AttributeSetTrees
  part_trees no_parts = no_sets
  part_trees (part_then part more) = set_then (part_tree part) (part_trees more)

  -- the tree of a part of an attribute set; its attribute is never read backwards
  pub part_tree : PartForm → AttributeSetTree
  part_tree (counted_part count pair) = one_set (pair_tree count false pair)
  part_tree (round_set set) = set_tree set

  -- the tree of an attribute, from its cardinality, whether it is read backwards, and its name and
  -- test
  pub pair_tree : Option CountForm → Bool → PairForm → AttributeTree
  pair_tree count reverse (within name value) =
      attribute_tree (cardinality_of count) reverse (sub_tree name) (within_test (sub_tree value))
  pair_tree count reverse (outside name value) =
      attribute_tree (cardinality_of count) reverse (sub_tree name) (outside_test (sub_tree value))
  pair_tree count reverse (number name compare text value is) =
      attribute_tree (cardinality_of count) reverse (sub_tree name) (number_test compare value)

-- some form derives the tokens, and its tree is `tree`
abbrev pub IsTreeOf : List Spelled → Tree → Type 0
IsTreeOf tokens tree =
    (form : ConstraintForm) × (map symbol_of tokens ≡ constraint_tokens form [])
    × (tree ≡ constraint_tree form)

-- no list of tokens derives from forms with two different trees
abbrev pub HaveOneTree : Type 0
HaveOneTree = (tokens : List Spelled) (one other : Tree) → IsTreeOf tokens one
    → IsTreeOf tokens other → one ≡ other
