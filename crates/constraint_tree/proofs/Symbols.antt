-- The symbols that the text of a tree spells, and the forms that derive them. A tree with a form is printable: its
-- numbers have as many digits as the grammar asks for, and its lists have at least two parts.
use Rattle.std.proofs.Common.{ℕ, ◌≡◌, ◌==◌, Bool, true, false, if◌then◌else◌, List, ◌∷◌, Option, None, Some, drop}
use Rattle.std.proofs.Common.{decimal, IsTrue}
use Rattle.ecl_lexer.specs.declared.token.TokenKind.{TokenKind}
use Rattle.ecl_lexer.specs.declared.token.TokenKind.TheVariants.{MemberOf, Wildcard, RoundOpen, RoundClose, BraceOpen}
use Rattle.ecl_lexer.specs.declared.token.TokenKind.TheVariants.{BraceClose, BracketOpen, BracketClose, Colon, Dot}
use Rattle.ecl_lexer.specs.declared.token.TokenKind.TheVariants.{Dots, Equal as EqualSign, NotEqual as NotEqualSign}
use Rattle.ecl_lexer.specs.declared.token.TokenKind.TheVariants.{And, Or, Minus}
use Rattle.numerals.specs.Numbers.{is_number, number_of}
use Rattle.numerals.specs.Decimals.{decimal_of}
use Rattle.constraint_tree.specs.declared.operator.Cardinality.{Cardinality}
use Rattle.constraint_tree.specs.Grammar.{Symbol, digits, decimal as decimal_symbol, mark, operator_kind, compare_kind}
use Rattle.constraint_tree.specs.Grammar.{reverse_tokens}
use Rattle.constraint_tree.specs.Text.{is_focus, is_item, is_member_or_focus, is_part, is_sub, number_text}
use Rattle.constraint_tree.specs.Tree.{Tree, concept_tree, any_tree, walk_tree, member_tree, and_tree, or_tree}
use Rattle.constraint_tree.specs.Tree.{minus_tree, dotted_tree, refined_tree, Trees, no_trees, tree_then}
use Rattle.constraint_tree.specs.Tree.{RefinementTree, one_refinement, group_refinement, and_refinement, or_refinement}
use Rattle.constraint_tree.specs.Tree.{RefinementTrees, no_refinements, refinement_then, AttributeSetTree, one_set}
use Rattle.constraint_tree.specs.Tree.{and_set, or_set, AttributeSetTrees, no_sets, set_then, AttributeTree}
use Rattle.constraint_tree.specs.Tree.{attribute_tree, TestTree, within_test, outside_test, number_test}

-- `(` in front of `rest`, or `rest` alone if the text needs no brackets
abbrev pub opened : Bool → List Symbol → List Symbol
opened true rest = rest
opened false rest = mark RoundOpen ∷ rest

-- `)` in front of `rest`, or `rest` alone if the text needs no brackets
abbrev pub closed : Bool → List Symbol → List Symbol
closed true rest = rest
closed false rest = mark RoundClose ∷ rest

-- symbols in brackets, or without if they need none, in front of `rest`
abbrev pub placed : Bool → (List Symbol → List Symbol) → List Symbol → List Symbol
placed stands symbols rest = opened stands (symbols (closed stands rest))

-- the symbols of a cardinality's maximum, in front of `rest`
abbrev pub most_symbols : Option ℕ → List Symbol → List Symbol
most_symbols None rest = mark Wildcard ∷ rest
most_symbols (Some most) rest = digits (decimal most) ∷ rest

-- the symbols of a cardinality in square brackets, in front of `rest`
abbrev pub range_symbols : ℕ → Option ℕ → List Symbol → List Symbol
range_symbols least most rest =
    mark BracketOpen ∷ digits (decimal least) ∷ mark Dots ∷ most_symbols most (mark BracketClose ∷ rest)

-- the symbols of a cardinality, none for `[1..*]`, in front of `rest`
abbrev pub count_symbols : ℕ → Option ℕ → List Symbol → List Symbol
count_symbols least None rest = if least == 1 then rest else range_symbols least None rest
count_symbols least (Some most) rest = range_symbols least (Some most) rest

-- the symbols of the text of a tree, and then `rest`
abbrev mutual
  -- the symbols of the text of a constraint, in front of further symbols
  pub constraint_symbols : Tree → List Symbol → List Symbol
  constraint_symbols (concept_tree id) rest = digits (decimal id) ∷ rest
  constraint_symbols any_tree rest = mark Wildcard ∷ rest
  constraint_symbols (walk_tree operator operand) rest =
      mark (operator_kind operator) ∷ placed (is_member_or_focus operand) (constraint_symbols operand) rest
  constraint_symbols (member_tree operand) rest =
      mark MemberOf ∷ placed (is_focus operand) (constraint_symbols operand) rest
  constraint_symbols (and_tree parts) rest = joined_symbols And parts rest
  constraint_symbols (or_tree parts) rest = joined_symbols Or parts rest
  constraint_symbols (minus_tree first second) rest =
      placed (is_sub first) (constraint_symbols first)
      (mark Minus ∷ placed (is_sub second) (constraint_symbols second) rest)
  constraint_symbols (dotted_tree start names) rest =
      placed (is_sub start) (constraint_symbols start) (listed_symbols Dot names rest)
  constraint_symbols (refined_tree focus refinement) rest =
      placed (is_sub focus) (constraint_symbols focus) (mark Colon ∷ refinement_symbols refinement rest)

  -- the symbols of the texts of operands, with a token of `kind` between two of them, in front of further symbols
  pub joined_symbols : TokenKind → Trees → List Symbol → List Symbol
  joined_symbols kind no_trees rest = rest
  joined_symbols kind (tree_then first more) rest =
      placed (is_sub first) (constraint_symbols first) (listed_symbols kind more rest)

  -- the symbols of the texts of operands, each after a token of `kind`, in front of further symbols
  pub listed_symbols : TokenKind → Trees → List Symbol → List Symbol
  listed_symbols kind no_trees rest = rest
  listed_symbols kind (tree_then first more) rest =
      mark kind ∷ placed (is_sub first) (constraint_symbols first) (listed_symbols kind more rest)

  -- the symbols of the text of a refinement, in front of further symbols
  pub refinement_symbols : RefinementTree → List Symbol → List Symbol
  refinement_symbols (one_refinement what) rest = attribute_symbols what rest
  refinement_symbols (group_refinement count set) rest =
      count_symbols count.min count.max (mark BraceOpen ∷ set_symbols set (mark BraceClose ∷ rest))
  refinement_symbols (and_refinement parts) rest = joined_item_symbols And parts rest
  refinement_symbols (or_refinement parts) rest = joined_item_symbols Or parts rest

  -- the symbols of the texts of items, with a token of `kind` between two of them, in front of further symbols
  pub joined_item_symbols : TokenKind → RefinementTrees → List Symbol → List Symbol
  joined_item_symbols kind no_refinements rest = rest
  joined_item_symbols kind (refinement_then first more) rest =
      placed (is_item first) (refinement_symbols first) (listed_item_symbols kind more rest)

  -- the symbols of the texts of items, each after a token of `kind`, in front of further symbols
  pub listed_item_symbols : TokenKind → RefinementTrees → List Symbol → List Symbol
  listed_item_symbols kind no_refinements rest = rest
  listed_item_symbols kind (refinement_then first more) rest =
      mark kind ∷ placed (is_item first) (refinement_symbols first) (listed_item_symbols kind more rest)

  -- the symbols of the text of an attribute set, in front of further symbols
  pub set_symbols : AttributeSetTree → List Symbol → List Symbol
  set_symbols (one_set what) rest = attribute_symbols what rest
  set_symbols (and_set parts) rest = joined_part_symbols And parts rest
  set_symbols (or_set parts) rest = joined_part_symbols Or parts rest

  -- the symbols of the texts of parts, with a token of `kind` between two of them, in front of further symbols
  pub joined_part_symbols : TokenKind → AttributeSetTrees → List Symbol → List Symbol
  joined_part_symbols kind no_sets rest = rest
  joined_part_symbols kind (set_then first more) rest =
      placed (is_part first) (set_symbols first) (listed_part_symbols kind more rest)

  -- the symbols of the texts of parts, each after a token of `kind`, in front of further symbols
  pub listed_part_symbols : TokenKind → AttributeSetTrees → List Symbol → List Symbol
  listed_part_symbols kind no_sets rest = rest
  listed_part_symbols kind (set_then first more) rest =
      mark kind ∷ placed (is_part first) (set_symbols first) (listed_part_symbols kind more rest)

  -- the symbols of the text of an attribute, in front of further symbols
  pub attribute_symbols : AttributeTree → List Symbol → List Symbol
  attribute_symbols (attribute_tree count reverse name test) rest =
      count_symbols count.min count.max (reverse_tokens reverse
      (placed (is_sub name) (constraint_symbols name) (test_symbols test rest)))

  -- the symbols of the text of a value test, in front of further symbols
  pub test_symbols : TestTree → List Symbol → List Symbol
  test_symbols (within_test operand) rest = mark EqualSign ∷ placed (is_sub operand) (constraint_symbols operand) rest
  test_symbols (outside_test operand) rest =
      mark NotEqualSign ∷ placed (is_sub operand) (constraint_symbols operand) rest
  test_symbols (number_test compare value) rest =
      mark (compare_kind compare) ∷ decimal_symbol (number_text value) ∷ rest

-- the decimal digits of `written` are `least` to `most` digits, and they spell `written`
pub record HasDigits (least most written : ℕ) : Type 0 where
  -- the decimal digits are a number of `least` to `most` digits
  pub is : IsTrue (is_number least most (decimal written))
  -- the decimal digits spell `written`
  pub value : number_of (decimal written) ≡ written

-- the maximum of a cardinality, if there is one, has 1 to 18 digits
abbrev pub IsPrintableMost : Option ℕ → Type 0
IsPrintableMost None = Unit {0}
IsPrintableMost (Some most) = HasDigits 1 18 most

-- the minimum and the maximum of a cardinality have 1 to 18 digits each
abbrev pub IsPrintableCount : Cardinality → Type 0
IsPrintableCount count = HasDigits 1 18 count.min × IsPrintableMost count.max

-- a list has at least one part
abbrev pub HasOne : Trees → Type 0
HasOne no_trees = ⊥
HasOne (tree_then first rest) = Unit {0}

-- a list has at least two parts
abbrev pub HasTwo : Trees → Type 0
HasTwo no_trees = ⊥
HasTwo (tree_then first rest) = HasOne rest

-- a list of refinements has at least two parts
abbrev pub HasTwoItems : RefinementTrees → Type 0
HasTwoItems no_refinements = ⊥
HasTwoItems (refinement_then first no_refinements) = ⊥
HasTwoItems (refinement_then first (refinement_then second rest)) = Unit {0}

-- a list of attribute sets has at least two parts
abbrev pub HasTwoParts : AttributeSetTrees → Type 0
HasTwoParts no_sets = ⊥
HasTwoParts (set_then first no_sets) = ⊥
HasTwoParts (set_then first (set_then second rest)) = Unit {0}

-- an attribute is not read backwards
abbrev pub IsForward : AttributeTree → Type 0
IsForward (attribute_tree count reverse name test) = reverse ≡ false

abbrev mutual
  -- a constraint is printable: its identifiers have 6 to 18 digits, its lists have at least two parts (at least one
  -- name after a dot), and its refinements are printable
  pub IsPrintable : Tree → Type 0
  IsPrintable (concept_tree id) = HasDigits 6 18 id
  IsPrintable any_tree = Unit {0}
  IsPrintable (walk_tree operator operand) = IsPrintable operand
  IsPrintable (member_tree operand) = IsPrintable operand
  IsPrintable (and_tree parts) = HasTwo parts × ArePrintable parts
  IsPrintable (or_tree parts) = HasTwo parts × ArePrintable parts
  IsPrintable (minus_tree first second) = IsPrintable first × IsPrintable second
  IsPrintable (dotted_tree start names) = IsPrintable start × HasOne names × ArePrintable names
  IsPrintable (refined_tree focus refinement) = IsPrintable focus × IsPrintableRefinement refinement

  -- every constraint of a list is printable
  pub ArePrintable : Trees → Type 0
  ArePrintable no_trees = Unit {0}
  ArePrintable (tree_then first rest) = IsPrintable first × ArePrintable rest

  -- a refinement is printable: its cardinalities have bounds of 1 to 18 digits, its lists have at least two parts,
  -- and its constraints, sets and numbers are printable
  pub IsPrintableRefinement : RefinementTree → Type 0
  IsPrintableRefinement (one_refinement what) = IsPrintableAttribute what
  IsPrintableRefinement (group_refinement count set) = IsPrintableCount count × IsPrintableSet set
  IsPrintableRefinement (and_refinement parts) = HasTwoItems parts × ArePrintableItems parts
  IsPrintableRefinement (or_refinement parts) = HasTwoItems parts × ArePrintableItems parts

  -- every refinement of a list is printable
  pub ArePrintableItems : RefinementTrees → Type 0
  ArePrintableItems no_refinements = Unit {0}
  ArePrintableItems (refinement_then first rest) = IsPrintableRefinement first × ArePrintableItems rest

  -- an attribute set is printable, and none of its attributes is read backwards
  pub IsPrintableSet : AttributeSetTree → Type 0
  IsPrintableSet (one_set what) = IsForward what × IsPrintableAttribute what
  IsPrintableSet (and_set parts) = HasTwoParts parts × ArePrintableParts parts
  IsPrintableSet (or_set parts) = HasTwoParts parts × ArePrintableParts parts

  -- every attribute set of a list is printable
  pub ArePrintableParts : AttributeSetTrees → Type 0
  ArePrintableParts no_sets = Unit {0}
  ArePrintableParts (set_then first rest) = IsPrintableSet first × ArePrintableParts rest

  -- an attribute is printable: the bounds of its cardinality have 1 to 18 digits, and its name and its test are
  -- printable
  pub IsPrintableAttribute : AttributeTree → Type 0
  IsPrintableAttribute (attribute_tree count reverse name test) =
      IsPrintableCount count × IsPrintable name × IsPrintableTest test

  -- a value test is printable: its constraint is, or its number is read back from its text
  pub IsPrintableTest : TestTree → Type 0
  IsPrintableTest (within_test operand) = IsPrintable operand
  IsPrintableTest (outside_test operand) = IsPrintable operand
  IsPrintableTest (number_test compare value) = decimal_of (drop 1 (number_text value)) ≡ Some value
