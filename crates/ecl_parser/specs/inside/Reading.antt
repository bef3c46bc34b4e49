-- How tokens are read, as functions on lists. Each function reads from the front of the list and
-- returns its result with the tokens after it, or `None`. The grammar, not this file, defines which
-- texts are constraints.
use Rattle.std.specs.Prelude.{ℕ, zero, suc, ℤ, Bool, true, false, if◌then◌else◌, List, [], ◌∷◌, ◌++◌, length, drop}
use Rattle.std.specs.Prelude.{Option, None, Some, is_some, option_map}
use Rattle.ecl_lexer.specs.declared.token.TokenKind.{TokenKind}
use Rattle.ecl_lexer.specs.declared.token.TokenKind.TheVariants as token
use Rattle.numerals.specs.Numbers.{is_number, number_of}
use Rattle.numerals.specs.Decimals.{decimal_of}
use Rattle.constraint_tree.specs.Grammar.{Symbol, digits, decimal, mark}
use Rattle.constraint_tree.specs.Tree.{Tree, concept_tree, any_tree, walk_tree, member_tree, and_tree, or_tree}
use Rattle.constraint_tree.specs.Tree.{minus_tree, dotted_tree, refined_tree, trees_from, RefinementTree}
use Rattle.constraint_tree.specs.Tree.{one_refinement, group_refinement, and_refinement, or_refinement}
use Rattle.constraint_tree.specs.Tree.{refinements_from, AttributeSetTree, one_set, and_set, or_set, sets_from}
use Rattle.constraint_tree.specs.Tree.{AttributeTree, attribute_tree, TestTree, within_test, outside_test, number_test}
use Rattle.constraint_tree.specs.declared.operator.Cardinality.{Cardinality}
use Rattle.constraint_tree.specs.declared.operator.Compare.{Compare}
use Rattle.constraint_tree.specs.declared.operator.Compare.TheVariants as compare
use Rattle.constraint_tree.specs.declared.operator.Operator.{Operator}
use Rattle.constraint_tree.specs.declared.operator.Operator.TheVariants as operator
use Rattle.ecl_parser.specs.declared.tokens.Mark.{Mark}
use Rattle.ecl_parser.specs.declared.tokens.Mark.TheVariants as marks

-- a result and the tokens after it, or `None` if the tokens cannot be read
abbrev pub Found : Type 0 → Type 0
Found T = Option (T × List Symbol)

-- the result of `next` on what was read and the tokens after it, or `None` if nothing was read
infixl 10 ◌>>=◌
abbrev pub ◌>>=◌ : {S T : Type 0} → Found S → (S → List Symbol → Option T) → Option T
None >>= next = None
(Some found) >>= next = next found.0 found.1

-- whether `kind` is the kind of token that the mark `wanted` names
abbrev pub is_mark : Mark → TokenKind → Bool
is_mark marks.And token.And = true
is_mark marks.Or token.Or = true
is_mark marks.Minus token.Minus = true
is_mark marks.Colon token.Colon = true
is_mark marks.Dot token.Dot = true
is_mark marks.Dots token.Dots = true
is_mark marks.RoundOpen token.RoundOpen = true
is_mark marks.RoundClose token.RoundClose = true
is_mark marks.BraceOpen token.BraceOpen = true
is_mark marks.BraceClose token.BraceClose = true
is_mark marks.BracketOpen token.BracketOpen = true
is_mark marks.BracketClose token.BracketClose = true
is_mark marks.Wildcard token.Wildcard = true
is_mark marks.MemberOf token.MemberOf = true
is_mark marks.Reverse token.Reverse = true
is_mark marks.Term token.Term = true
is_mark wanted kind = false

-- the tokens after the first if the first is the mark `wanted`, or `None`
abbrev pub following : Mark → List Symbol → Option (List Symbol)
following wanted (mark kind ∷ rest) = if is_mark wanted kind then Some rest else None
following wanted tokens = None

-- whether the first token is the mark `wanted`
abbrev pub stands : Mark → List Symbol → Bool
stands wanted tokens = is_some (following wanted tokens)

-- the result of `present` on the value of an option, or `absent` if it has none
abbrev pub otherwise : {A B : Type 0} → Option A → B → (A → B) → B
otherwise None absent present = absent
otherwise (Some item) absent present = present item

-- what was read, if the mark `wanted` follows it, with the tokens after that mark
abbrev pub closed : {T : Type 0} → Mark → Found T → Found T
closed wanted found = found >>= λ item rest. option_map (λ left. (item, left))
    (following wanted rest)

-- the hierarchy operator that a kind of token spells, or `None`
abbrev pub operator_of : TokenKind → Option Operator
operator_of token.DescendantOf = Some operator.Descendants
operator_of token.DescendantOrSelfOf = Some operator.DescendantsOrSelf
operator_of token.ChildOf = Some operator.Children
operator_of token.ChildOrSelfOf = Some operator.ChildrenOrSelf
operator_of token.AncestorOf = Some operator.Ancestors
operator_of token.AncestorOrSelfOf = Some operator.AncestorsOrSelf
operator_of token.ParentOf = Some operator.Parents
operator_of token.ParentOrSelfOf = Some operator.ParentsOrSelf
operator_of token.Top = Some operator.Top
operator_of token.Bottom = Some operator.Bottom
operator_of other = None

-- the comparison that a kind of token spells, or `None`
abbrev pub compare_of : TokenKind → Option Compare
compare_of token.Equal = Some compare.Equal
compare_of token.NotEqual = Some compare.NotEqual
compare_of token.DescendantOf = Some compare.Less
compare_of token.LessOrEqual = Some compare.LessOrEqual
compare_of token.AncestorOf = Some compare.Greater
compare_of token.GreaterOrEqual = Some compare.GreaterOrEqual
compare_of other = None

-- reads a hierarchy operator
abbrev pub operator_at : List Symbol → Found Operator
operator_at (mark kind ∷ rest) = option_map (λ operator. (operator, rest)) (operator_of kind)
operator_at tokens = None

-- reads a comparison
abbrev pub compare_at : List Symbol → Found Compare
compare_at (mark kind ∷ rest) = option_map (λ compare. (compare, rest)) (compare_of kind)
compare_at tokens = None

-- reads a token of `least` to 18 digits as the number that they spell
abbrev pub digits_at : ℕ → List Symbol → Found ℕ
digits_at least (digits run ∷ rest) =
    if is_number least 18 run then Some (number_of run, rest) else None
digits_at least tokens = None

-- reads a number
abbrev pub number_at : List Symbol → Found ℤ
number_at (decimal text ∷ rest) = option_map (λ value. (value, rest)) (decimal_of (drop 1 text))
number_at tokens = None

-- the readers of the rules that may stand within brackets; they allow one open bracket less than
-- the readers outside
pub record Readers : Type 0 where
  -- reads a constraint
  pub constraint : List Symbol → Found Tree
  -- reads a refinement
  pub refinement : List Symbol → Found RefinementTree
  -- reads an attribute set
  pub set : List Symbol → Found AttributeSetTree

-- the tokens after the term at the front, or all tokens if there is none
abbrev pub after_term : List Symbol → List Symbol
after_term tokens = otherwise (following marks.Term tokens) tokens (λ rest. rest)

-- a tree, or, if the first argument is true, the members of the reference sets that it denotes
abbrev pub membered : Bool → Tree → Tree
membered true tree = member_tree tree
membered false tree = tree

-- a tree, with the hierarchy operator applied if there is one
abbrev pub walked : Option Operator → Tree → Tree
walked None tree = tree
walked (Some operator) tree = walk_tree operator tree

-- reads the rule Focus: a concept, `*`, or a constraint in brackets
unfoldable pub focus_in : Readers → List Symbol → Found Tree
focus_in inner tokens =
    otherwise (digits_at 6 tokens)
    (otherwise (following marks.Wildcard tokens)
    (otherwise (following marks.RoundOpen tokens) None
    (λ rest. closed marks.RoundClose (inner.constraint rest)))
    (λ rest. Some (any_tree, rest)))
    (λ found. Some (concept_tree found.0, after_term found.1))

-- reads an optional `^` and a Focus
unfoldable pub member_in : Readers → List Symbol → Found Tree
member_in inner tokens =
    otherwise (following marks.MemberOf tokens) (focus_in inner tokens)
    (λ rest. focus_in inner rest >>= λ focus left. Some (member_tree focus, left))

-- reads the rule Sub: an optional hierarchy operator and its operand
unfoldable pub sub_in : Readers → List Symbol → Found Tree
sub_in inner tokens =
    otherwise (operator_at tokens) (member_in inner tokens)
    (λ found. member_in inner found.1 >>= λ operand left. Some (walk_tree found.0 operand, left))

-- reads at most `turns` items, each after a token of the kind `wanted`
unfoldable pub many : {T : Type 0} → (List Symbol → Found T) → Mark → ℕ → List Symbol
    → Found (List T)
many reader wanted zero tokens = Some ([], tokens)
many reader wanted (suc turns) tokens =
    otherwise (following wanted tokens) (Some ([], tokens))
    (λ rest. reader rest >>= λ item left. many reader wanted turns left >>= λ more end. Some
    (item ∷ more, end))

-- reads all items, each after a token of the kind `wanted`
abbrev pub all_after : {T : Type 0} → (List Symbol → Found T) → Mark → List Symbol → Found (List T)
all_after reader wanted tokens = many reader wanted (length tokens) tokens

-- adds items that were read before at the front of the items that are read
abbrev pub with_front : {T : Type 0} → List T → Found (List T) → Found (List T)
with_front front found = found >>= λ more rest. Some (front ++ more, rest)

-- reads the maximum of a cardinality: `*` or digits
abbrev pub most_at : List Symbol → Found (Option ℕ)
most_at tokens =
    otherwise (following marks.Wildcard tokens)
    (digits_at 1 tokens >>= λ most rest. Some (Some most, rest))
    (λ rest. Some (None, rest))

-- the cardinality `[1..*]`
abbrev pub some_or_more : Cardinality
some_or_more = record { min = 1; max = None }

-- reads the bounds of a cardinality, and the bracket that closes it
unfoldable pub bounds_at : List Symbol → Found Cardinality
bounds_at tokens =
    closed marks.Dots (digits_at 1 tokens) >>= λ least rest.
    closed marks.BracketClose (most_at rest) >>= λ most left.
    Some (record { min = least; max = most }, left)

-- reads the rule Count: a cardinality, or the default `[1..*]` if no `[` stands in front
abbrev pub count_at : List Symbol → Found Cardinality
count_at tokens = otherwise (following marks.BracketOpen tokens) (Some (some_or_more, tokens))
    bounds_at

-- reads the Sub that `=` and `!=` compare with; other comparisons need a number
abbrev pub value_test : Readers → Compare → List Symbol → Found TestTree
value_test inner compare.Equal tokens =
    sub_in inner tokens >>= λ value rest. Some (within_test value, rest)
value_test inner compare.NotEqual tokens =
    sub_in inner tokens >>= λ value rest. Some (outside_test value, rest)
value_test inner other tokens = None

-- reads the value of a comparison: a number, or a Sub after `=` and `!=`
unfoldable pub test_in : Readers → Compare → List Symbol → Found TestTree
test_in inner compare tokens =
    otherwise (number_at tokens) (value_test inner compare tokens)
    (λ found. Some (number_test compare found.0, found.1))

-- reads the rule Pair: a name, a comparison and a value
unfoldable pub pair_in : Readers → Cardinality → Bool → List Symbol → Found AttributeTree
pair_in inner count reverse tokens =
    sub_in inner tokens >>= λ name rest.
    compare_at rest >>= λ compare following.
    test_in inner compare following >>= λ test left.
    Some (attribute_tree count reverse name test, left)

-- the tokens after the `)` that closes an earlier `(`, if `level` round brackets that were opened
-- after it are still open
abbrev pub after_close : ℕ → List Symbol → List Symbol
after_close level [] = []
after_close level (mark token.RoundOpen ∷ rest) = after_close (suc level) rest
after_close zero (mark token.RoundClose ∷ rest) = rest
after_close (suc level) (mark token.RoundClose ∷ rest) = after_close level rest
after_close level (symbol ∷ rest) = after_close level rest

-- the tokens after a `(` at the front that does not begin the name of an attribute, because no
-- comparison follows its `)`; otherwise `None`
abbrev pub bracketed_at : List Symbol → Option (List Symbol)
bracketed_at tokens =
    otherwise (following marks.RoundOpen tokens) None
    (λ rest. if is_some (compare_at (after_close 0 rest)) then None else Some rest)

-- reads the rule Part: an attribute set in brackets, or a cardinality and an attribute
unfoldable pub part_in : Readers → List Symbol → Found AttributeSetTree
part_in inner tokens =
    otherwise (bracketed_at tokens)
    (count_at tokens >>= λ count rest. pair_in inner count false rest >>= λ pair left. Some
    (one_set pair, left))
    (λ rest. closed marks.RoundClose (inner.set rest))

-- reads what follows the first part of an attribute set
unfoldable pub set_after : Readers → AttributeSetTree → List Symbol → Found AttributeSetTree
set_after inner first tokens =
    if stands marks.And tokens
    then (with_front (first ∷ []) (all_after (part_in inner) marks.And tokens) >>= λ parts left.
    Some (and_set (sets_from parts), left))
    else if stands marks.Or tokens
    then (with_front (first ∷ []) (all_after (part_in inner) marks.Or tokens) >>= λ parts left. Some
    (or_set (sets_from parts), left))
    else Some (first, tokens)

-- reads the rule Set: parts joined by AND or by OR
unfoldable pub set_in : Readers → List Symbol → Found AttributeSetTree
set_in inner tokens = part_in inner tokens >>= set_after inner

-- reads what follows the cardinality of an item
unfoldable pub item_after : Readers → Cardinality → List Symbol → Found RefinementTree
item_after inner count tokens =
    otherwise (following marks.BraceOpen tokens)
    (otherwise (following marks.Reverse tokens)
    (pair_in inner count false tokens >>= λ pair left. Some (one_refinement pair, left))
    (λ rest. pair_in inner count true rest >>= λ pair left. Some (one_refinement pair, left)))
    (λ rest. closed marks.BraceClose (inner.set rest) >>= λ set left. Some
    (group_refinement count set, left))

-- reads the rule Item: a refinement in brackets, or a cardinality and an attribute or a group of
-- attributes
unfoldable pub item_in : Readers → List Symbol → Found RefinementTree
item_in inner tokens =
    otherwise (bracketed_at tokens)
    (count_at tokens >>= item_after inner)
    (λ rest. closed marks.RoundClose (inner.refinement rest))

-- reads what follows the first item of a refinement
unfoldable pub refinement_after : Readers → RefinementTree → List Symbol → Found RefinementTree
refinement_after inner first tokens =
    if stands marks.And tokens
    then (with_front (first ∷ []) (all_after (item_in inner) marks.And tokens) >>= λ parts left.
    Some (and_refinement (refinements_from parts), left))
    else if stands marks.Or tokens
    then (with_front (first ∷ []) (all_after (item_in inner) marks.Or tokens) >>= λ parts left. Some
    (or_refinement (refinements_from parts), left))
    else Some (first, tokens)

-- reads the rule Refinement: items joined by AND or by OR
unfoldable pub refinement_in : Readers → List Symbol → Found RefinementTree
refinement_in inner tokens = item_in inner tokens >>= refinement_after inner

-- reads the names of a dotted constraint after its start
abbrev pub dotted_after : Readers → Tree → List Symbol → Found Tree
dotted_after inner first tokens =
    with_front [] (all_after (sub_in inner) marks.Dot tokens) >>= λ names left. Some
    (dotted_tree first (trees_from names), left)

-- reads the refinement of a constraint after its focus
abbrev pub refined_after : Readers → Tree → List Symbol → Found Tree
refined_after inner first tokens =
    refinement_in inner tokens >>= λ refinement left. Some (refined_tree first refinement, left)

-- reads the second operand of `MINUS`
abbrev pub minus_after : Readers → Tree → List Symbol → Found Tree
minus_after inner first tokens =
    sub_in inner tokens >>= λ second left. Some (minus_tree first second, left)

-- reads what follows the first Sub of a constraint
unfoldable pub constraint_after : Readers → Tree → List Symbol → Found Tree
constraint_after inner first tokens =
    if stands marks.And tokens
    then (with_front (first ∷ []) (all_after (sub_in inner) marks.And tokens) >>= λ parts left. Some
    (and_tree (trees_from parts), left))
    else if stands marks.Or tokens
    then (with_front (first ∷ []) (all_after (sub_in inner) marks.Or tokens) >>= λ parts left. Some
    (or_tree (trees_from parts), left))
    else if stands marks.Dot tokens
    then dotted_after inner first tokens
    else otherwise (following marks.Colon tokens)
    (otherwise (following marks.Minus tokens) (Some (first, tokens)) (minus_after inner first))
    (refined_after inner first)

-- reads the rule Constraint: a Sub that stands alone, is joined with others, is refined, or is
-- followed by dots and names
unfoldable pub constraint_in : Readers → List Symbol → Found Tree
constraint_in inner tokens = sub_in inner tokens >>= constraint_after inner

-- the readers of the rules within brackets, if `most` brackets may still be opened; for 0 they read
-- nothing
unfoldable pub readers : ℕ → Readers
readers zero = record {
  constraint = λ tokens. None;
  refinement = λ tokens. None;
  set = λ tokens. None;
}
readers (suc most) = record {
  constraint = constraint_in (readers most);
  refinement = refinement_in (readers most);
  set = set_in (readers most);
}
