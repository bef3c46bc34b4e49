-- How many brackets are open at once in the printed text of a tree: at most as many as in the tokens of any form of
-- the tree, which may have more brackets.
use Rattle.std.proofs.Common.{ℕ, ◌≡◌, ◌==◌, ◌&&◌, ◌||◌, ◌+◌, ◌-◌, ◌≤◌, max, Bool, true, false, List, [], ◌∷◌, Option}
use Rattle.std.proofs.Common.{None, Some, if◌then◌else◌, refl, ap, sym, ◌∙◌, arith}
use Rattle.std.proofs.lemmas.Bool.{eqb-false}
use Rattle.std.proofs.lemmas.Bool.Decides.{nat_tests}
use Rattle.ecl_lexer.specs.declared.token.TokenKind.{TokenKind}
use Rattle.ecl_lexer.specs.declared.token.TokenKind.TheVariants.{MemberOf, Wildcard, RoundOpen, RoundClose, BraceOpen}
use Rattle.ecl_lexer.specs.declared.token.TokenKind.TheVariants.{BraceClose, Colon, Dot, Equal as EqualSign}
use Rattle.ecl_lexer.specs.declared.token.TokenKind.TheVariants.{NotEqual as NotEqualSign, And, Or, Minus, Reverse}
use Rattle.ecl_lexer.specs.declared.token.TokenKind.TheVariants.{Digits, Number}
use Rattle.constraint_tree.specs.declared.operator.Compare.{Compare}
use Rattle.constraint_tree.specs.declared.operator.Compare.TheVariants.{Equal}
use Rattle.constraint_tree.specs.declared.operator.Operator.{Operator}
use Rattle.constraint_tree.specs.declared.operator.Operator.TheVariants.{Descendants}
use Rattle.constraint_tree.specs.Grammar.{Symbol, digits, decimal, mark, operator_kind, compare_kind, reverse_tokens}
use Rattle.constraint_tree.specs.Refusal.{most_open, opens, open_after}
use Rattle.constraint_tree.specs.Text.{is_focus, is_item, is_member_or_focus, is_part, is_sub}
use Rattle.constraint_tree.specs.Tree.{Tree, concept_tree, any_tree, walk_tree, member_tree, and_tree, or_tree}
use Rattle.constraint_tree.specs.Tree.{minus_tree, dotted_tree, refined_tree, Trees, no_trees, tree_then}
use Rattle.constraint_tree.specs.Tree.{RefinementTree, one_refinement, group_refinement, and_refinement, or_refinement}
use Rattle.constraint_tree.specs.Tree.{RefinementTrees, no_refinements, refinement_then, AttributeSetTree, one_set}
use Rattle.constraint_tree.specs.Tree.{and_set, or_set, AttributeSetTrees, no_sets, set_then, AttributeTree}
use Rattle.constraint_tree.specs.Tree.{attribute_tree, TestTree, within_test, outside_test, number_test}
use Rattle.constraint_tree.proofs.Symbols.{placed, constraint_symbols, joined_symbols, listed_symbols}
use Rattle.constraint_tree.proofs.Symbols.{refinement_symbols, joined_item_symbols, listed_item_symbols, set_symbols}
use Rattle.constraint_tree.proofs.Symbols.{joined_part_symbols, listed_part_symbols, attribute_symbols, test_symbols}
use Rattle.constraint_tree.proofs.Symbols.{count_symbols, range_symbols}

-- the kind of token that a symbol stands for
abbrev pub kind_of_symbol : Symbol → TokenKind
kind_of_symbol (digits run) = Digits
kind_of_symbol (decimal text) = Number
kind_of_symbol (mark kind) = kind

-- whether more than `most_open` brackets are open at once somewhere among symbols, if `count` are open before them
abbrev pub symbols_deep : ℕ → List Symbol → Bool
symbols_deep count [] = false
symbols_deep count (symbol ∷ rest) =
    (opens (kind_of_symbol symbol) && (count == most_open)) || symbols_deep (open_after count (kind_of_symbol symbol))
    rest

-- how many brackets are open at once in a text in brackets, or, if it needs no brackets, in the text alone; `height`
-- are open at once in the text alone
abbrev pub placed_levels : Bool → ℕ → ℕ
placed_levels true height = height
placed_levels false height = height + 1

abbrev mutual
  -- how many brackets are open at once in the text of a constraint
  pub levels : Tree → ℕ
  levels (concept_tree id) = 0
  levels any_tree = 0
  levels (walk_tree operator operand) = placed_levels (is_member_or_focus operand) (levels operand)
  levels (member_tree operand) = placed_levels (is_focus operand) (levels operand)
  levels (and_tree parts) = list_levels parts
  levels (or_tree parts) = list_levels parts
  levels (minus_tree first second) =
      max (placed_levels (is_sub first) (levels first)) (placed_levels (is_sub second) (levels second))
  levels (dotted_tree start names) = max (placed_levels (is_sub start) (levels start)) (list_levels names)
  levels (refined_tree focus refinement) =
      max (placed_levels (is_sub focus) (levels focus)) (refinement_levels refinement)

  -- how many brackets are open at once in the texts of the operands of a list
  pub list_levels : Trees → ℕ
  list_levels no_trees = 0
  list_levels (tree_then first rest) = max (placed_levels (is_sub first) (levels first)) (list_levels rest)

  -- how many brackets are open at once in the text of a refinement
  pub refinement_levels : RefinementTree → ℕ
  refinement_levels (one_refinement what) = attribute_levels what
  refinement_levels (group_refinement count set) = set_levels set + 1
  refinement_levels (and_refinement parts) = item_levels parts
  refinement_levels (or_refinement parts) = item_levels parts

  -- how many brackets are open at once in the texts of the items of a list
  pub item_levels : RefinementTrees → ℕ
  item_levels no_refinements = 0
  item_levels (refinement_then first rest) =
      max (placed_levels (is_item first) (refinement_levels first)) (item_levels rest)

  -- how many brackets are open at once in the text of an attribute set
  pub set_levels : AttributeSetTree → ℕ
  set_levels (one_set what) = attribute_levels what
  set_levels (and_set parts) = part_levels parts
  set_levels (or_set parts) = part_levels parts

  -- how many brackets are open at once in the texts of the parts of a list
  pub part_levels : AttributeSetTrees → ℕ
  part_levels no_sets = 0
  part_levels (set_then first rest) = max (placed_levels (is_part first) (set_levels first)) (part_levels rest)

  -- how many brackets are open at once in the text of an attribute
  pub attribute_levels : AttributeTree → ℕ
  attribute_levels (attribute_tree count reverse name test) =
      max (placed_levels (is_sub name) (levels name)) (test_levels test)

  -- how many brackets are open at once in the text of a value test
  pub test_levels : TestTree → ℕ
  test_levels (within_test operand) = placed_levels (is_sub operand) (levels operand)
  test_levels (outside_test operand) = placed_levels (is_sub operand) (levels operand)
  test_levels (number_test compare value) = 0

-- `opening` and `closing` are tokens that open and close a bracket
pub record Brackets (opening closing : TokenKind) : Type 0 where
  -- `opening` opens one bracket; with 64 open already, the symbols are too deep
  pub opened : (count : ℕ) (rest : List Symbol)
      → symbols_deep count (mark opening ∷ rest) ≡ ((count == 64) || symbols_deep (count + 1) rest)
  -- `closing` closes one of the open brackets
  pub closed : (count : ℕ) (rest : List Symbol)
      → symbols_deep count (mark closing ∷ rest) ≡ symbols_deep (count - 1) rest

-- `(` and `)` open and close a bracket
pub round_brackets : Brackets RoundOpen RoundClose
round_brackets = record { opened = λ count rest. refl; closed = λ count rest. refl }

-- `{` and `}` open and close a bracket
pub braces : Brackets BraceOpen BraceClose
braces = record { opened = λ count rest. refl; closed = λ count rest. refl }

-- a token of this kind neither opens nor closes a bracket
abbrev pub IsFlat : TokenKind → Type 0
IsFlat kind = (count : ℕ) (rest : List Symbol) → symbols_deep count (mark kind ∷ rest) ≡ symbols_deep count rest

-- the token of a hierarchy operator neither opens nor closes a bracket
pub operator_flat : (operator : Operator) → IsFlat (operator_kind operator)
operator_flat Descendants count rest = refl
operator_flat other count rest = refl

-- the token of a comparison neither opens nor closes a bracket
pub compare_flat : (compare : Compare) → IsFlat (compare_kind compare)
compare_flat Equal count rest = refl
compare_flat other count rest = refl

-- both sides of a false disjunction are false
or_parts : (one other : Bool) → (one || other) ≡ false → (one ≡ false) × (other ≡ false)
or_parts true other is = absurd (cc)
or_parts false other is = (refl, is)

-- after a pair of brackets as many brackets are open as in front of it
after_brackets : {opening closing : TokenKind} → Brackets opening closing → (count : ℕ) (rest : List Symbol)
    → symbols_deep (count + 1) (mark closing ∷ rest) ≡ symbols_deep count rest
after_brackets brackets count rest =
    let same : count + 1 - 1 ≡ count = omega arith in
    brackets.closed (count + 1) rest ∙ ap (λ (left : ℕ). symbols_deep left rest) same

-- in `front` at most `height` brackets are open at once, and all that it opens are closed: `front` and `rest` are not
-- too deep if `rest` is not and `height` more brackets may be open
pub record IsShallow (front : List Symbol → List Symbol) (height : ℕ) : Type 0 where
  -- if `height` more brackets may be open and `rest` is not too deep, then `front rest` is not too deep
  pub flat : (count : ℕ) (rest : List Symbol) → count + height ≤ 64 → symbols_deep count rest ≡ false
      → symbols_deep count (front rest) ≡ false

-- in `front` at least `height` brackets are open at once: if `front` and `rest` are not too deep, then `height` more
-- brackets may be open, and `rest` is not too deep
pub record IsWithin (front : List Symbol → List Symbol) (height : ℕ) : Type 0 where
  -- if `front rest` is not too deep, then `height` more brackets may be open, and `rest` is not too deep
  pub fits : (count : ℕ) (rest : List Symbol) → count ≤ 64 → symbols_deep count (front rest) ≡ false
      → (count + height ≤ 64) × (symbols_deep count rest ≡ false)

-- an empty `front` has at most 0 brackets open at once
nothing_shallow : IsShallow (λ rest. rest) 0
nothing_shallow = record { flat = λ count rest within flat. flat }

-- a flat token in front of symbols with at most `height` open brackets leaves that bound
marked_shallow : {front : List Symbol → List Symbol} {height : ℕ} (kind : TokenKind) → IsFlat kind
    → IsShallow front height
    → IsShallow (λ rest. mark kind ∷ front rest) height
marked_shallow {front} kind flat_kind inside = record {
  flat = λ count rest within flat. flat_kind count (front rest) ∙ inside.flat count rest within flat;
}

-- symbols in front of others have at most the greater number of open brackets
then_shallow : {one other : List Symbol → List Symbol} {height further : ℕ} → IsShallow one height
    → IsShallow other further
    → IsShallow (λ rest. one (other rest)) (max height further)
then_shallow {other} first second = record {
  flat = λ count rest within flat. first.flat count (other rest) (omega arith)
      (second.flat count rest (omega arith) flat);
}

-- symbols in brackets have at most one open bracket more
bracket_shallow : {front : List Symbol → List Symbol} {height : ℕ} {opening closing : TokenKind}
    → Brackets opening closing
    → IsShallow front height → IsShallow (λ rest. mark opening ∷ front (mark closing ∷ rest)) (height + 1)
bracket_shallow {front} {closing} brackets inside = record {
  flat = λ count rest within flat.
      let few : (count == 64) ≡ false = grind (arith, nat_tests) in
      brackets.opened count (front (mark closing ∷ rest))
      ∙ ap (λ (many : Bool). many || symbols_deep (count + 1) (front (mark closing ∷ rest))) few
      ∙ inside.flat (count + 1) (mark closing ∷ rest) (omega arith) (after_brackets brackets count rest ∙ flat);
}

-- in no symbols at least 0 brackets are open at once
pub nothing_within : IsWithin (λ rest. rest) 0
nothing_within = record { fits = λ count rest few flat. (omega arith, flat) }

-- if at least `height` brackets are open at once in `front`, that is so too after a token in front of it that opens
-- and closes no bracket
pub marked_within : {front : List Symbol → List Symbol} {height : ℕ} (kind : TokenKind) → IsFlat kind
    → IsWithin front height
    → IsWithin (λ rest. mark kind ∷ front rest) height
marked_within {front} kind flat_kind inside = record {
  fits = λ count rest few flat. inside.fits count rest few (sym (flat_kind count (front rest)) ∙ flat);
}

-- if at least `height` brackets are open at once in `one`, and at least `further` in `other`, then in `one` followed
-- by `other` at least the greater of these are
pub then_within : {one other : List Symbol → List Symbol} {height further : ℕ} → IsWithin one height
    → IsWithin other further
    → IsWithin (λ rest. one (other rest)) (max height further)
then_within {other} first second = record {
  fits = λ count rest few flat.
      let front = first.fits count (other rest) few flat in
      let following = second.fits count rest few front.1 in
      (omega (arith, front.0, following.0), following.1);
}

-- if at least `height` brackets are open at once in `front`, at least `height + 1` are in `front` in brackets
pub bracket_within : {front : List Symbol → List Symbol} {height : ℕ} {opening closing : TokenKind}
    → Brackets opening closing
    → IsWithin front height → IsWithin (λ rest. mark opening ∷ front (mark closing ∷ rest)) (height + 1)
bracket_within {front} {closing} brackets inside = record {
  fits = λ count rest few flat.
      let parts = or_parts (count == 64) (symbols_deep (count + 1) (front (mark closing ∷ rest)))
      (sym (brackets.opened count (front (mark closing ∷ rest))) ∙ flat) in
      let apart = eqb-false count 64 parts.0 in
      let found = inside.fits (count + 1) (mark closing ∷ rest) (omega arith) parts.1 in
      (omega (arith, found.0), sym (after_brackets brackets count rest) ∙ found.1);
}

-- if at least `height` brackets are open at once in `front`, at least `less` are, for any `less` up to `height`
pub lower_within : {front : List Symbol → List Symbol} {height less : ℕ} → less ≤ height → IsWithin front height
    → IsWithin front less
lower_within lower inside = record {
  fits = λ count rest few flat. let found = inside.fits count rest few flat in (omega (arith, found.0), found.1);
}

-- symbols with the brackets that they need have at most `placed_levels` open brackets
placed_shallow : {front : List Symbol → List Symbol} {height : ℕ} (stands : Bool) → IsShallow front height
    → IsShallow (placed stands front) (placed_levels stands height)
placed_shallow true inside = inside
placed_shallow false inside = bracket_shallow round_brackets inside

-- a cardinality in front of symbols opens no round bracket and no brace
counted_shallow : {front : List Symbol → List Symbol} {height : ℕ} (least : ℕ) (most : Option ℕ)
    → IsShallow front height
    → IsShallow (λ rest. count_symbols least most (front rest)) height
counted_shallow {front} least None inside = record {
  flat = λ count rest within flat. by (least == 1) count (front rest) (inside.flat count rest within flat);
}
  where
    by : (unwritten : Bool) (count : ℕ) (rest : List Symbol) → symbols_deep count rest ≡ false
        → symbols_deep count (if unwritten then rest else range_symbols least None rest) ≡ false
    by true count rest flat = flat
    by false count rest flat = flat
counted_shallow least (Some most) inside =
    record { flat = λ count rest within flat. inside.flat count rest within flat }

-- `R` in front of symbols opens no bracket
reversed_shallow : {front : List Symbol → List Symbol} {height : ℕ} (reverse : Bool) → IsShallow front height
    → IsShallow (λ rest. reverse_tokens reverse (front rest)) height
reversed_shallow true inside = marked_shallow Reverse (λ count rest. refl) inside
reversed_shallow false inside = inside

-- Each tree's symbols have at most as many brackets open at once as its levels.
mutual
  -- in the text of a constraint at most as many brackets are open at once as `levels` of its tree says
  pub constraint_shallow : (tree : Tree) → IsShallow (constraint_symbols tree) (levels tree)
  constraint_shallow (concept_tree id) = record { flat = λ count rest within flat. flat }
  constraint_shallow any_tree = marked_shallow Wildcard (λ count rest. refl) nothing_shallow
  constraint_shallow (walk_tree operator operand) =
      marked_shallow (operator_kind operator) (operator_flat operator)
      (placed_shallow (is_member_or_focus operand) (constraint_shallow operand))
  constraint_shallow (member_tree operand) =
      marked_shallow MemberOf (λ count rest. refl) (placed_shallow (is_focus operand) (constraint_shallow operand))
  constraint_shallow (and_tree parts) = joined_shallow And (λ count rest. refl) parts
  constraint_shallow (or_tree parts) = joined_shallow Or (λ count rest. refl) parts
  constraint_shallow (minus_tree first second) =
      then_shallow (placed_shallow (is_sub first) (constraint_shallow first))
      (marked_shallow Minus (λ count rest. refl) (placed_shallow (is_sub second) (constraint_shallow second)))
  constraint_shallow (dotted_tree start names) =
      then_shallow (placed_shallow (is_sub start) (constraint_shallow start))
      (listed_shallow Dot (λ count rest. refl) names)
  constraint_shallow (refined_tree focus refinement) =
      then_shallow (placed_shallow (is_sub focus) (constraint_shallow focus))
      (marked_shallow Colon (λ count rest. refl) (refinement_shallow refinement))

  -- operands with a token between two of them have at most their `list_levels` open brackets
  joined_shallow : (kind : TokenKind) → IsFlat kind → (trees : Trees)
      → IsShallow (joined_symbols kind trees) (list_levels trees)
  joined_shallow kind flat_kind no_trees = nothing_shallow
  joined_shallow kind flat_kind (tree_then first more) =
      then_shallow (placed_shallow (is_sub first) (constraint_shallow first)) (listed_shallow kind flat_kind more)

  -- operands, each after a token, have at most their `list_levels` open brackets
  listed_shallow : (kind : TokenKind) → IsFlat kind → (trees : Trees)
      → IsShallow (listed_symbols kind trees) (list_levels trees)
  listed_shallow kind flat_kind no_trees = nothing_shallow
  listed_shallow kind flat_kind (tree_then first more) =
      marked_shallow kind flat_kind
      (then_shallow (placed_shallow (is_sub first) (constraint_shallow first)) (listed_shallow kind flat_kind more))

  -- the symbols of a refinement have at most its `refinement_levels` open brackets
  refinement_shallow : (tree : RefinementTree) → IsShallow (refinement_symbols tree) (refinement_levels tree)
  refinement_shallow (one_refinement what) = attribute_shallow what
  refinement_shallow (group_refinement number set) =
      counted_shallow number.min number.max (bracket_shallow braces (set_shallow set))
  refinement_shallow (and_refinement parts) = joined_items_shallow And (λ count rest. refl) parts
  refinement_shallow (or_refinement parts) = joined_items_shallow Or (λ count rest. refl) parts

  -- items with a token between two of them have at most their `item_levels` open brackets
  joined_items_shallow : (kind : TokenKind) → IsFlat kind → (trees : RefinementTrees)
      → IsShallow (joined_item_symbols kind trees) (item_levels trees)
  joined_items_shallow kind flat_kind no_refinements = nothing_shallow
  joined_items_shallow kind flat_kind (refinement_then first more) =
      then_shallow (placed_shallow (is_item first) (refinement_shallow first))
      (listed_items_shallow kind flat_kind more)

  -- items, each after a token, have at most their `item_levels` open brackets
  listed_items_shallow : (kind : TokenKind) → IsFlat kind → (trees : RefinementTrees)
      → IsShallow (listed_item_symbols kind trees) (item_levels trees)
  listed_items_shallow kind flat_kind no_refinements = nothing_shallow
  listed_items_shallow kind flat_kind (refinement_then first more) =
      marked_shallow kind flat_kind
      (then_shallow (placed_shallow (is_item first) (refinement_shallow first))
      (listed_items_shallow kind flat_kind more))

  -- the symbols of an attribute set have at most its `set_levels` open brackets
  set_shallow : (tree : AttributeSetTree) → IsShallow (set_symbols tree) (set_levels tree)
  set_shallow (one_set what) = attribute_shallow what
  set_shallow (and_set parts) = joined_parts_shallow And (λ count rest. refl) parts
  set_shallow (or_set parts) = joined_parts_shallow Or (λ count rest. refl) parts

  -- parts with a token between two of them have at most their `part_levels` open brackets
  joined_parts_shallow : (kind : TokenKind) → IsFlat kind → (trees : AttributeSetTrees)
      → IsShallow (joined_part_symbols kind trees) (part_levels trees)
  joined_parts_shallow kind flat_kind no_sets = nothing_shallow
  joined_parts_shallow kind flat_kind (set_then first more) =
      then_shallow (placed_shallow (is_part first) (set_shallow first)) (listed_parts_shallow kind flat_kind more)

  -- parts, each after a token, have at most their `part_levels` open brackets
  listed_parts_shallow : (kind : TokenKind) → IsFlat kind → (trees : AttributeSetTrees)
      → IsShallow (listed_part_symbols kind trees) (part_levels trees)
  listed_parts_shallow kind flat_kind no_sets = nothing_shallow
  listed_parts_shallow kind flat_kind (set_then first more) =
      marked_shallow kind flat_kind
      (then_shallow (placed_shallow (is_part first) (set_shallow first)) (listed_parts_shallow kind flat_kind more))

  -- the symbols of an attribute have at most its `attribute_levels` open brackets
  attribute_shallow : (what : AttributeTree) → IsShallow (attribute_symbols what) (attribute_levels what)
  attribute_shallow (attribute_tree number reverse name test) =
      counted_shallow number.min number.max
      (reversed_shallow reverse (then_shallow (placed_shallow (is_sub name) (constraint_shallow name))
      (test_shallow test)))

  -- the symbols of a value test have at most its `test_levels` open brackets
  test_shallow : (test : TestTree) → IsShallow (test_symbols test) (test_levels test)
  test_shallow (within_test operand) =
      marked_shallow EqualSign (λ count rest. refl) (placed_shallow (is_sub operand) (constraint_shallow operand))
  test_shallow (outside_test operand) =
      marked_shallow NotEqualSign (λ count rest. refl) (placed_shallow (is_sub operand) (constraint_shallow operand))
  test_shallow (number_test compare value) =
      marked_shallow (compare_kind compare) (compare_flat compare) (record { flat = λ count rest within flat. flat })
