-- The form that derives the symbols of a printable tree.
use Rattle.std.proofs.Common.{ℕ, ℤ, eqb-true, ◌≡◌, ◌==◌, Bool, true, false, if◌then◌else◌, List, ◌∷◌, Option, None}
use Rattle.std.proofs.Common.{Some, decimal, refl, ap, ◌∙◌, sym, subst}
use Rattle.ecl_lexer.specs.declared.token.TokenKind.{TokenKind}
use Rattle.constraint_tree.specs.declared.operator.Cardinality.{Cardinality}
use Rattle.constraint_tree.specs.declared.operator.Compare.{Compare}
use Rattle.ecl_lexer.specs.declared.token.TokenKind.TheVariants.{MemberOf, RoundOpen, RoundClose, BraceOpen, BraceClose}
use Rattle.ecl_lexer.specs.declared.token.TokenKind.TheVariants.{Colon, Dot, Equal as EqualSign}
use Rattle.ecl_lexer.specs.declared.token.TokenKind.TheVariants.{NotEqual as NotEqualSign, And, Or, Minus}
use Rattle.constraint_tree.specs.declared.operator.Operator.{Operator}
use Rattle.constraint_tree.specs.Grammar.{CountForm, at_least, between, one_item, all_items, some_items, no_items}
use Rattle.constraint_tree.specs.Grammar.{item_then, attribute, group, round_refinement, one_part, all_parts}
use Rattle.constraint_tree.specs.Grammar.{some_parts, no_parts, part_then, counted_part, round_set, PairForm, within}
use Rattle.constraint_tree.specs.Grammar.{outside, number, counted_tokens, reverse_tokens, refinement_tokens}
use Rattle.constraint_tree.specs.Grammar.{items_tokens, item_tokens, set_tokens, parts_tokens, part_tokens, pair_tokens}
use Rattle.constraint_tree.specs.Grammar.{cardinality_of, refinement_tree, item_trees, item_tree, set_tree, part_trees}
use Rattle.constraint_tree.specs.Grammar.{part_tree, pair_tree, alone, refined, conjunction, disjunction, exclusion}
use Rattle.constraint_tree.specs.Grammar.{dotted, no_subs, sub_then, plain, member, walk, walk_member, concept, any}
use Rattle.constraint_tree.specs.Grammar.{round, Symbol, mark, operator_kind, constraint_tokens, subs_tokens}
use Rattle.constraint_tree.specs.Grammar.{sub_tokens, focus_tokens, constraint_tree, sub_trees, sub_tree, focus_tree}
use Rattle.constraint_tree.specs.Text.{is_focus, is_item, is_member_or_focus, is_part, is_sub, number_text}
use Rattle.constraint_tree.specs.Tree.{Tree, concept_tree, any_tree, walk_tree, member_tree, and_tree, or_tree}
use Rattle.constraint_tree.specs.Tree.{minus_tree, dotted_tree, refined_tree, Trees, no_trees, tree_then}
use Rattle.constraint_tree.specs.Tree.{RefinementTree, one_refinement, group_refinement, and_refinement, or_refinement}
use Rattle.constraint_tree.specs.Tree.{RefinementTrees, no_refinements, refinement_then, AttributeSetTree, one_set}
use Rattle.constraint_tree.specs.Tree.{and_set, or_set, AttributeSetTrees, no_sets, set_then, AttributeTree}
use Rattle.constraint_tree.specs.Tree.{attribute_tree, TestTree, within_test, outside_test, number_test}
use Rattle.constraint_tree.proofs.Symbols.{placed, constraint_symbols, joined_symbols, listed_symbols, HasDigits}
use Rattle.constraint_tree.proofs.Symbols.{HasOne, HasTwo, IsPrintable, ArePrintable, refinement_symbols}
use Rattle.constraint_tree.proofs.Symbols.{joined_item_symbols, listed_item_symbols, set_symbols, joined_part_symbols}
use Rattle.constraint_tree.proofs.Symbols.{listed_part_symbols, attribute_symbols, test_symbols, count_symbols}
use Rattle.constraint_tree.proofs.Symbols.{range_symbols, IsPrintableMost, HasTwoItems, HasTwoParts, IsForward}
use Rattle.constraint_tree.proofs.Symbols.{IsPrintableRefinement, ArePrintableItems, IsPrintableSet, ArePrintableParts}
use Rattle.constraint_tree.proofs.Symbols.{IsPrintableAttribute, IsPrintableTest}

-- there is a form with the tree `tree`, whose tokens are `symbols`, in front of any further symbols
pub record FormOf {Form Tree : Type 0} (tree_of : Form → Tree) (tokens_of : Form → List Symbol → List Symbol)
    (symbols : List Symbol → List Symbol) (tree : Tree) : Type 0 where
  -- the form
  pub form : Form
  -- its tree is `tree`
  pub is : tree_of form ≡ tree
  -- its tokens in front of any `rest` are `symbols` in front of `rest`
  pub spells : (rest : List Symbol) → tokens_of form rest ≡ symbols rest

-- the tokens of the form in front of `rest` are its symbols in front of `other`, if `rest` is `other`
spells_then : {Form Tree : Type 0} {tree_of : Form → Tree} {tokens_of : Form → List Symbol → List Symbol}
    {symbols : List Symbol → List Symbol} {tree : Tree} {rest other : List Symbol}
    (found : FormOf tree_of tokens_of symbols tree) → rest ≡ other → tokens_of found.form rest ≡ symbols other
spells_then {symbols} {rest} found same = found.spells rest ∙ ap symbols same

-- a token in front of equal symbols gives equal symbols
following : {rest other : List Symbol} (kind : TokenKind) → rest ≡ other → mark kind ∷ rest ≡ mark kind ∷ other
following kind same = ap (λ (symbols : List Symbol). mark kind ∷ symbols) same

-- the tokens of the form in round brackets are its symbols in round brackets
in_brackets : {Form Tree : Type 0} {tree_of : Form → Tree} {tokens_of : Form → List Symbol → List Symbol}
    {symbols : List Symbol → List Symbol} {tree : Tree} (found : FormOf tree_of tokens_of symbols tree)
    (rest : List Symbol)
    → mark RoundOpen ∷ tokens_of found.form (mark RoundClose ∷ rest) ≡ placed false symbols rest
in_brackets found rest = following RoundOpen (found.spells (mark RoundClose ∷ rest))

-- a first and a second form and a list of further forms, with a token between the first two, that have the given
-- trees and symbols
abbrev TwoOf : {Form Forms Tree Trees : Type 0} → (Form → Tree) → (Form → List Symbol → List Symbol) → (Forms → Trees)
    → (Forms → List Symbol → List Symbol) → (Tree → Trees → Trees) → TokenKind → (List Symbol → List Symbol) → Trees
    → Type 0
TwoOf {Form} {Forms} tree_of tokens_of trees_of list_tokens next kind =
    FormOf {Form = Form × Form × Forms} (λ forms. next (tree_of forms.0) (next (tree_of forms.1) (trees_of forms.2)))
    (λ forms rest. tokens_of forms.0 (mark kind ∷ tokens_of forms.1 (list_tokens forms.2 rest)))

-- two forms and a list of further forms make a `TwoOf`
two_and_more : {Form Forms Tree Trees : Type 0} {tree_of : Form → Tree} {tokens_of : Form → List Symbol → List Symbol}
    {trees_of : Forms → Trees}
    {list_tokens : Forms → List Symbol → List Symbol} {first second more : List Symbol → List Symbol} {one other : Tree}
    {trees : Trees}
    (next : Tree → Trees → Trees) (kind : TokenKind) → FormOf tree_of tokens_of first one
    → FormOf tree_of tokens_of second other
    → FormOf trees_of list_tokens more trees
    → TwoOf tree_of tokens_of trees_of list_tokens next kind (λ rest. first (mark kind ∷ second (more rest)))
    (next one (next other trees))
two_and_more next kind one other others = record {
  form = (one.form, other.form, others.form);
  is = λ i. next (one.is i) (next (other.is i) (others.is i));
  spells = λ rest. spells_then one (following kind (spells_then other (others.spells rest)));
}

-- a constraint form with the given symbols and tree
abbrev ConstraintOf : (List Symbol → List Symbol) → Tree → Type 0
ConstraintOf = FormOf constraint_tree constraint_tokens

-- an operand form with the given symbols and tree
abbrev SubOf : (List Symbol → List Symbol) → Tree → Type 0
SubOf = FormOf sub_tree sub_tokens

-- a focus form with the given symbols and tree
abbrev FocusOf : (List Symbol → List Symbol) → Tree → Type 0
FocusOf = FormOf focus_tree focus_tokens

-- a tree has a form for each position: alone, as an operand, after a hierarchy operator, and after `^`. The form is
-- in brackets where the flag of the position says that the tree needs them
pub record FormsIn (sub member_or_focus focus : Bool) (symbols : List Symbol → List Symbol) (tree : Tree) : Type 0 where
  -- the form alone
  pub whole : ConstraintOf symbols tree
  -- the form as an operand
  pub operand : SubOf (placed sub symbols) tree
  -- the form after a hierarchy operator
  pub after_operator : (operator : Operator)
      → SubOf (λ rest. mark (operator_kind operator) ∷ placed member_or_focus symbols rest) (walk_tree operator tree)
  -- the form after `^`
  pub after_caret : FocusOf (placed focus symbols) tree

-- a tree has a form for each position, with the symbols of its text
abbrev pub Forms : Tree → Type 0
Forms tree = FormsIn (is_sub tree) (is_member_or_focus tree) (is_focus tree) (constraint_symbols tree) tree

-- the operand form of a tree, with the symbols of its text and the brackets that it needs
abbrev OperandForm : Tree → Type 0
OperandForm tree = SubOf (placed (is_sub tree) (constraint_symbols tree)) tree

-- a focus form is an operand form
as_operand : {symbols : List Symbol → List Symbol} {tree : Tree} → FocusOf symbols tree → SubOf symbols tree
as_operand found = record { form = plain found.form; is = found.is; spells = found.spells }

-- a focus form after an operator is an operand form
after_walk : {symbols : List Symbol → List Symbol} {tree : Tree} → FocusOf symbols tree → (operator : Operator)
    → SubOf (λ rest. mark (operator_kind operator) ∷ symbols rest) (walk_tree operator tree)
after_walk found operator = record {
  form = walk operator found.form;
  is = ap (walk_tree operator) found.is;
  spells = λ rest. following (operator_kind operator) (found.spells rest);
}

-- an operand form is a constraint form
as_whole : {symbols : List Symbol → List Symbol} {tree : Tree} → SubOf symbols tree → ConstraintOf symbols tree
as_whole found = record { form = alone found.form; is = found.is; spells = found.spells }

-- a constraint form in round brackets is a focus form
in_round : {symbols : List Symbol → List Symbol} {tree : Tree} → ConstraintOf symbols tree
    → FocusOf (placed false symbols) tree
in_round whole = record { form = round whole.form; is = whole.is; spells = in_brackets whole }

-- a focus form gives a form in each place, without brackets
bare_forms : {symbols : List Symbol → List Symbol} {tree : Tree} → FocusOf symbols tree
    → FormsIn true true true symbols tree
bare_forms found = record {
  whole = as_whole (as_operand found);
  operand = as_operand found;
  after_operator = after_walk found;
  after_caret = found;
}

-- a constraint form gives a form in each place, in brackets everywhere but alone
round_forms : {symbols : List Symbol → List Symbol} {tree : Tree} → ConstraintOf symbols tree
    → FormsIn false false false symbols tree
round_forms whole = record {
  whole = whole;
  operand = as_operand (in_round whole);
  after_operator = after_walk (in_round whole);
  after_caret = in_round whole;
}

-- an identifier of 6 to 18 digits has a form in each place
concept_forms : (id : ℕ) → HasDigits 6 18 id → Forms (concept_tree id)
concept_forms id written =
    bare_forms (record {
      form = concept (decimal id) written.is;
      is = ap concept_tree written.value;
      spells = λ rest. refl;
    })

-- `*` has a form in each place
any_forms : Forms any_tree
any_forms = bare_forms (record { form = any; is = refl; spells = λ rest. refl })

-- `^` of a tree with forms has a form in each place
member_forms : (operand : Tree) → Forms operand → Forms (member_tree operand)
member_forms operand forms =
    let focus = forms.after_caret in
    let found : OperandForm (member_tree operand) = record {
      form = member focus.form;
      is = ap member_tree focus.is;
      spells = λ rest. following MemberOf (focus.spells rest);
    } in
    record {
      whole = as_whole found;
      operand = found;
      after_operator = λ operator. record {
        form = walk_member operator focus.form;
        is = ap (λ (found : Tree). walk_tree operator (member_tree found)) focus.is;
        spells = λ rest. following (operator_kind operator) (found.spells rest);
      };
      after_caret = in_round (as_whole found);
    }

-- a hierarchy operator on a tree with forms has a form in each place
walk_forms : (operator : Operator) (operand : Tree) → Forms operand → Forms (walk_tree operator operand)
walk_forms operator operand forms =
    let found : OperandForm (walk_tree operator operand) = forms.after_operator operator in
    record {
      whole = as_whole found;
      operand = found;
      after_operator = after_walk (in_round (as_whole found));
      after_caret = in_round (as_whole found);
    }

-- every tree of a list has an operand form
abbrev OperandForms : Trees → Type 0
OperandForms no_trees = Unit {0}
OperandForms (tree_then first rest) = OperandForm first × OperandForms rest

-- a list of trees with operand forms has a form in which each operand follows a token
list_form : (kind : TokenKind) (trees : Trees) → OperandForms trees
    → FormOf sub_trees (subs_tokens kind) (listed_symbols kind trees) trees
list_form kind no_trees forms = record { form = no_subs; is = refl; spells = λ rest. refl }
list_form kind (tree_then first more) forms =
    let others = list_form kind more forms.1 in
    record {
      form = sub_then forms.0.form others.form;
      is = λ i. tree_then (forms.0.is i) (others.is i);
      spells = λ rest. following kind (spells_then forms.0 (others.spells rest));
    }

-- a list of at least two trees with operand forms is a first and a second operand and a list of further ones
two_operands : (kind : TokenKind) (trees : Trees) → HasTwo trees → OperandForms trees
    → TwoOf sub_tree sub_tokens sub_trees (subs_tokens kind) tree_then kind (joined_symbols kind trees) trees
two_operands kind no_trees two forms = absurd two
two_operands kind (tree_then first no_trees) two forms = absurd two
two_operands kind (tree_then first (tree_then second more)) two forms =
    two_and_more tree_then kind forms.0 forms.1.0 (list_form kind more forms.1.1)

-- `MINUS` of two trees with operand forms has a form
minus_whole : (first second : Tree) → OperandForm first → OperandForm second
    → ConstraintOf (constraint_symbols (minus_tree first second)) (minus_tree first second)
minus_whole first second one other = record {
  form = exclusion one.form other.form;
  is = λ i. minus_tree (one.is i) (other.is i);
  spells = λ rest. spells_then one (following Minus (other.spells rest));
}

-- a dotted constraint whose trees have operand forms has a form, if it has at least one name
dotted_whole : (start : Tree) (names : Trees) → HasOne names → OperandForm start → OperandForms names
    → ConstraintOf (constraint_symbols (dotted_tree start names)) (dotted_tree start names)
dotted_whole start no_trees one form forms = absurd one
dotted_whole start (tree_then name more) one form forms =
    let others = list_form Dot more forms.1 in
    record {
      form = dotted form.form forms.0.form others.form;
      is = λ i. dotted_tree (form.is i) (tree_then (forms.0.is i) (others.is i));
      spells = λ rest. spells_then form (following Dot (spells_then forms.0 (others.spells rest)));
    }

-- the form of a cardinality, with the symbols of its text
abbrev CountOf : ℕ → Option ℕ → Type 0
CountOf least most = FormOf cardinality_of counted_tokens (count_symbols least most)
    (record { min = least; max = most })

-- the cardinality `[1..*]` has the empty form
no_count : (least : ℕ) → least ≡ 1 → (least == 1) ≡ true → CountOf least None
no_count least one test = record {
  form = None;
  is = ap (λ (found : ℕ). record { min = found; max = None }) (sym one);
  spells = λ rest. sym (ap (λ (unwritten : Bool). if unwritten then rest else range_symbols least None rest) test);
}

-- a cardinality without a maximum, other than `[1..*]`, has a form
least_count : (least : ℕ) → (least == 1) ≡ false → HasDigits 1 18 least → CountOf least None
least_count least test written = record {
  form = Some (at_least (decimal least) written.is);
  is = ap (λ (found : ℕ). record { min = found; max = None }) written.value;
  spells = λ rest. sym (ap (λ (unwritten : Bool). if unwritten then rest else range_symbols least None rest) test);
}

-- a printable cardinality has a form
count_of : (least : ℕ) (most : Option ℕ) → HasDigits 1 18 least → IsPrintableMost most → CountOf least most
count_of least None written most_written = by (least == 1) refl
  where
    by : (test : Bool) → (least == 1) ≡ test → CountOf least None
    by true test = no_count least (eqb-true least 1 test) test
    by false test = least_count least test written
count_of least (Some most) written most_written = record {
  form = Some (between (decimal least) (decimal most) written.is most_written.is);
  is = λ i. record { min = written.value i; max = Some (most_written.value i) };
  spells = λ rest. refl;
}

-- the form of a name and a test; a cardinality and `R` make an attribute of it
abbrev PairOf : Tree → TestTree → Type 0
PairOf name test =
    FormOf {Tree = Option CountForm → Bool → AttributeTree} (λ form count reverse. pair_tree count reverse form)
    pair_tokens
    (λ rest. placed (is_sub name) (constraint_symbols name) (test_symbols test rest))
    (λ count reverse. attribute_tree (cardinality_of count) reverse name test)

-- `=` and an operand has a form with a name
within_pair : (name operand : Tree) → OperandForm name → OperandForm operand → PairOf name (within_test operand)
within_pair name operand one other = record {
  form = within one.form other.form;
  is = λ i count reverse. attribute_tree (cardinality_of count) reverse (one.is i) (within_test (other.is i));
  spells = λ rest. spells_then one (following EqualSign (other.spells rest));
}

-- `!=` and an operand has a form with a name
outside_pair : (name operand : Tree) → OperandForm name → OperandForm operand → PairOf name (outside_test operand)
outside_pair name operand one other = record {
  form = outside one.form other.form;
  is = λ i count reverse. attribute_tree (cardinality_of count) reverse (one.is i) (outside_test (other.is i));
  spells = λ rest. spells_then one (following NotEqualSign (other.spells rest));
}

-- a comparison with a printable number has a form with a name
number_pair : (name : Tree) (compare : Compare) (value : ℤ) → OperandForm name
    → IsPrintableTest (number_test compare value) → PairOf name (number_test compare value)
number_pair name compare value one written = record {
  form = number one.form compare (number_text value) value written;
  is = λ i count reverse. attribute_tree (cardinality_of count) reverse (one.is i) (number_test compare value);
  spells = λ rest. one.spells (test_symbols (number_test compare value) rest);
}

-- the forms of the cardinality and of the name and test of an attribute
abbrev AttributeForms : AttributeTree → Type 0
AttributeForms (attribute_tree count reverse name test) = CountOf count.min count.max × PairOf name test

-- the form of an attribute that is read backwards, or that is not
abbrev AttributeOf : Bool → AttributeTree → Type 0
AttributeOf reverse what =
    FormOf {Form = Option CountForm × PairForm} (λ form. pair_tree form.0 reverse form.1)
    (λ form rest. counted_tokens form.0 (reverse_tokens reverse (pair_tokens form.1 rest))) (attribute_symbols what)
    what

-- the forms of a cardinality and of a name and test make a form of an attribute
attribute_of : (count : Cardinality) (reverse : Bool) (name : Tree) (test : TestTree) → CountOf count.min count.max
    → PairOf name test → AttributeOf reverse (attribute_tree count reverse name test)
attribute_of count reverse name test counted pair = record {
  form = (counted.form, pair.form);
  is = ap (λ (found : Option CountForm → Bool → AttributeTree). found counted.form reverse) pair.is
      ∙ ap (λ (found : Cardinality). attribute_tree found reverse name test) counted.is;
  spells = λ rest. spells_then counted (ap (reverse_tokens reverse) (pair.spells rest));
}

-- a refinement or an attribute set has a form for each position: alone, and as a part of a conjunction or
-- disjunction, there in brackets unless `stands` is true
pub record PlacedForms {Whole Part Tree : Type 0} (whole_tree : Whole → Tree) (whole_tokens : Whole → List Symbol
    → List Symbol)
    (part_tree : Part → Tree) (part_tokens : Part → List Symbol → List Symbol) (stands : Bool)
    (symbols : List Symbol → List Symbol) (tree : Tree) : Type 0 where
  -- the form alone
  pub whole : FormOf whole_tree whole_tokens symbols tree
  -- the form as a part of a conjunction or disjunction
  pub part : FormOf part_tree part_tokens (placed stands symbols) tree

-- a refinement form with the given symbols and tree
abbrev RefinementOf : (List Symbol → List Symbol) → RefinementTree → Type 0
RefinementOf = FormOf refinement_tree refinement_tokens

-- an item form with the given symbols and tree
abbrev ItemOf : (List Symbol → List Symbol) → RefinementTree → Type 0
ItemOf = FormOf item_tree item_tokens

-- the forms of a refinement, alone and as an item, with the given symbols
abbrev RefinementIn : Bool → (List Symbol → List Symbol) → RefinementTree → Type 0
RefinementIn = PlacedForms refinement_tree refinement_tokens item_tree item_tokens

-- the forms of a refinement, alone and as an item, with the symbols of its text
abbrev RefinementForms : RefinementTree → Type 0
RefinementForms tree = RefinementIn (is_item tree) (refinement_symbols tree) tree

-- an item form gives both forms of a refinement, without brackets
bare_item : {symbols : List Symbol → List Symbol} {tree : RefinementTree} → ItemOf symbols tree
    → RefinementIn true symbols tree
bare_item found = record {
  whole = record { form = one_item found.form; is = found.is; spells = found.spells };
  part = found;
}

-- a refinement form gives both forms of a refinement, in brackets as an item
round_item : {symbols : List Symbol → List Symbol} {tree : RefinementTree} → RefinementOf symbols tree
    → RefinementIn false symbols tree
round_item whole = record {
  whole = whole;
  part = record { form = round_refinement whole.form; is = whole.is; spells = in_brackets whole };
}

-- every refinement of a list has an item form
abbrev ItemsOf : RefinementTrees → Type 0
ItemsOf no_refinements = Unit {0}
ItemsOf (refinement_then first rest) = ItemOf (placed (is_item first) (refinement_symbols first)) first × ItemsOf rest

-- a list of refinements with item forms has a form in which each item follows a token
item_list : (kind : TokenKind) (trees : RefinementTrees) → ItemsOf trees
    → FormOf item_trees (items_tokens kind) (listed_item_symbols kind trees) trees
item_list kind no_refinements forms = record { form = no_items; is = refl; spells = λ rest. refl }
item_list kind (refinement_then first more) forms =
    let others = item_list kind more forms.1 in
    record {
      form = item_then forms.0.form others.form;
      is = λ i. refinement_then (forms.0.is i) (others.is i);
      spells = λ rest. following kind (spells_then forms.0 (others.spells rest));
    }

-- a list of at least two refinements with item forms is a first and a second item and a list of further ones
two_items : (kind : TokenKind) (trees : RefinementTrees) → HasTwoItems trees → ItemsOf trees
    → TwoOf item_tree item_tokens item_trees (items_tokens kind) refinement_then kind (joined_item_symbols kind trees)
    trees
two_items kind no_refinements two forms = absurd two
two_items kind (refinement_then first no_refinements) two forms = absurd two
two_items kind (refinement_then first (refinement_then second more)) two forms =
    two_and_more refinement_then kind forms.0 forms.1.0 (item_list kind more forms.1.1)

-- an attribute set form with the given symbols and tree
abbrev SetOf : (List Symbol → List Symbol) → AttributeSetTree → Type 0
SetOf = FormOf set_tree set_tokens

-- a form of a part of an attribute set with the given symbols and tree
abbrev PartOf : (List Symbol → List Symbol) → AttributeSetTree → Type 0
PartOf = FormOf part_tree part_tokens

-- the forms of an attribute set, alone and as a part, with the given symbols
abbrev SetIn : Bool → (List Symbol → List Symbol) → AttributeSetTree → Type 0
SetIn = PlacedForms set_tree set_tokens part_tree part_tokens

-- the forms of an attribute set, alone and as a part, with the symbols of its text
abbrev SetForms : AttributeSetTree → Type 0
SetForms tree = SetIn (is_part tree) (set_symbols tree) tree

-- a part form gives both forms of an attribute set, without brackets
bare_part : {symbols : List Symbol → List Symbol} {tree : AttributeSetTree} → PartOf symbols tree
    → SetIn true symbols tree
bare_part found = record {
  whole = record { form = one_part found.form; is = found.is; spells = found.spells };
  part = found;
}

-- an attribute set form gives both forms of an attribute set, in brackets as a part
round_part : {symbols : List Symbol → List Symbol} {tree : AttributeSetTree} → SetOf symbols tree
    → SetIn false symbols tree
round_part whole = record {
  whole = whole;
  part = record { form = round_set whole.form; is = whole.is; spells = in_brackets whole };
}

-- every attribute set of a list has a part form
abbrev PartsOf : AttributeSetTrees → Type 0
PartsOf no_sets = Unit {0}
PartsOf (set_then first rest) = PartOf (placed (is_part first) (set_symbols first)) first × PartsOf rest

-- a list of attribute sets with part forms has a form in which each part follows a token
part_list : (kind : TokenKind) (trees : AttributeSetTrees) → PartsOf trees
    → FormOf part_trees (parts_tokens kind) (listed_part_symbols kind trees) trees
part_list kind no_sets forms = record { form = no_parts; is = refl; spells = λ rest. refl }
part_list kind (set_then first more) forms =
    let others = part_list kind more forms.1 in
    record {
      form = part_then forms.0.form others.form;
      is = λ i. set_then (forms.0.is i) (others.is i);
      spells = λ rest. following kind (spells_then forms.0 (others.spells rest));
    }

-- a list of at least two attribute sets with part forms is a first and a second part and a list of further ones
two_parts : (kind : TokenKind) (trees : AttributeSetTrees) → HasTwoParts trees → PartsOf trees
    → TwoOf part_tree part_tokens part_trees (parts_tokens kind) set_then kind (joined_part_symbols kind trees) trees
two_parts kind no_sets two forms = absurd two
two_parts kind (set_then first no_sets) two forms = absurd two
two_parts kind (set_then first (set_then second more)) two forms =
    two_and_more set_then kind forms.0 forms.1.0 (part_list kind more forms.1.1)

-- an attribute with forms has both forms of a refinement
one_item_forms : (what : AttributeTree) → AttributeForms what → RefinementForms (one_refinement what)
one_item_forms (attribute_tree count reverse name test) forms =
    let found = attribute_of count reverse name test forms.0 forms.1 in
    bare_item (record {
      form = attribute found.form.0 reverse found.form.1;
      is = ap one_refinement found.is;
      spells = found.spells;
    })

-- a cardinality and an attribute set in braces have both forms of a refinement
group_forms : (count : Cardinality) (set : AttributeSetTree) → CountOf count.min count.max → SetOf (set_symbols set) set
    → RefinementForms (group_refinement count set)
group_forms count set counted found =
    bare_item (record {
      form = group counted.form found.form;
      is = λ i. group_refinement (counted.is i) (found.is i);
      spells = λ rest. spells_then counted (following BraceOpen (found.spells (mark BraceClose ∷ rest)));
    })

-- an attribute that is not read backwards has both forms of an attribute set
one_part_forms : (what : AttributeTree) → IsForward what → AttributeForms what → SetForms (one_set what)
one_part_forms (attribute_tree count reverse name test) forward forms =
    let found = subst (λ (written : Bool). AttributeOf false (attribute_tree count written name test)) (sym forward)
    (attribute_of count false name test forms.0 forms.1) in
    bare_part (record {
      form = counted_part found.form.0 found.form.1;
      is = ap one_set found.is;
      spells = found.spells;
    })

-- a focus with an operand form and a refinement with a form make a refined constraint with a form
refined_whole : (focus : Tree) (refinement : RefinementTree) → OperandForm focus
    → RefinementOf (refinement_symbols refinement) refinement
    → ConstraintOf (constraint_symbols (refined_tree focus refinement)) (refined_tree focus refinement)
refined_whole focus refinement one other = record {
  form = refined one.form other.form;
  is = λ i. refined_tree (one.is i) (other.is i);
  spells = λ rest. spells_then one (following Colon (other.spells rest));
}

-- a printable tree has a form in each place, and the form derives the symbols of its text
mutual
  -- if a tree is printable, it has a form for each position, with the symbols of its text
  pub forms_of : (tree : Tree) → IsPrintable tree → Forms tree
  forms_of (concept_tree id) printable = concept_forms id printable
  forms_of any_tree printable = any_forms
  forms_of (walk_tree operator operand) printable = walk_forms operator operand (forms_of operand printable)
  forms_of (member_tree operand) printable = member_forms operand (forms_of operand printable)
  forms_of (and_tree parts) printable =
      let two = two_operands And parts printable.0 (operands_of parts printable.1) in
      round_forms (record {
        form = conjunction two.form.0 two.form.1 two.form.2;
        is = ap and_tree two.is;
        spells = two.spells;
      })
  forms_of (or_tree parts) printable =
      let two = two_operands Or parts printable.0 (operands_of parts printable.1) in
      round_forms (record {
        form = disjunction two.form.0 two.form.1 two.form.2;
        is = ap or_tree two.is;
        spells = two.spells;
      })
  forms_of (minus_tree first second) printable =
      round_forms (minus_whole first second (forms_of first printable.0).operand (forms_of second printable.1).operand)
  forms_of (dotted_tree start names) printable =
      round_forms (dotted_whole start names printable.1 (forms_of start printable.0).operand
      (operands_of names printable.2))
  forms_of (refined_tree focus refinement) printable =
      round_forms (refined_whole focus refinement (forms_of focus printable.0).operand
      (refinement_of refinement printable.1).whole)

  -- every tree of a printable list has an operand form
  operands_of : (trees : Trees) → ArePrintable trees → OperandForms trees
  operands_of no_trees printable = tt
  operands_of (tree_then first rest) printable = ((forms_of first printable.0).operand, operands_of rest printable.1)

  -- a printable refinement has a form alone and as an item
  refinement_of : (tree : RefinementTree) → IsPrintableRefinement tree → RefinementForms tree
  refinement_of (one_refinement what) printable = one_item_forms what (attribute_forms what printable)
  refinement_of (group_refinement count set) printable =
      group_forms count set (count_of count.min count.max printable.0.0 printable.0.1) (set_of set printable.1).whole
  refinement_of (and_refinement parts) printable =
      let two = two_items And parts printable.0 (items_of parts printable.1) in
      round_item (record {
        form = all_items two.form.0 two.form.1 two.form.2;
        is = ap and_refinement two.is;
        spells = two.spells;
      })
  refinement_of (or_refinement parts) printable =
      let two = two_items Or parts printable.0 (items_of parts printable.1) in
      round_item (record {
        form = some_items two.form.0 two.form.1 two.form.2;
        is = ap or_refinement two.is;
        spells = two.spells;
      })

  -- every refinement of a printable list has an item form
  items_of : (trees : RefinementTrees) → ArePrintableItems trees → ItemsOf trees
  items_of no_refinements printable = tt
  items_of (refinement_then first rest) printable = ((refinement_of first printable.0).part, items_of rest printable.1)

  -- a printable attribute set has a form alone and as a part
  set_of : (tree : AttributeSetTree) → IsPrintableSet tree → SetForms tree
  set_of (one_set what) printable = one_part_forms what printable.0 (attribute_forms what printable.1)
  set_of (and_set parts) printable =
      let two = two_parts And parts printable.0 (parts_of parts printable.1) in
      round_part (record {
        form = all_parts two.form.0 two.form.1 two.form.2;
        is = ap and_set two.is;
        spells = two.spells;
      })
  set_of (or_set parts) printable =
      let two = two_parts Or parts printable.0 (parts_of parts printable.1) in
      round_part (record {
        form = some_parts two.form.0 two.form.1 two.form.2;
        is = ap or_set two.is;
        spells = two.spells;
      })

  -- every attribute set of a printable list has a part form
  parts_of : (trees : AttributeSetTrees) → ArePrintableParts trees → PartsOf trees
  parts_of no_sets printable = tt
  parts_of (set_then first rest) printable = ((set_of first printable.0).part, parts_of rest printable.1)

  -- a printable attribute has forms of its cardinality and of its name and test
  attribute_forms : (what : AttributeTree) → IsPrintableAttribute what → AttributeForms what
  attribute_forms (attribute_tree count reverse name test) printable = (
    count_of count.min count.max printable.0.0 printable.0.1,
    pair_of name test (forms_of name printable.1).operand
        printable.2,
  )

  -- a name with an operand form and a printable test have a form
  pair_of : (name : Tree) (test : TestTree) → OperandForm name → IsPrintableTest test → PairOf name test
  pair_of name (within_test operand) form printable = within_pair name operand form (forms_of operand printable).operand
  pair_of name (outside_test operand) form printable =
      outside_pair name operand form (forms_of operand printable).operand
  pair_of name (number_test compare value) form printable = number_pair name compare value form printable
