-- The tree of a form is printable, and its text has no more brackets open at once than the form has.
use Rattle.std.proofs.Common.{ℕ, ℤ, ◌≡◌, ◌==◌, ◌&&◌, ◌||◌, ◌+◌, ◌≤◌, ◌<◌, ◌^◌, max, Bool, true, false, List, [], ◌∷◌}
use Rattle.std.proofs.Common.{length, get_or, drop, Option, None, Some, decimal, refl, ap, arith, nat_le}
use Rattle.std.specs.Char.{is_ascii_digit}
use Rattle.std.specs.List.{list_all}
use Rattle.std.proofs.lemmas.Bool.{and_parts, eqb-true, leb-true}
use Rattle.std.proofs.lemmas.Bool.Decides.{nat_tests}
use Rattle.std.proofs.lemmas.Fmt.{decimal-digits_value}
use Rattle.std.proofs.lemmas.Str.Parse.{digits_value_short}
use Rattle.numerals.proofs.DigitLemmas.{numerals}
use Rattle.ecl_lexer.specs.Lexemes.{is_plain}
use Rattle.ecl_lexer.specs.declared.token.TokenKind.{TokenKind}
use Rattle.ecl_lexer.specs.declared.token.TokenKind.TheVariants.{MemberOf, Wildcard, And, Or, Minus, Dot, Colon}
use Rattle.ecl_lexer.specs.declared.token.TokenKind.TheVariants.{Equal as EqualSign, NotEqual as NotEqualSign, Reverse}
use Rattle.numerals.specs.Numbers.{is_number, number_of}
use Rattle.numerals.specs.Decimals.{decimal_of}
use Rattle.constraint_tree.specs.Grammar.{CountForm, at_least, between, ConstraintForm, alone, refined, conjunction}
use Rattle.constraint_tree.specs.Grammar.{disjunction, exclusion, dotted, SubForms, no_subs, sub_then, SubForm, plain}
use Rattle.constraint_tree.specs.Grammar.{member, walk, walk_member, FocusForm, concept, concept_term, any, round}
use Rattle.constraint_tree.specs.Grammar.{RefinementForm, one_item, all_items, some_items, ItemForms, no_items}
use Rattle.constraint_tree.specs.Grammar.{item_then, ItemForm, attribute, group, round_refinement, SetForm, one_part}
use Rattle.constraint_tree.specs.Grammar.{all_parts, some_parts, PartForms, no_parts, part_then, PartForm, counted_part}
use Rattle.constraint_tree.specs.Grammar.{round_set, PairForm, within, outside, number, Symbol, digits}
use Rattle.constraint_tree.specs.Grammar.{decimal as decimal_symbol, mark, operator_kind, compare_kind, counted_tokens}
use Rattle.constraint_tree.specs.Grammar.{reverse_tokens, constraint_tokens, subs_tokens, sub_tokens, focus_tokens}
use Rattle.constraint_tree.specs.Grammar.{refinement_tokens, items_tokens, item_tokens, set_tokens, parts_tokens}
use Rattle.constraint_tree.specs.Grammar.{part_tokens, pair_tokens, cardinality_of, constraint_tree, sub_trees}
use Rattle.constraint_tree.specs.Grammar.{sub_tree, focus_tree, refinement_tree, item_trees, item_tree, set_tree}
use Rattle.constraint_tree.specs.Grammar.{part_trees, part_tree, pair_tree}
use Rattle.constraint_tree.specs.Text.{is_focus, is_item, is_member_or_focus, is_part, is_sub, number_text}
use Rattle.constraint_tree.specs.Tree.{Tree, any_tree}
use Rattle.constraint_tree.proofs.LevelLemmas.{Brackets, IsFlat, IsWithin, round_brackets, braces, operator_flat}
use Rattle.constraint_tree.proofs.LevelLemmas.{compare_flat, nothing_within, marked_within, then_within, bracket_within}
use Rattle.constraint_tree.proofs.LevelLemmas.{lower_within, placed_levels, levels, list_levels, refinement_levels}
use Rattle.constraint_tree.proofs.LevelLemmas.{item_levels, set_levels, part_levels, attribute_levels}
use Rattle.constraint_tree.proofs.Symbols.{HasDigits, IsForward, IsPrintable, ArePrintable, IsPrintableCount}
use Rattle.constraint_tree.proofs.Symbols.{IsPrintableRefinement, ArePrintableItems, IsPrintableSet, ArePrintableParts}
use Rattle.constraint_tree.proofs.Symbols.{IsPrintableAttribute}

-- none of the digits among the symbols have a leading zero
abbrev pub ArePlain : List Symbol → Type 0
ArePlain [] = Unit {0}
ArePlain (digits run ∷ rest) = (is_plain run ≡ true) × ArePlain rest
ArePlain (decimal_symbol text ∷ rest) = ArePlain rest
ArePlain (mark kind ∷ rest) = ArePlain rest

-- each number that a text is read as is also read from its own printed text
abbrev pub NumbersRead : Type 0
NumbersRead = (text : List ℕ) (value : ℤ) → decimal_of text ≡ Some value
    → decimal_of (drop 1 (number_text value)) ≡ Some value

-- if none of the digits in `tokens` have a leading zero, `Printable` holds. In `tokens` at least `height` brackets
-- are open at once
pub record FitsIn (Printable : Type 0) (height : ℕ) (tokens : List Symbol → List Symbol) : Type 0 where
  -- if no digits in `tokens` and `rest` have a leading zero, then `Printable` holds, and none in `rest` have one
  pub printable : (rest : List Symbol) → ArePlain (tokens rest) → Printable × ArePlain rest
  -- at least `height` brackets are open at once in `tokens`
  pub within : IsWithin tokens height

-- the empty list of tokens has `FitsIn` with height 0
nothing_fits : FitsIn (Unit {0}) 0 (λ rest. rest)
nothing_fits = record { printable = λ rest bare. (tt, bare); within = nothing_within }

-- a token that neither opens nor closes a bracket, in front of tokens, keeps their `FitsIn`
marked_fits : {Printable : Type 0} {height : ℕ} {tokens : List Symbol → List Symbol} (kind : TokenKind) → IsFlat kind
    → FitsIn Printable height tokens → FitsIn Printable height (λ rest. mark kind ∷ tokens rest)
marked_fits kind flat_kind inside = record {
  printable = λ rest bare. inside.printable rest bare;
  within = marked_within kind flat_kind inside.within;
}

-- tokens in front of other tokens have `FitsIn` for both conditions, with the greater height
then_fits : {One Other : Type 0} {height further : ℕ} {tokens more : List Symbol → List Symbol}
    → FitsIn One height tokens
    → FitsIn Other further more → FitsIn (One × Other) (max height further) (λ rest. tokens (more rest))
then_fits {more} first second = record {
  printable = λ rest bare.
      let front = first.printable (more rest) bare in
      let following = second.printable rest front.1 in
      ((front.0, following.0), following.1);
  within = then_within first.within second.within;
}

-- tokens in brackets have `FitsIn` with a height greater by 1
bracket_fits : {Printable : Type 0} {height : ℕ} {tokens : List Symbol → List Symbol} {opening closing : TokenKind}
    → Brackets opening closing
    → FitsIn Printable height tokens
    → FitsIn Printable (height + 1) (λ rest. mark opening ∷ tokens (mark closing ∷ rest))
bracket_fits {closing} brackets inside = record {
  printable = λ rest bare. inside.printable (mark closing ∷ rest) bare;
  within = bracket_within brackets inside.within;
}

-- two runs of tokens with a token between them and others after them have `FitsIn` for all three conditions, with the
-- greatest height
joined_fits : {One Two Others : Type 0} {first second more : ℕ} {one two others : List Symbol → List Symbol}
    (kind : TokenKind)
    → IsFlat kind → FitsIn One first one → FitsIn Two second two → FitsIn Others more others
    → FitsIn (One × (Two × Others)) (max first (max second more)) (λ rest. one (mark kind ∷ two (others rest)))
joined_fits kind flat_kind first second more = then_fits first (marked_fits kind flat_kind (then_fits second more))

-- `FitsIn` follows from `FitsIn` for a stronger condition and a greater height
printed : {One Other : Type 0} {height less : ℕ} {tokens : List Symbol → List Symbol} → (One → Other) → less ≤ height
    → FitsIn One height tokens → FitsIn Other less tokens
printed view lower inside = record {
  printable = λ rest bare. let found = inside.printable rest bare in (view found.0, found.1);
  within = lower_within lower inside.within;
}

-- a test is true if `test || false` is
first_of_or : (test : Bool) → (test || false) ≡ true → test ≡ true
first_of_or true is = refl
first_of_or false is = is

-- plain digits that begin with a zero are that zero alone
leading : (text : List ℕ) → 0 < length text → is_plain text ≡ true → get_or text 0 0 ≡ 48 → length text ≡ 1
leading [] some test zero_first = absurd (omega arith)
leading (byte ∷ text) some test zero_first =
    let first : (byte == 48) ≡ true = grind (arith, nat_tests) in
    let one : (length (byte ∷ text) == 1) ≡ true = first_of_or (length (byte ∷ text) == 1) (rw first at test) in
    eqb-true (length (byte ∷ text)) 1 one

-- the number of a plain run of `least` to `most` digits has as many digits
digits_fit : (least most : ℕ) (run : List ℕ) → is_number least most run ≡ true → is_plain run ≡ true → 0 < least
    → most ≤ 18 → HasDigits least most (number_of run)
digits_fit least most run is bare some few =
    let tests = and_parts (nat_le least (length run) && nat_le (length run) most) (list_all is_ascii_digit run) is in
    let lengths = and_parts (nat_le least (length run)) (nat_le (length run) most) tests.0 in
    let long : least ≤ length run = leb-true least (length run) lengths.0 in
    let short : length run ≤ most = leb-true (length run) most lengths.1 in
    let small : number_of run < 10 ^ 18 = digits_value_short numerals run 18 tests.1 (omega arith) in
    let same : decimal (number_of run) ≡ run =
    decimal-digits_value numerals run tests.1 (omega arith) (leading run (omega arith) bare) (omega arith) in
    record { is = rw same is; value = ap number_of same }

-- tokens keep their `FitsIn` if a true condition is added
two_fit : {Printable : Type 0} {height : ℕ} {tokens : List Symbol → List Symbol} → FitsIn Printable height tokens
    → FitsIn (Unit {0} × Printable) height tokens
two_fit inside = printed (λ found. (tt, found)) (omega arith) inside

-- the brackets that a text may need never lower its height
placed_more : (stands : Bool) (height : ℕ) → height ≤ placed_levels stands height
placed_more true height = omega arith
placed_more false height = omega arith

-- the brackets that a text may need raise its height by at most 1
placed_less : (stands : Bool) (height : ℕ) → placed_levels stands height ≤ height + 1
placed_less true height = omega arith
placed_less false height = omega arith

-- an operand needs no more open brackets than what follows `^`
sub_less : (tree : Tree) (height : ℕ) → placed_levels (is_sub tree) height ≤ placed_levels (is_focus tree) height
sub_less any_tree height = omega arith
sub_less other height = omega arith

-- what follows an operator needs no more open brackets than what follows `^`
marked_less : (tree : Tree) (height : ℕ)
    → placed_levels (is_member_or_focus tree) height ≤ placed_levels (is_focus tree) height
marked_less any_tree height = omega arith
marked_less other height = omega arith

-- the tokens of a cardinality have `FitsIn` with height 0
count_fits : (form : Option CountForm) → FitsIn (IsPrintableCount (cardinality_of form)) 0 (counted_tokens form)
count_fits None = record {
  printable = λ rest bare. ((digits_fit 1 18 (49 ∷ []) refl refl (omega arith) (omega arith), tt), bare);
  within = nothing_within;
}
count_fits (Some (at_least least is)) = record {
  printable = λ rest bare. ((digits_fit 1 18 least is bare.0 (omega arith) (omega arith), tt), bare.1);
  within = record { fits = λ count rest few flat. (omega arith, flat) };
}
count_fits (Some (between least most is also)) = record {
  printable = λ rest bare. (
    (
      digits_fit 1 18 least is bare.0 (omega arith) (omega arith),
      digits_fit 1 18 most also bare.1.0 (omega arith)
          (omega arith),
    ),
    bare.1.1,
  );
  within = record { fits = λ count rest few flat. (omega arith, flat) };
}

-- the tokens of a cardinality, of `R` if `reverse` is set, and of a name and a test have `FitsIn` with the height of
-- name and test
attribute_fits : {Name Test : Type 0} {height : ℕ} {tokens : List Symbol → List Symbol} (times : Option CountForm)
    (reverse : Bool)
    → FitsIn (Name × Test) height tokens
    → FitsIn (IsPrintableCount (cardinality_of times) × Name × Test) height
    (λ rest. counted_tokens times (reverse_tokens reverse (tokens rest)))
attribute_fits times true inside =
    printed (λ found. (found.0, found.1.0, found.1.1)) (omega arith)
    (then_fits (count_fits times) (marked_fits Reverse (λ count rest. refl) inside))
attribute_fits times false inside =
    printed (λ found. (found.0, found.1.0, found.1.1)) (omega arith) (then_fits (count_fits times) inside)

-- an attribute in braces is not read backwards
pair_forward : (count : Option CountForm) (pair : PairForm) → IsForward (pair_tree count false pair)
pair_forward count (within name value) = refl
pair_forward count other = refl

-- If numbers read back, the tokens of each form have `FitsIn` for its tree, with the height of the tree's text.
module _ (numbers : NumbersRead) where
  mutual
    -- if no digits in the tokens of a constraint form have a leading zero, the form's tree is printable. In these
    -- tokens at least as many brackets are open at once as in the text of the tree
    pub constraint_fits : (form : ConstraintForm)
        → FitsIn (IsPrintable (constraint_tree form)) (levels (constraint_tree form)) (constraint_tokens form)
    constraint_fits (alone sub) =
        printed (λ found. found) (placed_more (is_sub (sub_tree sub)) (levels (sub_tree sub))) (sub_fits sub)
    constraint_fits (refined focus refinement) =
        then_fits (sub_fits focus) (marked_fits Colon (λ count rest. refl) (refinement_fits refinement))
    constraint_fits (conjunction first second more) =
        two_fit (joined_fits And (λ count rest. refl) (sub_fits first) (sub_fits second)
        (subs_fits And (λ count rest. refl) more))
    constraint_fits (disjunction first second more) =
        two_fit (joined_fits Or (λ count rest. refl) (sub_fits first) (sub_fits second)
        (subs_fits Or (λ count rest. refl) more))
    constraint_fits (exclusion first second) =
        then_fits (sub_fits first) (marked_fits Minus (λ count rest. refl) (sub_fits second))
    constraint_fits (dotted start name more) =
        printed (λ found. (found.0, tt, found.1)) (omega arith)
        (joined_fits Dot (λ count rest. refl) (sub_fits start) (sub_fits name)
        (subs_fits Dot (λ count rest. refl) more))

    -- the tokens of further operands have `FitsIn` with the levels of their list
    subs_fits : (kind : TokenKind) → IsFlat kind → (forms : SubForms)
        → FitsIn (ArePrintable (sub_trees forms)) (list_levels (sub_trees forms)) (subs_tokens kind forms)
    subs_fits kind flat_kind no_subs = nothing_fits
    subs_fits kind flat_kind (sub_then form more) =
        marked_fits kind flat_kind (then_fits (sub_fits form) (subs_fits kind flat_kind more))

    -- the tokens of an operand have `FitsIn` with the levels of its tree as an operand
    sub_fits : (form : SubForm)
        → FitsIn (IsPrintable (sub_tree form)) (placed_levels (is_sub (sub_tree form)) (levels (sub_tree form)))
        (sub_tokens form)
    sub_fits (plain focus) =
        printed (λ found. found) (sub_less (focus_tree focus) (levels (focus_tree focus))) (focus_fits focus)
    sub_fits (member focus) = marked_fits MemberOf (λ count rest. refl) (focus_fits focus)
    sub_fits (walk operator focus) =
        marked_fits (operator_kind operator) (operator_flat operator)
        (printed (λ found. found) (marked_less (focus_tree focus) (levels (focus_tree focus))) (focus_fits focus))
    sub_fits (walk_member operator focus) =
        marked_fits (operator_kind operator) (operator_flat operator)
        (marked_fits MemberOf (λ count rest. refl) (focus_fits focus))

    -- the tokens of a focus have `FitsIn` with the levels of its tree after `^`
    focus_fits : (form : FocusForm)
        → FitsIn (IsPrintable (focus_tree form)) (placed_levels (is_focus (focus_tree form)) (levels (focus_tree form)))
        (focus_tokens form)
    focus_fits (concept run is) = record {
      printable = λ rest bare. (digits_fit 6 18 run is bare.0 (omega arith) (omega arith), bare.1);
      within = record { fits = λ count rest few flat. (omega arith, flat) };
    }
    focus_fits (concept_term run is) = record {
      printable = λ rest bare. (digits_fit 6 18 run is bare.0 (omega arith) (omega arith), bare.1);
      within = record { fits = λ count rest few flat. (omega arith, flat) };
    }
    focus_fits any = marked_fits Wildcard (λ count rest. refl) nothing_fits
    focus_fits (round inside) =
        printed (λ found. found) (placed_less (is_focus (constraint_tree inside)) (levels (constraint_tree inside)))
        (bracket_fits round_brackets (constraint_fits inside))

    -- the tokens of a refinement form have `FitsIn` with the levels of its tree
    refinement_fits : (form : RefinementForm)
        → FitsIn (IsPrintableRefinement (refinement_tree form)) (refinement_levels (refinement_tree form))
        (refinement_tokens form)
    refinement_fits (one_item item) =
        printed (λ found. found) (placed_more (is_item (item_tree item)) (refinement_levels (item_tree item)))
        (item_fits item)
    refinement_fits (all_items first second more) =
        two_fit (joined_fits And (λ count rest. refl) (item_fits first) (item_fits second)
        (items_fits And (λ count rest. refl) more))
    refinement_fits (some_items first second more) =
        two_fit (joined_fits Or (λ count rest. refl) (item_fits first) (item_fits second)
        (items_fits Or (λ count rest. refl) more))

    -- the tokens of further items have `FitsIn` with the levels of their list
    items_fits : (kind : TokenKind) → IsFlat kind → (forms : ItemForms)
        → FitsIn (ArePrintableItems (item_trees forms)) (item_levels (item_trees forms)) (items_tokens kind forms)
    items_fits kind flat_kind no_items = nothing_fits
    items_fits kind flat_kind (item_then form more) =
        marked_fits kind flat_kind (then_fits (item_fits form) (items_fits kind flat_kind more))

    -- the tokens of an item have `FitsIn` with the levels of its tree as an item
    item_fits : (form : ItemForm)
        → FitsIn (IsPrintableRefinement (item_tree form))
        (placed_levels (is_item (item_tree form)) (refinement_levels (item_tree form))) (item_tokens form)
    item_fits (attribute times reverse pair) = pair_fits times reverse pair
    item_fits (group times set) =
        printed (λ found. found) (omega arith) (then_fits (count_fits times) (bracket_fits braces (set_fits set)))
    item_fits (round_refinement inside) =
        printed (λ found. found)
        (placed_less (is_item (refinement_tree inside)) (refinement_levels (refinement_tree inside)))
        (bracket_fits round_brackets (refinement_fits inside))

    -- the tokens of an attribute set form have `FitsIn` with the levels of its tree
    set_fits : (form : SetForm) → FitsIn (IsPrintableSet (set_tree form)) (set_levels (set_tree form)) (set_tokens form)
    set_fits (one_part part) =
        printed (λ found. found) (placed_more (is_part (part_tree part)) (set_levels (part_tree part))) (part_fits part)
    set_fits (all_parts first second more) =
        two_fit (joined_fits And (λ count rest. refl) (part_fits first) (part_fits second)
        (parts_fits And (λ count rest. refl) more))
    set_fits (some_parts first second more) =
        two_fit (joined_fits Or (λ count rest. refl) (part_fits first) (part_fits second)
        (parts_fits Or (λ count rest. refl) more))

    -- the tokens of further parts have `FitsIn` with the levels of their list
    parts_fits : (kind : TokenKind) → IsFlat kind → (forms : PartForms)
        → FitsIn (ArePrintableParts (part_trees forms)) (part_levels (part_trees forms)) (parts_tokens kind forms)
    parts_fits kind flat_kind no_parts = nothing_fits
    parts_fits kind flat_kind (part_then form more) =
        marked_fits kind flat_kind (then_fits (part_fits form) (parts_fits kind flat_kind more))

    -- the tokens of a part have `FitsIn` with the levels of its tree as a part
    part_fits : (form : PartForm)
        → FitsIn (IsPrintableSet (part_tree form))
        (placed_levels (is_part (part_tree form)) (set_levels (part_tree form))) (part_tokens form)
    part_fits (counted_part times pair) =
        printed (λ found. (pair_forward times pair, found)) (omega arith) (pair_fits times false pair)
    part_fits (round_set inside) =
        printed (λ found. found) (placed_less (is_part (set_tree inside)) (set_levels (set_tree inside)))
        (bracket_fits round_brackets (set_fits inside))

    -- the tokens of a pair, after its cardinality and after `R` if `reverse` is set, have `FitsIn` with the levels of
    -- its attribute
    pair_fits : (times : Option CountForm) (reverse : Bool) (form : PairForm)
        → FitsIn (IsPrintableAttribute (pair_tree times reverse form)) (attribute_levels (pair_tree times reverse form))
        (λ rest. counted_tokens times (reverse_tokens reverse (pair_tokens form rest)))
    pair_fits times reverse (within name value) =
        attribute_fits times reverse
        (then_fits (sub_fits name) (marked_fits EqualSign (λ count rest. refl) (sub_fits value)))
    pair_fits times reverse (outside name value) =
        attribute_fits times reverse
        (then_fits (sub_fits name) (marked_fits NotEqualSign (λ count rest. refl) (sub_fits value)))
    pair_fits times reverse (number name compare text value is) =
        attribute_fits times reverse
        (then_fits (sub_fits name) (marked_fits (compare_kind compare) (compare_flat compare) (record {
          printable = λ rest bare. (numbers (drop 1 text) value is, bare);
          within = record { fits = λ count rest few flat. (omega arith, flat) };
        })))
