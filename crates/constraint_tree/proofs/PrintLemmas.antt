-- The text of a printable tree is cut into the lexemes that spell its symbols.
use Rattle.std.proofs.Common.{ℕ, pos, negsuc, ◌≡◌, Bool, true, false, List, [], ◌∷◌, ◌++◌, codes, refl, ap, sym, subst}
use Rattle.std.proofs.Common.{arith}
use Rattle.std.specs.Char.{is_ascii_digit}
use Rattle.std.proofs.lemmas.List.{append-nil, append_assoc}
use Rattle.ecl_lexer.specs.Bytes.{begins}
use Rattle.ecl_lexer.specs.declared.token.TokenKind.{TokenKind}
use Rattle.ecl_lexer.specs.declared.token.TokenKind.TheVariants.{Dot, And, Or, RoundOpen, RoundClose}
use Rattle.constraint_tree.specs.declared.operator.Compare.TheVariants.{Equal, NotEqual, Less, LessOrEqual, Greater}
use Rattle.constraint_tree.specs.declared.operator.Compare.TheVariants.{GreaterOrEqual}
use Rattle.constraint_tree.specs.Grammar.{Symbol, mark, reverse_tokens}
use Rattle.constraint_tree.specs.Text.{attribute_text, cardinality_text, compare_text, constraint_text, is_focus}
use Rattle.constraint_tree.specs.Text.{is_item, is_member_or_focus, is_part, is_sub, joined_items, joined_parts}
use Rattle.constraint_tree.specs.Text.{joined_text, listed_items, listed_parts, listed_text, number_text, operator_text}
use Rattle.constraint_tree.specs.Text.{placed_text, refinement_text, reverse_text, set_text, test_text, unsigned_text}
use Rattle.constraint_tree.specs.Tree.{Tree, concept_tree, any_tree, walk_tree, member_tree, and_tree, or_tree}
use Rattle.constraint_tree.specs.Tree.{minus_tree, dotted_tree, refined_tree, Trees, no_trees, tree_then}
use Rattle.constraint_tree.specs.Tree.{RefinementTree, one_refinement, group_refinement, and_refinement, or_refinement}
use Rattle.constraint_tree.specs.Tree.{RefinementTrees, no_refinements, refinement_then, AttributeSetTree, one_set}
use Rattle.constraint_tree.specs.Tree.{and_set, or_set, AttributeSetTrees, no_sets, set_then, AttributeTree}
use Rattle.constraint_tree.specs.Tree.{attribute_tree, TestTree, within_test, outside_test, number_test}
use Rattle.constraint_tree.proofs.BeginLemmas.{after_caret, after_operator, four_parts, operand_begins, set_unbraced}
use Rattle.constraint_tree.proofs.DigitLemmas.{EndsNumber, count_reads, digits_read, digits_written, ends_digits}
use Rattle.constraint_tree.proofs.DigitLemmas.{value_reads}
use Rattle.constraint_tree.proofs.LexemeLemmas.{Reads, along, brace_close, brace_open, caret, colon, comma}
use Rattle.constraint_tree.proofs.LexemeLemmas.{compare_reads, dot, equal_sign, minus_word, not_equal_sign}
use Rattle.constraint_tree.proofs.LexemeLemmas.{operand_byte, operator_reads, or_word, reverse_word, round_close}
use Rattle.constraint_tree.proofs.LexemeLemmas.{round_open, wildcard}
use Rattle.constraint_tree.proofs.Symbols.{placed as placed_symbols, constraint_symbols, joined_symbols, listed_symbols}
use Rattle.constraint_tree.proofs.Symbols.{refinement_symbols, joined_item_symbols, listed_item_symbols, set_symbols}
use Rattle.constraint_tree.proofs.Symbols.{joined_part_symbols, listed_part_symbols, attribute_symbols, test_symbols}
use Rattle.constraint_tree.proofs.Symbols.{IsPrintable, ArePrintable, IsPrintableRefinement, ArePrintableItems}
use Rattle.constraint_tree.proofs.Symbols.{IsPrintableSet, ArePrintableParts, IsPrintableAttribute, IsPrintableTest}

-- a text may follow another: it begins with no digit, and with no point either unless `bare` is true
abbrev pub Follows : Bool → List ℕ → Type 0
Follows true rest = begins is_ascii_digit rest ≡ false
Follows false rest = EndsNumber rest

-- in front of every text that may follow it, the lexer reads a text as the given symbols
abbrev pub ReadsBefore : Bool → List ℕ → (List Symbol → List Symbol) → Type 0
ReadsBefore bare text front =
    (rest : List ℕ) (symbols : List Symbol) → Follows bare rest → Reads rest symbols
    → Reads (text ++ rest) (front symbols)

-- a closing bracket may follow any text
close_follows : (bare : Bool) (rest : List ℕ) → Follows bare (41 ∷ rest)
close_follows true rest = refl
close_follows false rest = refl

-- a text with the brackets that it needs is read in front of every text that may follow it
placed_reads : (stands inner outer : Bool) (text : List ℕ) (front : List Symbol → List Symbol)
    → (stands ≡ true → (rest : List ℕ) → Follows outer rest → Follows inner rest) → ReadsBefore inner text front
    → ReadsBefore outer (placed_text stands text) (placed_symbols stands front)
placed_reads true inner outer text front same reads rest symbols follows more =
    along (front symbols) (ap (λ (whole : List ℕ). whole ++ rest) (sym (append-nil text)))
    (reads rest symbols (same refl rest follows) more)
placed_reads false inner outer text front same reads rest symbols follows more =
    along (mark RoundOpen ∷ front (mark RoundClose ∷ symbols))
    (ap (λ (whole : List ℕ). 40 ∷ whole) (sym (append_assoc text (41 ∷ []) rest)))
    (round_open (text ++ 41 ∷ rest) (front (mark RoundClose ∷ symbols))
    (reads (41 ∷ rest) (mark RoundClose ∷ symbols) (close_follows inner rest) (round_close rest symbols more)))

-- a text that may follow an operand may follow every tree that stands without brackets as an operand
sub_follows : (stands : Bool) → stands ≡ true → (rest : List ℕ) → Follows true rest → Follows stands rest
sub_follows true is rest follows = follows
sub_follows false is rest follows = absurd (cc)

-- a text that may follow an operand may follow every tree that stands without brackets after an operator
member_follows : (tree : Tree) → is_member_or_focus tree ≡ true → (rest : List ℕ) → Follows true rest
    → Follows (is_sub tree) rest
member_follows (concept_tree id) is rest follows = follows
member_follows any_tree is rest follows = follows
member_follows (walk_tree operator operand) is rest follows = follows
member_follows (member_tree operand) is rest follows = follows
member_follows other is rest follows = absurd (cc)

-- a text that may follow an operand may follow every tree that stands without brackets after `^`
focus_follows : (tree : Tree) → is_focus tree ≡ true → (rest : List ℕ) → Follows true rest → Follows (is_sub tree) rest
focus_follows (concept_tree id) is rest follows = follows
focus_follows any_tree is rest follows = follows
focus_follows (walk_tree operator operand) is rest follows = follows
focus_follows (member_tree operand) is rest follows = follows
focus_follows other is rest follows = absurd (cc)

-- the text of an operand, with the brackets that it needs
abbrev placed : Tree → List ℕ
placed tree = placed_text (is_sub tree) (constraint_text tree)

-- the text of an item, with the brackets that it needs
abbrev placed_item : RefinementTree → List ℕ
placed_item tree = placed_text (is_item tree) (refinement_text tree)

-- the text of a part, with the brackets that it needs
abbrev placed_part : AttributeSetTree → List ℕ
placed_part tree = placed_text (is_part tree) (set_text tree)

-- the text of a tree is read in front of every text that may follow it
abbrev ReadsTree : Tree → Type 0
ReadsTree tree = ReadsBefore (is_sub tree) (constraint_text tree) (constraint_symbols tree)

-- an operand is read with the brackets that it needs
operand_reads : (tree : Tree) → ReadsTree tree
    → ReadsBefore true (placed tree) (placed_symbols (is_sub tree) (constraint_symbols tree))
operand_reads tree reads =
    placed_reads (is_sub tree) (is_sub tree) true (constraint_text tree) (constraint_symbols tree)
    (sub_follows (is_sub tree)) reads

-- an item is read with the brackets that it needs
item_reads : (tree : RefinementTree) → ReadsBefore false (refinement_text tree) (refinement_symbols tree)
    → ReadsBefore false (placed_item tree) (placed_symbols (is_item tree) (refinement_symbols tree))
item_reads tree reads = placed_reads (is_item tree) false false (refinement_text tree) (refinement_symbols tree)
    (λ is rest follows. follows) reads

-- a part is read with the brackets that it needs
part_reads : (tree : AttributeSetTree) → ReadsBefore false (set_text tree) (set_symbols tree)
    → ReadsBefore false (placed_part tree) (placed_symbols (is_part tree) (set_symbols tree))
part_reads tree reads = placed_reads (is_part tree) false false (set_text tree) (set_symbols tree)
    (λ is rest follows. follows) reads

-- `before` joins operands: it is read in front of an operand, and it may follow one
record Joins (bare : Bool) (before : List ℕ) (kind : TokenKind) : Type 0 where
  joins : (rest : List ℕ) (symbols : List Symbol) → begins operand_byte rest ≡ true → Reads rest symbols
      → Reads (before ++ rest) (mark kind ∷ symbols)
  apart : (rest : List ℕ) → Follows bare (before ++ rest)

-- `before` joins items or parts: it is read in front of any text that is read, and it may follow an item or a part
record JoinsAll (before : List ℕ) (kind : TokenKind) : Type 0 where
  joins : (rest : List ℕ) (symbols : List Symbol) → Reads rest symbols → Reads (before ++ rest) (mark kind ∷ symbols)
  apart : (rest : List ℕ) → Follows false (before ++ rest)

-- `,` joins operands
and_joins : Joins true (codes ",") And
and_joins = record { joins = λ rest symbols starts more. comma rest symbols more; apart = λ rest. refl }

-- ` OR ` joins operands
or_joins : Joins true (codes " OR ") Or
or_joins = record { joins = λ rest symbols starts more. or_word rest symbols more; apart = λ rest. refl }

-- `.` joins operands
dot_joins : Joins true (codes ".") Dot
dot_joins = record { joins = dot; apart = λ rest. refl }

-- `,` joins items and parts
and_joins_all : JoinsAll (codes ",") And
and_joins_all = record { joins = comma; apart = λ rest. refl }

-- ` OR ` joins items and parts
or_joins_all : JoinsAll (codes " OR ") Or
or_joins_all = record { joins = or_word; apart = λ rest. refl }

-- three texts in a row are one text, whether joined from the right or from the left
two_parts : (one two rest : List ℕ) → one ++ (two ++ rest) ≡ one ++ two ++ rest
two_parts one two rest = sym (append_assoc one two rest)

-- four texts in a row are one text, whether joined from the right or from the left
three_parts : (one two three rest : List ℕ) → one ++ (two ++ (three ++ rest)) ≡ one ++ two ++ three ++ rest
three_parts one two three rest = simp append_assoc

-- the remaining operands of a list may follow an operand
list_follows : (kind : TokenKind) (before : List ℕ) → Joins true before kind → (trees : Trees) (rest : List ℕ)
    → Follows true rest → Follows true (listed_text before trees ++ rest)
list_follows kind before joint no_trees rest follows = follows
list_follows kind before joint (tree_then first more) rest follows =
    subst (λ (text : List ℕ). Follows true text) (three_parts before (placed first) (listed_text before more) rest)
    (joint.apart (placed first ++ (listed_text before more ++ rest)))

-- the remaining items of a list may follow an item
items_follow : (kind : TokenKind) (before : List ℕ) → JoinsAll before kind
    → (trees : RefinementTrees) (rest : List ℕ) → Follows false rest → Follows false (listed_items before trees ++ rest)
items_follow kind before joint no_refinements rest follows = follows
items_follow kind before joint (refinement_then first more) rest follows =
    subst (λ (text : List ℕ). Follows false text)
    (three_parts before (placed_item first) (listed_items before more) rest)
    (joint.apart (placed_item first ++ (listed_items before more ++ rest)))

-- the remaining parts of a list may follow a part
parts_follow : (kind : TokenKind) (before : List ℕ) → JoinsAll before kind
    → (trees : AttributeSetTrees) (rest : List ℕ) → Follows false rest
    → Follows false (listed_parts before trees ++ rest)
parts_follow kind before joint no_sets rest follows = follows
parts_follow kind before joint (set_then first more) rest follows =
    subst (λ (text : List ℕ). Follows false text)
    (three_parts before (placed_part first) (listed_parts before more) rest)
    (joint.apart (placed_part first ++ (listed_parts before more ++ rest)))

-- a value test may follow a name
test_follows : (test : TestTree) (rest : List ℕ) → Follows true (test_text test ++ rest)
test_follows (within_test operand) rest = refl
test_follows (outside_test operand) rest = refl
test_follows (number_test Equal value) rest = refl
test_follows (number_test NotEqual value) rest = refl
test_follows (number_test Less value) rest = refl
test_follows (number_test LessOrEqual value) rest = refl
test_follows (number_test Greater value) rest = refl
test_follows (number_test GreaterOrEqual value) rest = refl

-- `R` in front of a name is read
reverse_reads : (reverse : Bool) (rest : List ℕ) (symbols : List Symbol) → Reads rest symbols
    → Reads (reverse_text reverse ++ rest) (reverse_tokens reverse symbols)
reverse_reads true rest symbols more = reverse_word rest symbols more
reverse_reads false rest symbols more = more

mutual
  -- if a tree is printable, the lexer reads its text as the symbols of the tree
  pub constraint_reads : (tree : Tree) → IsPrintable tree → ReadsTree tree
  constraint_reads (concept_tree id) printable rest symbols follows more =
      digits_read id rest symbols (digits_written 6 id (omega arith) printable) follows more
  constraint_reads any_tree printable rest symbols follows more = wildcard rest symbols more
  constraint_reads (walk_tree operator operand) printable rest symbols follows more =
      let inside = placed_reads (is_member_or_focus operand) (is_sub operand) true (constraint_text operand)
      (constraint_symbols operand) (member_follows operand) (constraint_reads operand printable) rest symbols follows
      more in
      along _ (two_parts (operator_text operator)
      (placed_text (is_member_or_focus operand) (constraint_text operand)) rest)
      (operator_reads operator _ _ (after_operator operand printable rest) inside)
  constraint_reads (member_tree operand) printable rest symbols follows more =
      let inside = placed_reads (is_focus operand) (is_sub operand) true (constraint_text operand)
      (constraint_symbols operand) (focus_follows operand) (constraint_reads operand printable) rest symbols follows
      more in
      caret _ _ (after_caret operand printable rest) inside
  constraint_reads (and_tree parts) printable rest symbols follows more =
      joined_reads And (codes ",") and_joins parts printable.1 rest symbols (ends_digits rest follows) more
  constraint_reads (or_tree parts) printable rest symbols follows more =
      joined_reads Or (codes " OR ") or_joins parts printable.1 rest symbols (ends_digits rest follows) more
  constraint_reads (minus_tree first second) printable rest symbols follows more =
      let other = operand_reads second (constraint_reads second printable.1) rest symbols (ends_digits rest follows)
      more in
      let one = operand_reads first (constraint_reads first printable.0) _ _ refl (minus_word _ _ other) in
      along _ (three_parts (placed first) (codes " MINUS ") (placed second) rest) one
  constraint_reads (dotted_tree start names) printable rest symbols follows more =
      let others = listed_reads Dot (codes ".") dot_joins names printable.2 rest symbols (ends_digits rest follows)
      more in
      let one = operand_reads start (constraint_reads start printable.0) _ _
      (list_follows Dot (codes ".") dot_joins names rest (ends_digits rest follows)) others in
      along _ (two_parts (placed start) (listed_text (codes ".") names) rest) one
  constraint_reads (refined_tree focus refinement) printable rest symbols follows more =
      let other = refinement_reads refinement printable.1 rest symbols follows more in
      let one = operand_reads focus (constraint_reads focus printable.0) _ _ refl (colon _ _ other) in
      along _ (three_parts (placed focus) (codes ":") (refinement_text refinement) rest) one

  -- the text of a list of printable operands is read
  joined_reads : (kind : TokenKind) (before : List ℕ) → Joins true before kind → (trees : Trees) → ArePrintable trees
      → ReadsBefore true (joined_text before trees) (joined_symbols kind trees)
  joined_reads kind before joint no_trees printable rest symbols follows more = more
  joined_reads kind before joint (tree_then first others) printable rest symbols follows more =
      let following = listed_reads kind before joint others printable.1 rest symbols follows more in
      let one = operand_reads first (constraint_reads first printable.0) _ _
      (list_follows kind before joint others rest follows) following in
      along _ (two_parts (placed first) (listed_text before others) rest) one

  -- the text of printable operands, each after `before`, is read
  listed_reads : (kind : TokenKind) (before : List ℕ) → Joins true before kind → (trees : Trees) → ArePrintable trees
      → ReadsBefore true (listed_text before trees) (listed_symbols kind trees)
  listed_reads kind before joint no_trees printable rest symbols follows more = more
  listed_reads kind before joint (tree_then first others) printable rest symbols follows more =
      let following = listed_reads kind before joint others printable.1 rest symbols follows more in
      let one = operand_reads first (constraint_reads first printable.0) _ _
      (list_follows kind before joint others rest follows) following in
      along _ (three_parts before (placed first) (listed_text before others) rest)
      (joint.joins _ _ (operand_begins first printable.0 (listed_text before others ++ rest)) one)

  -- the text of a printable refinement is read
  refinement_reads : (tree : RefinementTree) → IsPrintableRefinement tree
      → ReadsBefore false (refinement_text tree) (refinement_symbols tree)
  refinement_reads (one_refinement what) printable rest symbols follows more =
      attribute_reads what printable rest symbols follows more
  refinement_reads (group_refinement count set) printable rest symbols follows more =
      let inside = set_reads set printable.1 (125 ∷ rest) _ refl (brace_close rest symbols more) in
      let braces = brace_open _ _ (set_unbraced set printable.1 (125 ∷ rest)) inside in
      along _ (four_parts (cardinality_text count) (codes "{") (set_text set) (codes "}") rest)
      (count_reads count.min count.max _ _ printable.0.0 printable.0.1 braces)
  refinement_reads (and_refinement parts) printable rest symbols follows more =
      joined_items_read And (codes ",") and_joins_all parts printable.1 rest symbols follows more
  refinement_reads (or_refinement parts) printable rest symbols follows more =
      joined_items_read Or (codes " OR ") or_joins_all parts printable.1 rest symbols follows more

  -- the text of a list of printable items is read
  joined_items_read : (kind : TokenKind) (before : List ℕ) → JoinsAll before kind → (trees : RefinementTrees)
      → ArePrintableItems trees → ReadsBefore false (joined_items before trees) (joined_item_symbols kind trees)
  joined_items_read kind before joint no_refinements printable rest symbols follows more = more
  joined_items_read kind before joint (refinement_then first others) printable rest symbols follows more =
      let following = listed_items_read kind before joint others printable.1 rest symbols follows more in
      let one = item_reads first (refinement_reads first printable.0) _ _
      (items_follow kind before joint others rest follows) following in
      along _ (two_parts (placed_item first) (listed_items before others) rest) one

  -- the text of printable items, each after `before`, is read
  listed_items_read : (kind : TokenKind) (before : List ℕ) → JoinsAll before kind → (trees : RefinementTrees)
      → ArePrintableItems trees → ReadsBefore false (listed_items before trees) (listed_item_symbols kind trees)
  listed_items_read kind before joint no_refinements printable rest symbols follows more = more
  listed_items_read kind before joint (refinement_then first others) printable rest symbols follows more =
      let following = listed_items_read kind before joint others printable.1 rest symbols follows more in
      let one = item_reads first (refinement_reads first printable.0) _ _
      (items_follow kind before joint others rest follows) following in
      along _ (three_parts before (placed_item first) (listed_items before others) rest) (joint.joins _ _ one)

  -- the text of a printable attribute set is read
  set_reads : (tree : AttributeSetTree) → IsPrintableSet tree → ReadsBefore false (set_text tree) (set_symbols tree)
  set_reads (one_set what) printable rest symbols follows more =
      attribute_reads what printable.1 rest symbols follows more
  set_reads (and_set parts) printable rest symbols follows more =
      joined_parts_read And (codes ",") and_joins_all parts printable.1 rest symbols follows more
  set_reads (or_set parts) printable rest symbols follows more =
      joined_parts_read Or (codes " OR ") or_joins_all parts printable.1 rest symbols follows more

  -- the text of a list of printable parts is read
  joined_parts_read : (kind : TokenKind) (before : List ℕ) → JoinsAll before kind → (trees : AttributeSetTrees)
      → ArePrintableParts trees → ReadsBefore false (joined_parts before trees) (joined_part_symbols kind trees)
  joined_parts_read kind before joint no_sets printable rest symbols follows more = more
  joined_parts_read kind before joint (set_then first others) printable rest symbols follows more =
      let following = listed_parts_read kind before joint others printable.1 rest symbols follows more in
      let one = part_reads first (set_reads first printable.0) _ _ (parts_follow kind before joint others rest follows)
      following in
      along _ (two_parts (placed_part first) (listed_parts before others) rest) one

  -- the text of printable parts, each after `before`, is read
  listed_parts_read : (kind : TokenKind) (before : List ℕ) → JoinsAll before kind → (trees : AttributeSetTrees)
      → ArePrintableParts trees → ReadsBefore false (listed_parts before trees) (listed_part_symbols kind trees)
  listed_parts_read kind before joint no_sets printable rest symbols follows more = more
  listed_parts_read kind before joint (set_then first others) printable rest symbols follows more =
      let following = listed_parts_read kind before joint others printable.1 rest symbols follows more in
      let one = part_reads first (set_reads first printable.0) _ _ (parts_follow kind before joint others rest follows)
      following in
      along _ (three_parts before (placed_part first) (listed_parts before others) rest) (joint.joins _ _ one)

  -- the text of a printable attribute is read
  attribute_reads : (what : AttributeTree) → IsPrintableAttribute what
      → ReadsBefore false (attribute_text what) (attribute_symbols what)
  attribute_reads (attribute_tree count reverse name test) printable rest symbols follows more =
      let tested = test_reads test printable.2 rest symbols follows more in
      let named = operand_reads name (constraint_reads name printable.1) _ _ (test_follows test rest) tested in
      along _ (four_parts (cardinality_text count) (reverse_text reverse) (placed name) (test_text test) rest)
      (count_reads count.min count.max _ _ printable.0.0 printable.0.1 (reverse_reads reverse _ _ named))

  -- the text of a printable value test is read
  test_reads : (test : TestTree) → IsPrintableTest test → ReadsBefore false (test_text test) (test_symbols test)
  test_reads (within_test operand) printable rest symbols follows more =
      equal_sign _ _ (operand_reads operand (constraint_reads operand printable) rest symbols (ends_digits rest follows)
      more)
  test_reads (outside_test operand) printable rest symbols follows more =
      not_equal_sign _ _ (operand_reads operand (constraint_reads operand printable) rest symbols
      (ends_digits rest follows) more)
  test_reads (number_test compare (pos number)) printable rest symbols follows more =
      along _ (two_parts (compare_text compare) (number_text (pos number)) rest)
      (compare_reads compare (unsigned_text number ++ rest) _
      (value_reads (pos number) rest symbols printable follows more))
  test_reads (number_test compare (negsuc below)) printable rest symbols follows more =
      along _ (two_parts (compare_text compare) (number_text (negsuc below)) rest)
      (compare_reads compare _ _ (value_reads (negsuc below) rest symbols printable follows more))
