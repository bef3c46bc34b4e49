-- Which bytes begin the text of an operand and of an attribute set.
use Rattle.std.proofs.Common.{ℕ, ◌≡◌, ◌==◌, ◌<◌, Bool, true, false, List, [], ◌∷◌, ◌++◌, Option, None, Some, length}
use Rattle.std.proofs.Common.{decimal, refl, subst, arith}
use Rattle.std.specs.Char.{is_ascii_digit}
use Rattle.std.specs.List.{list_all}
use Rattle.std.proofs.lemmas.Bool.{and_parts}
use Rattle.std.proofs.lemmas.List.{append-nil, append_assoc}
use Rattle.ecl_lexer.specs.Bytes.{begins, begins_with}
use Rattle.constraint_tree.specs.declared.operator.Operator.{Operator}
use Rattle.constraint_tree.specs.declared.operator.Operator.TheVariants.{Descendants}
use Rattle.constraint_tree.specs.Text.{attribute_text, cardinality_text, constraint_text, count_text, is_focus}
use Rattle.constraint_tree.specs.Text.{is_member_or_focus, is_sub, joined_parts, listed_parts, placed_text}
use Rattle.constraint_tree.specs.Text.{reverse_text, set_text, test_text}
use Rattle.constraint_tree.specs.Tree.{Tree, concept_tree, walk_tree, AttributeSetTree, one_set, and_set, or_set}
use Rattle.constraint_tree.specs.Tree.{AttributeSetTrees, no_sets, set_then, AttributeTree, attribute_tree}
use Rattle.constraint_tree.proofs.DigitLemmas.{digits_written}
use Rattle.constraint_tree.proofs.LexemeLemmas.{focus_byte, member_byte, operand_byte}
use Rattle.constraint_tree.proofs.SymbolLemmas.{other_byte}
use Rattle.constraint_tree.proofs.Symbols.{ArePrintableParts, HasDigits, HasTwoParts, IsPrintable, IsPrintableAttribute}
use Rattle.constraint_tree.proofs.Symbols.{IsPrintableSet}

-- the first byte of a digit run passes `test` if every digit does
first_digit : (test : ℕ → Bool) → ((byte : ℕ) → is_ascii_digit byte ≡ true → test byte ≡ true) → (run rest : List ℕ)
    → 0 < length run → list_all is_ascii_digit run ≡ true → begins test (run ++ [] ++ rest) ≡ true
first_digit test passes [] rest some each = absurd (omega arith)
first_digit test passes (byte ∷ run) rest some each =
    passes byte (and_parts (is_ascii_digit byte) (list_all is_ascii_digit run) each).0

-- the first byte of a concept's text passes `test` if every digit does
concept_begins : (test : ℕ → Bool) → ((byte : ℕ) → is_ascii_digit byte ≡ true → test byte ≡ true) → (id : ℕ)
    → HasDigits 6 18 id → (rest : List ℕ) → begins test (decimal id ++ [] ++ rest) ≡ true
concept_begins test passes id printable rest =
    let written = digits_written 6 id (omega arith) printable in
    first_digit test passes (decimal id) rest written.some written.each

-- a digit may be the first byte of a focus
digit_is_focus : (byte : ℕ) → is_ascii_digit byte ≡ true → focus_byte byte ≡ true
digit_is_focus byte is = rw is refl

-- a digit may stand after an operator
digit_is_member : (byte : ℕ) → is_ascii_digit byte ≡ true → member_byte byte ≡ true
digit_is_member byte is = rw is refl

-- a digit may be the first byte of an operand
digit_is_operand : (byte : ℕ) → is_ascii_digit byte ≡ true → operand_byte byte ≡ true
digit_is_operand byte is = rw is refl

-- if a tree is printable, its text after `^`, in brackets if it needs them, begins with a byte that may begin a focus
pub after_caret : (tree : Tree) → IsPrintable tree → (rest : List ℕ)
    → begins focus_byte (placed_text (is_focus tree) (constraint_text tree) ++ rest) ≡ true
after_caret (concept_tree id) printable rest = concept_begins focus_byte digit_is_focus id printable rest
after_caret other printable rest = refl

-- if a tree is printable, its text after a hierarchy operator, in brackets if it needs them, begins with a byte that
-- may begin a focus, or with `^`
pub after_operator : (tree : Tree) → IsPrintable tree → (rest : List ℕ)
    → begins member_byte (placed_text (is_member_or_focus tree) (constraint_text tree) ++ rest) ≡ true
after_operator (concept_tree id) printable rest = concept_begins member_byte digit_is_member id printable rest
after_operator other printable rest = refl

-- the sign of a hierarchy operator may be the first byte of an operand
walk_begins : (operator : Operator) (operand : Tree) (rest : List ℕ)
    → begins operand_byte (placed_text true (constraint_text (walk_tree operator operand)) ++ rest) ≡ true
walk_begins Descendants operand rest = refl
walk_begins other operand rest = refl

-- if a tree is printable, its text as an operand, in brackets if it needs them, begins with a byte that may begin an
-- operand
pub operand_begins : (tree : Tree) → IsPrintable tree → (rest : List ℕ)
    → begins operand_byte (placed_text (is_sub tree) (constraint_text tree) ++ rest) ≡ true
operand_begins (concept_tree id) printable rest = concept_begins operand_byte digit_is_operand id printable rest
operand_begins (walk_tree operator operand) printable rest = walk_begins operator operand rest
operand_begins other printable rest = refl

-- a text whose first byte passes a test does not begin with a byte that fails it
other_begins : (test : ℕ → Bool) (other : ℕ) (text : List ℕ) → test other ≡ false → begins test text ≡ true
    → begins_with other text ≡ false
other_begins test other [] fails starts = refl
other_begins test other (byte ∷ text) fails starts = other_byte test byte other starts fails

-- a cardinality in front of a text puts no `{` at its beginning
count_unbraced : (least : ℕ) (most : Option ℕ) (text : List ℕ) → begins_with 123 text ≡ false
    → begins_with 123 (count_text least most ++ text) ≡ false
count_unbraced least None text starts = by (least == 1) refl
  where
    by : (test : Bool) → (least == 1) ≡ test → begins_with 123 (count_text least None ++ text) ≡ false
    by true same = rw same starts
    by false same = rw same refl
count_unbraced least (Some most) text starts = refl

-- an `R` or nothing in front of a text puts no `{` at its beginning
reverse_unbraced : (reverse : Bool) (text : List ℕ) → begins_with 123 text ≡ false
    → begins_with 123 (reverse_text reverse ++ text) ≡ false
reverse_unbraced true text starts = refl
reverse_unbraced false text starts = starts

-- joining four texts and `rest` from the right gives the same text as joining them from the left
pub four_parts : (one two three four rest : List ℕ)
    → one ++ (two ++ (three ++ (four ++ rest))) ≡ one ++ two ++ three ++ four ++ rest
four_parts one two three four rest = simp append_assoc

-- the text of a printable attribute does not begin with `{`
attribute_unbraced : (what : AttributeTree) → IsPrintableAttribute what → (rest : List ℕ)
    → begins_with 123 (attribute_text what ++ rest) ≡ false
attribute_unbraced (attribute_tree count reverse name test) printable rest =
    let operand : List ℕ = placed_text (is_sub name) (constraint_text name) in
    let starts = other_begins operand_byte 123 (operand ++ (test_text test ++ rest)) refl
    (operand_begins name printable.1 (test_text test ++ rest)) in
    let counted = count_unbraced count.min count.max (reverse_text reverse ++ (operand ++ (test_text test ++ rest)))
    (reverse_unbraced reverse (operand ++ (test_text test ++ rest)) starts) in
    subst (λ (text : List ℕ). begins_with 123 text ≡ false)
    (four_parts (cardinality_text count) (reverse_text reverse) operand (test_text test) rest) counted

-- the joined parts of a printable attribute set do not begin with `{`
joined_unbraced : (before : List ℕ) (parts : AttributeSetTrees) → HasTwoParts parts → ArePrintableParts parts
    → (rest : List ℕ) → begins_with 123 (joined_parts before parts ++ rest) ≡ false
joined_unbraced before no_sets two printable rest = absurd two
joined_unbraced before (set_then (one_set what) more) two printable rest =
    subst (λ (text : List ℕ). begins_with 123 text ≡ false)
    (regroup (attribute_text what) (listed_parts before more))
    (attribute_unbraced what printable.0.1 (listed_parts before more ++ rest))
  where
    regroup : (one two : List ℕ) → one ++ (two ++ rest) ≡ one ++ [] ++ two ++ rest
    regroup one two = simp (append-nil, append_assoc)
joined_unbraced before (set_then (and_set parts) more) two printable rest = refl
joined_unbraced before (set_then (or_set parts) more) two printable rest = refl

-- if an attribute set is printable, its text does not begin with `{`, the byte 123
pub set_unbraced : (set : AttributeSetTree) → IsPrintableSet set → (rest : List ℕ)
    → begins_with 123 (set_text set ++ rest) ≡ false
set_unbraced (one_set what) printable rest = attribute_unbraced what printable.1 rest
set_unbraced (and_set parts) printable rest = joined_unbraced _ parts printable.0 printable.1 rest
set_unbraced (or_set parts) printable rest = joined_unbraced _ parts printable.0 printable.1 rest
