-- A tree with a form is printable and has a canonical form. The symbols of the canonical form are those that the text
-- of the tree spells, and its brackets are never deeper than those of any form of the tree.
use Rattle.std.proofs.Common.{ℕ, ◌≡◌, ◌≤◌, ◌&&◌, ◌||◌, ◌==◌, Bool, true, false, List, [], ◌∷◌, ◌++◌, Some, map}
use Rattle.std.proofs.Common.{if◌then◌else◌, refl, ap, ◌∙◌, sym, subst, arith}
use Rattle.std.specs.Char.{to_ascii_lowercase}
use Rattle.std.specs.List.{list_all}
use Rattle.std.specs.Str.{bytes_eq}
use Rattle.std.proofs.lemmas.Bool.{and_parts}
use Rattle.ecl_lexer.specs.Lexemes.{Lexeme, space, comment, symbol, word, digits as digits_lexeme}
use Rattle.ecl_lexer.specs.Lexemes.{number as number_lexeme, term, is_plain, bytes_of, kind_in, symbols, words}
use Rattle.ecl_lexer.specs.Tokens.{AreRead, Spelled, spelled_tokens}
use Rattle.ecl_lexer.specs.declared.token.TokenKind.{TokenKind}
use Rattle.ecl_lexer.specs.declared.token.TokenKind.TheVariants.{Digits, Number}
use Rattle.constraint_tree.specs.Grammar.{ConstraintForm, Symbol, symbol_of, constraint_tokens, constraint_tree}
use Rattle.constraint_tree.specs.Refusal.{IsConstraint, is_deep, most_open, opens, open_after}
use Rattle.constraint_tree.proofs.FitLemmas.{ArePlain, NumbersRead, constraint_fits}
use Rattle.constraint_tree.proofs.FormLemmas.{forms_of}
use Rattle.constraint_tree.proofs.LevelLemmas.{constraint_shallow, kind_of_symbol, levels, symbols_deep}
use Rattle.constraint_tree.proofs.NumberLemmas.{numbers_read}
use Rattle.constraint_tree.proofs.Symbols.{IsPrintable, constraint_symbols}
use Rattle.constraint_tree.proofs.TextLemmas.{no_more}
use Rattle.constraint_tree.specs.Tree.{Tree}

-- the tree has a canonical form: a form with this tree, whose tokens are those of the tree's text
pub record Canonical (tree : Tree) : Type 0 where
  -- the tree is printable
  pub printable : IsPrintable tree
  -- the canonical form
  pub form : ConstraintForm
  -- the tree of `form` is `tree`
  pub is : constraint_tree form ≡ tree
  -- the tokens of `form` are the symbols of the tree's text, in front of any `rest`
  pub spells : (rest : List Symbol) → constraint_tokens form rest ≡ constraint_symbols tree rest
  -- at most 64 brackets are open at once in the symbols of the tree's text
  pub shallow : symbols_deep 0 (constraint_symbols tree []) ≡ false
  -- the text of the tree has at most 64 brackets open at once
  pub few : levels tree ≤ 64

-- if no digits among the tokens of a form have a leading zero and at most 64 brackets are open at once in them, then
-- the form's tree has a canonical form. It is assumed that numbers are read back from their printed text
pub canonical : NumbersRead → (form : ConstraintForm) → ArePlain (constraint_tokens form [])
    → symbols_deep 0 (constraint_tokens form []) ≡ false → Canonical (constraint_tree form)
canonical numbers form bare flat =
    let fit = constraint_fits numbers form in
    let printable = (fit.printable [] bare).0 in
    let shallow = (fit.within.fits 0 [] (omega arith) flat).0 in
    let whole = (forms_of (constraint_tree form) printable).whole in
    record {
      printable = printable;
      form = whole.form;
      is = whole.is;
      spells = whole.spells;
      shallow = (constraint_shallow (constraint_tree form)).flat 0 [] shallow refl;
      few = omega (arith, shallow);
    }

-- the kind of a token's symbol is the kind of the token
kind_of_symbol_of : (kind : TokenKind) (bytes : List ℕ)
    → kind_of_symbol (symbol_of (record { kind = kind; bytes = bytes })) ≡ kind
kind_of_symbol_of Digits bytes = refl
kind_of_symbol_of Number bytes = refl
kind_of_symbol_of other bytes = refl

-- more than 64 brackets are open at once in tokens exactly if that is so in their symbols
pub deep_symbols : (count : ℕ) (tokens : List Spelled)
    → is_deep count tokens ≡ symbols_deep count (map symbol_of tokens)
deep_symbols count [] = refl
deep_symbols count (token ∷ tokens) =
    ap (λ (rest : Bool). (opens token.kind && (count == most_open)) || rest)
    (deep_symbols (open_after count token.kind) tokens)
    ∙ ap (λ (kind : TokenKind). (opens kind && (count == most_open))
    || symbols_deep (open_after count kind) (map symbol_of tokens)) (sym (kind_of_symbol_of token.kind token.bytes))

-- whether a kind of token is neither digits nor a number
is_mark : TokenKind → Bool
is_mark Digits = false
is_mark other = true

-- a kind found in a table passes `is_mark` if every kind of the table does
kind_in-mark : (table : List (List ℕ × TokenKind)) (bytes : List ℕ) (kind : TokenKind)
    → list_all (λ entry. is_mark entry.1) table ≡ true → kind_in table bytes ≡ Some kind → is_mark kind ≡ true
kind_in-mark [] bytes kind marks is = absurd (cc)
kind_in-mark (entry ∷ table) bytes kind marks is =
    let parts = and_parts (is_mark entry.1) (list_all (λ other. is_mark other.1) table) marks in
    by (bytes_eq entry.0 bytes) parts.0 (λ found. kind_in-mark table bytes kind parts.1 found) is
  where
    by : (test : Bool) → is_mark entry.1 ≡ true → (kind_in table bytes ≡ Some kind → is_mark kind ≡ true)
        → (if test then Some entry.1 else kind_in table bytes) ≡ Some kind → is_mark kind ≡ true
    by true first others found =
        let same : entry.1 ≡ kind = cc in
        sym (ap is_mark same) ∙ first
    by false first others found = others found

-- a token that is neither digits nor a number, in front of plain symbols, gives plain symbols
mark_plain : (kind : TokenKind) (bytes : List ℕ) (rest : List Symbol) → is_mark kind ≡ true → ArePlain rest
    → ArePlain (symbol_of (record { kind = kind; bytes = bytes }) ∷ rest)
unfolding is_mark
mark_plain Digits bytes rest is bare = absurd (cc)
mark_plain Number bytes rest is bare = bare
mark_plain other bytes rest is bare = bare

-- the digits among the symbols of lexemes that the lexer reads have no leading zero
pub read_plain : (lexemes : List Lexeme) (rest : List ℕ) → AreRead lexemes rest
    → ArePlain (map symbol_of (spelled_tokens lexemes))
unfolding is_mark
read_plain [] rest read = tt
read_plain (space byte ∷ lexemes) rest read = read_plain lexemes rest read.1
read_plain (comment inside ∷ lexemes) rest read = read_plain lexemes rest read.1
read_plain (symbol bytes kind ∷ lexemes) rest read =
    mark_plain kind (bytes_of (symbol bytes kind)) (map symbol_of (spelled_tokens lexemes))
    (kind_in-mark symbols bytes kind refl read.0.stands.0) (read_plain lexemes rest read.1)
read_plain (word letters kind ∷ lexemes) rest read =
    mark_plain kind (bytes_of (word letters kind)) (map symbol_of (spelled_tokens lexemes))
    (kind_in-mark words (map to_ascii_lowercase letters) kind refl read.0.stands.1) (read_plain lexemes rest read.1)
read_plain (digits_lexeme run ∷ lexemes) rest read =
    let bare : is_plain (run ++ []) ≡ true = ap is_plain (sym (no_more run [] refl)) ∙ read.0.stands.1 in
    (bare, read_plain lexemes rest read.1)
read_plain (number_lexeme sign whole fraction ∷ lexemes) rest read = read_plain lexemes rest read.1
read_plain (term inside ∷ lexemes) rest read = read_plain lexemes rest read.1

-- if a text is a constraint with the tree `tree`, then `tree` has a canonical form
pub constraint_canonical : (text : List ℕ) (tree : Tree) → IsConstraint text tree → Canonical tree
constraint_canonical text tree constraint =
    let lexemes = constraint.are_tokens.0 in
    let tokens = constraint.tokens in
    let form = constraint.is_tree.0 in
    let spelled : map symbol_of tokens ≡ constraint_tokens form [] = constraint.is_tree.1 in
    let from_lexemes : map symbol_of (spelled_tokens lexemes) ≡ constraint_tokens form [] =
    ap (λ (found : List Spelled). map symbol_of found) (sym constraint.are_tokens.2) ∙ spelled in
    let bare : ArePlain (constraint_tokens form []) =
    subst (λ (found : List Symbol). ArePlain found) from_lexemes (read_plain lexemes [] constraint.are_tokens.1.each) in
    let flat : symbols_deep 0 (constraint_tokens form []) ≡ false = ap (symbols_deep 0) (sym spelled)
    ∙ sym (deep_symbols 0 tokens) ∙ constraint.shallow in
    subst (λ (found : Tree). Canonical found) (sym constraint.is_tree.2) (canonical numbers_read form bare flat)
