-- The tree of a text, computed: the text is cut into lexemes, and the tree of its tokens is read.
use Rattle.std.proofs.Common.{◌≡◌, ◌∙◌, ℕ, zero, suc, Bool, true, false, ◌&&◌, List, [], ◌∷◌, length, drop, map, Option}
use Rattle.std.proofs.Common.{None, Some, option_map, if◌then◌else◌, refl, sym, ap, subst}
use Rattle.std.specs.Prelude.{Result, Ok, Err, nat_le, nat_lt, option_and_then}
use Rattle.std.specs.List.{list_all}
use Rattle.std.proofs.lemmas.Bool.{and_parts, leb-true}
use Rattle.std.proofs.lemmas.Option.{none-some}
use Rattle.ecl_lexer.specs.Lexemes.{Lexeme, bytes_of, lexeme_text}
use Rattle.ecl_lexer.specs.Reading.{reading}
use Rattle.ecl_lexer.specs.Refusals.{IsRead}
use Rattle.ecl_lexer.specs.Tokens.{IsCut, IsReadable, most_bytes, spelled_tokens}
use Rattle.ecl_lexer.specs.declared.fault.QueryFault.{QueryFault}
use Rattle.ecl_lexer.proofs.ReadLemmas.{drop-lexeme_text, reading-Ok}
use Rattle.constraint_tree.specs.Denotation.{denotation}
use Rattle.constraint_tree.specs.Grammar.{symbol_of}
use Rattle.constraint_tree.specs.Refusal.{IsConstraint, is_deep}
use Rattle.constraint_tree.specs.Sample.{sample}
use Rattle.constraint_tree.specs.Tree.{Tree}
use Rattle.constraint_tree.specs.WorkedQueries.{Gives}
use Rattle.constraint_tree.proofs.LexemeLemmas.{low_bytes}
use Rattle.ecl_parser.specs.inside.Reading.{Found, bounds_at, constraint_after, constraint_in, focus_in, item_after}
use Rattle.ecl_parser.specs.inside.Reading.{item_in, many, member_in, pair_in, part_in, readers, refinement_after}
use Rattle.ecl_parser.specs.inside.Reading.{refinement_in, set_after, set_in, sub_in, test_in}
use Rattle.ecl_parser.proofs.Sound.{constraint_derives}
use Rattle.ecl_parser.proofs.SoundParts.{some_is}

-- a lexeme in front of the lexemes of the rest of a text
abbrev lexeme_then : (List ℕ → Option (List Lexeme)) → List ℕ → Result Lexeme QueryFault → Option (List Lexeme)
lexeme_then more text (Err fault) = None
lexeme_then more text (Ok lexeme) =
    option_map (λ lexemes. lexeme ∷ lexemes) (more (drop (length (bytes_of lexeme)) text))

-- the lexemes of a text, if at most `turns` lexemes read it to its end
abbrev lexemes_in : ℕ → List ℕ → Option (List Lexeme)
lexemes_in turns [] = Some []
lexemes_in zero (byte ∷ following) = None
lexemes_in (suc turns) (byte ∷ following) =
    lexeme_then (λ rest. lexemes_in turns rest) (byte ∷ following) (reading 0 (byte ∷ following))

-- a lexeme that is read, in front of lexemes that are read, gives the lexemes of the text
lexeme_cut : (text : List ℕ) (lexeme : Lexeme) (lexemes : List Lexeme) → reading 0 text ≡ Ok lexeme
    → IsCut (drop (length (bytes_of lexeme)) text) lexemes [] → IsCut text (lexeme ∷ lexemes) []
lexeme_cut text lexeme lexemes is cut =
    let here = reading-Ok 0 text lexeme is in
    let following : here.rest ≡ drop (length (bytes_of lexeme)) text =
    sym (drop-lexeme_text lexeme here.rest) ∙ ap (drop (length (bytes_of lexeme))) (sym here.is) in
    record {
      whole = here.is ∙ ap (lexeme_text lexeme) (following ∙ cut.whole);
      each = (subst (IsRead lexeme) (following ∙ cut.whole) here.read, cut.each);
    }

-- lexemes that are read to the end of a text are a cut of it
cut_in : (turns : ℕ) (text : List ℕ) (lexemes : List Lexeme) → lexemes_in turns text ≡ Some lexemes
    → IsCut text lexemes []
cut_in turns [] lexemes is =
    let none : [] ≡ lexemes = some_is is in
    subst (λ (found : List Lexeme). IsCut [] found []) none (record { whole = refl; each = tt })
cut_in zero (byte ∷ following) lexemes is = absurd (none-some lexemes is)
cut_in (suc turns) (byte ∷ following) lexemes is =
    by_result (λ rest found same. cut_in turns rest found same) (reading 0 (byte ∷ following)) refl is
  where
    by_more : (lexeme : Lexeme) → reading 0 (byte ∷ following) ≡ Ok lexeme
        → ((found : List Lexeme) → lexemes_in turns (drop (length (bytes_of lexeme)) (byte ∷ following)) ≡ Some found
        → IsCut (drop (length (bytes_of lexeme)) (byte ∷ following)) found [])
        → (more : Option (List Lexeme)) → lexemes_in turns (drop (length (bytes_of lexeme)) (byte ∷ following)) ≡ more
        → option_map (λ found. lexeme ∷ found) more ≡ Some lexemes → IsCut (byte ∷ following) lexemes []
    by_more lexeme read cut None same found = absurd (none-some lexemes found)
    by_more lexeme read cut (Some rest) same found =
        let whole : lexeme ∷ rest ≡ lexemes = some_is found in
        subst (λ (found : List Lexeme). IsCut (byte ∷ following) found []) whole
        (lexeme_cut (byte ∷ following) lexeme rest read (cut rest same))

    by_result : ((rest : List ℕ) (found : List Lexeme) → lexemes_in turns rest ≡ Some found → IsCut rest found [])
        → (read : Result Lexeme QueryFault) → reading 0 (byte ∷ following) ≡ read
        → lexeme_then (λ rest. lexemes_in turns rest) (byte ∷ following) read ≡ Some lexemes
        → IsCut (byte ∷ following) lexemes []
    by_result cuts (Err fault) read found = absurd (none-some lexemes found)
    by_result cuts (Ok lexeme) read found =
        let rest = drop (length (bytes_of lexeme)) (byte ∷ following) in
        by_more lexeme read (λ more same. cuts rest more same) (lexemes_in turns rest) refl found

-- the tree that is read, if no token is left after it
abbrev whole : Found Tree → Option Tree
whole None = None
whole (Some (tree, [])) = Some tree
whole (Some (tree, symbol ∷ rest)) = None

-- the tree of the tokens among lexemes, if at most one bracket is open at once
abbrev tree_among : List Lexeme → Option Tree
tree_among lexemes =
    if is_deep 0 (spelled_tokens lexemes) then None
    else whole (constraint_in (readers 1) (map symbol_of (spelled_tokens lexemes)))

-- whether a text is ASCII and short enough to be read
abbrev is_plain_text : List ℕ → Bool
is_plain_text text = list_all (λ byte. nat_lt byte 128) text && nat_le (length text) most_bytes

-- the tree of a plain text, if it has one
abbrev tree_in : List ℕ → Option Tree
tree_in text = if is_plain_text text then option_and_then tree_among (lexemes_in (length text) text) else None

-- the tree of an ASCII text in which no bracket stands within another, computed; `None` for any other text, and if
-- there is no tree
unfoldable pub text_tree : List ℕ → Option Tree
unfolding readers constraint_in constraint_after sub_in member_in focus_in many bounds_at test_in pair_in part_in
    set_in set_after item_in item_after refinement_in refinement_after
text_tree text = tree_in text

-- `whole` gives a tree only if the tree was read and no token is left
whole_is : (found : Found Tree) (tree : Tree) → whole found ≡ Some tree → found ≡ Some (tree, [])
whole_is None tree is = absurd (cc)
whole_is (Some (other, [])) tree is = let same : other ≡ tree = (cc) in ap (λ (t : Tree). Some (t, [])) same
whole_is (Some (other, symbol ∷ rest)) tree is = absurd (cc)

-- lexemes of a text with a tree among them make the text a constraint
tree_among-is : (text : List ℕ) (lexemes : List Lexeme) (tree : Tree) → IsReadable text → IsCut text lexemes []
    → tree_among lexemes ≡ Some tree → IsConstraint text tree
tree_among-is text lexemes tree readable cut is = by_depth (is_deep 0 (spelled_tokens lexemes)) refl is
  where
    by_depth : (deep : Bool) → is_deep 0 (spelled_tokens lexemes) ≡ deep
        → (if deep then None else whole (constraint_in (readers 1) (map symbol_of (spelled_tokens lexemes))))
        ≡ Some tree
        → IsConstraint text tree
    by_depth true same found = absurd (none-some tree found)
    by_depth false same found = record {
      readable = readable;
      tokens = spelled_tokens lexemes;
      are_tokens = (lexemes, cut, refl);
      shallow = same;
      is_tree = constraint_derives 1 (map symbol_of (spelled_tokens lexemes)) [] tree
          (whole_is (constraint_in (readers 1) (map symbol_of (spelled_tokens lexemes))) tree found);
    }

-- a text with a computed tree is a constraint
tree_in-is : (text : List ℕ) (tree : Tree) → tree_in text ≡ Some tree → IsConstraint text tree
tree_in-is text tree is = by_plain (is_plain_text text) refl is
  where
    by_lexemes : IsReadable text → (found : Option (List Lexeme)) → lexemes_in (length text) text ≡ found
        → option_and_then tree_among found ≡ Some tree → IsConstraint text tree
    by_lexemes readable None same read = absurd (none-some tree read)
    by_lexemes readable (Some lexemes) same read =
        tree_among-is text lexemes tree readable (cut_in (length text) text lexemes same) read

    by_plain : (plain : Bool) → is_plain_text text ≡ plain
        → (if plain then option_and_then tree_among (lexemes_in (length text) text) else None) ≡ Some tree
        → IsConstraint text tree
    by_plain false same read = absurd (none-some tree read)
    by_plain true same read =
        let parts = and_parts (list_all (λ byte. nat_lt byte 128) text) (nat_le (length text) most_bytes) same in
        by_lexemes (leb-true (length text) most_bytes parts.1, low_bytes text parts.0) (lexemes_in (length text) text)
        refl read

-- if `text_tree` returns `tree` for a text, the text is a constraint with the tree `tree`
pub text_tree-is : (text : List ℕ) (tree : Tree) → text_tree text ≡ Some tree → IsConstraint text tree
unfolding text_tree
text_tree-is text tree is = tree_in-is text tree is

-- if `text_tree` returns `query` for a text, and `query` denotes exactly the concepts of `answer` in the sample
-- release, then these three are a worked query (`Gives`)
pub gives : {text : List ℕ} {query : Tree} {answer : List ℕ} → text_tree text ≡ Some query
    → denotation sample query ≡ answer → Gives text query answer
gives {text = text} {query = query} is found = record { is_query = text_tree-is text query is; denotes = found }
