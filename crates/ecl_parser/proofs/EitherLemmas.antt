-- Each text is a constraint or is refused.
use Rattle.std.proofs.Common.{◌≡◌, ◌⊎◌, inl, inr, ◌∙◌, ℕ, false, List, [], ◌∷◌, length, map, None, Some, refl, sym, ap}
use Rattle.std.specs.Str.{is_utf8}
use Rattle.std.proofs.lemmas.Bool.{cases_Bool, cases_lt, false≢true}
use Rattle.std.proofs.lemmas.Str.{IsUtf8-from_is_utf8, is_utf8-from_IsUtf8}
use Rattle.ecl_lexer.specs.Tokens.{AreTokensOf, IsReadable, Spelled, most_bytes}
use Rattle.ecl_lexer.specs.declared.fault.QueryFault.{QueryFault}
use Rattle.ecl_lexer.specs.declared.fault.QueryFault.TheVariants.{Long, Utf8, Depth, Syntax}
use Rattle.ecl_lexer.proofs.LawLemmas.{each_text}
use Rattle.constraint_tree.specs.Grammar.{IsTreeOf, Symbol, symbol_of}
use Rattle.constraint_tree.specs.Refusal.{IsConstraint, IsRefusalOf, is_deep}
use Rattle.constraint_tree.specs.Tree.{Tree}
use Rattle.ecl_parser.specs.inside.Reading.{Found, constraint_in, readers}
use Rattle.ecl_parser.proofs.ParseLemmas.{refusal_of_text, tokens_read}
use Rattle.ecl_parser.proofs.Sound.{constraint_derives}

-- tokens that are not too deep have a tree or have none, depending on whether reading reaches their end
tree_or_none : (tokens : List Spelled) → is_deep 0 tokens ≡ false → ((tree : Tree) × IsTreeOf tokens tree)
    ⊎ ((tree : Tree) → ¬ IsTreeOf tokens tree)
tree_or_none tokens shallow = by_read (constraint_in (readers 64) (map symbol_of tokens)) refl
  where
    by_rest : (tree : Tree) (rest : List Symbol) → constraint_in (readers 64) (map symbol_of tokens) ≡ Some (tree, rest)
        → ((tree : Tree) × IsTreeOf tokens tree) ⊎ ((tree : Tree) → ¬ IsTreeOf tokens tree)
    by_rest tree [] read = inl (tree, constraint_derives 64 (map symbol_of tokens) [] tree read)
    by_rest tree (symbol ∷ rest) read = inr (λ other is.
        let same : Some (tree, symbol ∷ rest) ≡ Some (other, []) = sym read ∙ tokens_read tokens other shallow is in
        let pair : (tree, symbol ∷ rest) ≡ (other, []) = (cc) in
        let none : symbol ∷ rest ≡ [] = ap (λ (found : Tree × List Symbol). found.1) pair in
        (cc))

    by_read : (read : Found Tree) → constraint_in (readers 64) (map symbol_of tokens) ≡ read
        → ((tree : Tree) × IsTreeOf tokens tree) ⊎ ((tree : Tree) → ¬ IsTreeOf tokens tree)
    by_read None is = inr (λ tree there. let read = tokens_read tokens tree shallow there in (cc))
    by_read (Some found) is = by_rest found.0 found.1 is

-- a readable text is a constraint or is refused, according to its tokens
of_tokens : (text : List ℕ) (tokens : List Spelled) → IsReadable text → AreTokensOf text tokens
    → ((tree : Tree) × IsConstraint text tree) ⊎ ((fault : QueryFault) × IsRefusalOf text fault)
of_tokens text tokens readable are = elim (cases_Bool (is_deep 0 tokens)) [
  | inl deep ↦ inr (Depth, (readable, tokens, are, deep))
  | inr shallow ↦ elim (tree_or_none tokens shallow) [
    | inl (tree, is) ↦
        inl (tree, record { readable = readable; tokens = tokens; are_tokens = are; shallow = shallow; is_tree = is })
    | inr none ↦ inr (Syntax, (readable, tokens, are, shallow, none))
  ]
]

-- a readable text is a constraint or is refused
of_readable : (text : List ℕ) → IsReadable text
    → ((tree : Tree) × IsConstraint text tree) ⊎ ((fault : QueryFault) × IsRefusalOf text fault)
of_readable text readable = elim (each_text text readable) [
  | inl (tokens, are) ↦ of_tokens text tokens readable are
  | inr (fault, is) ↦ inr (fault, refusal_of_text text fault is)
]

-- each text is a constraint with some tree, or it has a refusal
pub tree_or_refusal : (text : List ℕ)
    → ((tree : Tree) × IsConstraint text tree) ⊎ ((fault : QueryFault) × IsRefusalOf text fault)
tree_or_refusal text = elim (cases_lt most_bytes (length text)) [
  | inl long ↦ inr (Long, long)
  | inr short ↦ elim (cases_Bool (is_utf8 text)) [
    | inl good ↦ of_readable text (short, IsUtf8-from_is_utf8 text good)
    | inr bad ↦ inr (Utf8, (short, λ utf8. false≢true (sym bad ∙ is_utf8-from_IsUtf8 text utf8)))
  ]
]
