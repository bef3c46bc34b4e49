-- If the brackets of tokens are not too deep, the brackets of a form that derives them are not too deep.
use Rattle.std.proofs.Common.{◌≡◌, ◌≤◌, ℕ, ◌∷◌, false, List, [], map, refl, ap, sym, ◌∙◌, arith}
use Rattle.ecl_lexer.specs.declared.token.TokenKind.{TokenKind}
use Rattle.ecl_lexer.specs.declared.token.TokenKind.TheVariants as token
use Rattle.constraint_tree.specs.Grammar.{Symbol, digits, mark, decimal, ConstraintForm, constraint_tokens}
use Rattle.ecl_lexer.specs.Tokens.{Spelled}
use Rattle.constraint_tree.specs.Grammar.{symbol_of}
use Rattle.constraint_tree.specs.Refusal.{is_deep}
use Rattle.constraint_tree.proofs.CanonLemmas.{deep_symbols}
use Rattle.constraint_tree.proofs.LevelLemmas.{kind_of_symbol, IsFlat, IsWithin, round_brackets, braces, nothing_within}
use Rattle.constraint_tree.proofs.LevelLemmas.{marked_within, then_within, bracket_within, lower_within, symbols_deep}
use Rattle.ecl_parser.proofs.Forms.{is_bracket, HoldsOfForms, constraint_holds, constraint_depth}

-- a token that is no bracket opens and closes none
no_bracket_flat : (kind : TokenKind) → is_bracket kind ≡ false → IsFlat kind
no_bracket_flat token.RoundOpen none count rest = absurd (cc)
no_bracket_flat token.RoundClose none count rest = absurd (cc)
no_bracket_flat token.BraceOpen none count rest = absurd (cc)
no_bracket_flat token.BraceClose none count rest = absurd (cc)
no_bracket_flat other none count rest = refl

-- a token that is no bracket in front of tokens keeps `IsWithin`
token_within : {depth : ℕ} {tokens : List Symbol → List Symbol} (symbol : Symbol)
    → is_bracket (kind_of_symbol symbol) ≡ false
    → IsWithin tokens depth → IsWithin (λ rest. symbol ∷ tokens rest) depth
token_within (digits run) none inside = record { fits = λ count rest few flat. inside.fits count rest few flat }
token_within (decimal text) none inside = record { fits = λ count rest few flat. inside.fits count rest few flat }
token_within (mark kind) none inside = marked_within kind (no_bracket_flat kind none) inside

-- the tokens of each form have at least as many brackets open at once as its depth
forms_within : HoldsOfForms (λ depth tokens. IsWithin tokens depth)
forms_within = record {
  nothing = nothing_within;
  symbol = λ symbol none inside. token_within symbol none inside;
  following = λ first second. then_within first second;
  round = λ inside. lower_within (omega arith) (bracket_within round_brackets inside);
  brace = λ inside. lower_within (omega arith) (bracket_within braces inside);
  lower = λ less inside. lower_within less inside;
}

-- if a form derives tokens that are not too deep, at most 64 brackets are open at once in the form
pub fits_most : (form : ConstraintForm) (tokens : List Spelled) → map symbol_of tokens ≡ constraint_tokens form []
    → is_deep 0 tokens ≡ false → constraint_depth form ≤ 64
fits_most form tokens same shallow =
    let found = (constraint_holds forms_within form).fits 0 [] (omega arith) (ap (symbols_deep 0) (sym same)
    ∙ sym (deep_symbols 0 tokens) ∙ shallow) in
    omega (arith, found.0)
