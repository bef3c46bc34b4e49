-- A token of the code in front of others, as reading sees it.
use Rattle.std.proofs.Common.{◌≡◌, ◌<◌, ◌+◌, ℕ, List, [], ◌∷◌, length, get_or, Bool, false, None, Some, cond}
use Rattle.std.proofs.Common.{option_map, refl, ap, sym, ◌∙◌, zero, suc, arith}
use Rattle.ecl_lexer.specs.Tokens.{spelled}
use Rattle.ecl_lexer.specs.declared.token.Token.{Token}
use Rattle.ecl_lexer.specs.declared.token.TokenKind.{TokenKind}
use Rattle.ecl_lexer.specs.declared.token.TokenKind.TheVariants as token
use Rattle.constraint_tree.specs.Grammar.{Symbol, symbol_of}
use Rattle.constraint_tree.specs.declared.operator.Compare.{Compare}
use Rattle.constraint_tree.specs.declared.operator.Operator.{Operator}
use Rattle.ecl_parser.specs.inside.Gives.{symbols, symbols_from}
use Rattle.ecl_parser.specs.inside.Reading.{following, compare_at, compare_of, is_mark, operator_at, operator_of}
use Rattle.ecl_parser.specs.declared.tokens.Mark.{Mark}
use Rattle.ecl_parser.specs.declared.tokens.Mark.TheVariants as marks

-- digits are no mark
no_digits : (wanted : Mark) → is_mark wanted token.Digits ≡ false
no_digits marks.And = refl
no_digits other = refl

-- a number is no mark
no_number : (wanted : Mark) → is_mark wanted token.Number ≡ false
no_number marks.And = refl
no_number other = refl

-- `following wanted` on a token of `kind` in front of `rest` is `rest` if `kind` is that of the mark `wanted`, and
-- otherwise `None`
pub after_symbol : (wanted : Mark) (kind : TokenKind) (bytes : List ℕ) (rest : List Symbol)
    → following wanted (symbol_of (record { kind = kind; bytes = bytes }) ∷ rest)
    ≡ cond (is_mark wanted kind) (Some rest) None
after_symbol wanted token.Digits bytes rest = ap (λ (b : Bool). cond b (Some rest) None) (sym (no_digits wanted))
after_symbol wanted token.Number bytes rest = ap (λ (b : Bool). cond b (Some rest) None) (sym (no_number wanted))
after_symbol wanted kind bytes rest = refl

-- `operator_at` on a token of `kind` in front of `rest` reads the hierarchy operator of `kind`, if there is one
pub operator_symbol : (kind : TokenKind) (bytes : List ℕ) (rest : List Symbol)
    → operator_at (symbol_of (record { kind = kind; bytes = bytes }) ∷ rest)
    ≡ option_map (λ (operator : Operator). (operator, rest)) (operator_of kind)
operator_symbol token.Digits bytes rest = refl
operator_symbol token.Number bytes rest = refl
operator_symbol kind bytes rest = refl

-- `compare_at` on a token of `kind` in front of `rest` reads the comparison of `kind`, if there is one
pub compare_symbol : (kind : TokenKind) (bytes : List ℕ) (rest : List Symbol)
    → compare_at (symbol_of (record { kind = kind; bytes = bytes }) ∷ rest)
    ≡ option_map (λ (compare : Compare). (compare, rest)) (compare_of kind)
compare_symbol token.Digits bytes rest = refl
compare_symbol token.Number bytes rest = refl
compare_symbol kind bytes rest = refl

-- if `token` is the token at the index `at`, the symbols from `at` on are its symbol and those from `at + 1` on
pub at_token : (tokens : List Token) (at : ℕ) (token : Token) → at < length tokens → token ≡ get_or tokens at token
    → symbols_from tokens at ≡ symbol_of (spelled token) ∷ symbols_from tokens (at + 1)
at_token [] at token within is = absurd (omega arith)
at_token (first ∷ rest) zero token within is = ap (λ (t : Token). symbol_of (spelled t) ∷ symbols rest) (sym is)
at_token (first ∷ rest) (suc at) token within is =
    let next : at + 1 ≡ suc at = omega arith in
    let following : suc at + 1 ≡ suc (suc at) = omega arith in
    at_token rest at token (omega arith) is ∙ ap (λ n. symbol_of (spelled token) ∷ symbols_from rest n) next
    ∙ ap (λ n. symbol_of (spelled token) ∷ symbols_from (first ∷ rest) n) (sym following)

-- the token at a place does not depend on the default for places past the end
same_item : (tokens : List Token) (at : ℕ) (one other : Token) → at < length tokens
    → get_or tokens at one ≡ get_or tokens at other
same_item [] at one other within = absurd (omega arith)
same_item (first ∷ rest) zero one other within = refl
same_item (first ∷ rest) (suc at) one other within = same_item rest at one other (omega arith)

-- if `at` is below the number of tokens, the symbols from `at` on are the symbol of the token that `get_or` returns
-- there, whatever its default `none` is, and those from `at + 1` on
pub at_place : (tokens : List Token) (at : ℕ) (none : Token) → at < length tokens
    → symbols_from tokens at ≡ symbol_of (spelled (get_or tokens at none)) ∷ symbols_from tokens (at + 1)
at_place tokens at none within =
    at_token tokens at (get_or tokens at none) within (same_item tokens at none (get_or tokens at none) within)
