use Rattle.std.proofs.Common.{◌≡◌, ◌+◌, ◌∷◌, List, subst}
use Rattle.ecl_lexer.specs.Tokens.{spelled}
use Rattle.ecl_lexer.specs.declared.token.Token.{Token}
use Rattle.constraint_tree.specs.Grammar.{symbol_of}
use Rattle.ecl_parser.specs.inside.Gives.{symbols_from}
use Rattle.ecl_parser.proofs.TokenLemmas.{at_token}
use Rattle.ecl_parser.proofs.tokens.token_at.Goals as goal

-- the token at the place is the first symbol of the symbols from the place on
pub returns-in-Some-clause-front : goal.returns-in-Some-clause-front
returns-in-Some-clause-front c =
    let found = c.in-Some.ensures.lookup in
    let P : List Token → Type 0 = λ tokens. symbols_from tokens c.args.at
    ≡ symbol_of (spelled c.in-Some.token.now) ∷ symbols_from tokens (c.args.at + 1) in
    subst P c.tokens.view_is (at_token c.tokens.inside.tokens.now c.args.at c.in-Some.token.now found.3.0 found.1)
