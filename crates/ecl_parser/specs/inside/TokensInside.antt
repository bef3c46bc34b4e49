-- The value that the fields of `Tokens` encode, and the invariant that they keep.
use Rattle.std.specs.Prelude.{List}
use Rattle.ecl_lexer.specs.declared.token.Token.{Token}
use Rattle.ecl_parser.specs.declared.tokens.Tokens.TheInside.{Inside}
use Rattle.ecl_parser.specs.inside.Brackets.{AreEnds}
use Rattle.ecl_parser.specs.inside.Gives.{symbols}

-- the tokens that the fields encode
abbrev pub tokens_in : Inside → List Token
tokens_in inside = inside.tokens.now

-- `ends` has at the index of each `(` of the tokens the index after the `)` that closes it
abbrev pub HaveEnds : Inside → Type 0
HaveEnds inside = AreEnds (symbols inside.tokens.now) inside.ends.now
