use Rattle.std.proofs.Common.{◌≡◌, ◌<◌, ◌+◌, ℕ, List, length, slice_index, subst, sym, true, arith}
use Rattle.ecl_lexer.specs.declared.token.Token.{Token}
use Rattle.ecl_parser.specs.declared.tokens.Mark.TheVariants as marks
use Rattle.ecl_parser.specs.inside.Gives.{symbols, symbols_from}
use Rattle.ecl_parser.specs.inside.Reading.{after_close, stands}
use Rattle.ecl_parser.proofs.EndLemmas.{stands_within}
use Rattle.ecl_parser.proofs.tokens.Tokens.after_close.Goals as goal

-- a `(` at a place is one of the tokens, and has an end among `count` ends
has_end : (tokens : List Token) (place count : ℕ) → stands marks.RoundOpen (symbols_from tokens place) ≡ true
    → count ≡ length (symbols tokens) → place < count
has_end tokens place count is long = let within = stands_within marks.RoundOpen (symbols tokens) place is in omega arith

-- the end at the place lies within the tokens
pub offset_bounds-ends-place : goal.offset_bounds-ends-place
offset_bounds-ends-place c =
    let Stands : List Token → Type 0 = λ tokens. stands marks.RoundOpen (symbols_from tokens c.args.place) ≡ true in
    let within = has_end c.self.inside.tokens.now c.args.place (length c.self.inside.ends.now)
    (subst Stands (sym c.self.view_is) c.requires) c.self.invariant.long in
    omega (arith, c.self.told.1.1)

-- the place lies within the ends
pub bounds-ends-place : goal.bounds-ends-place
bounds-ends-place c =
    let Stands : List Token → Type 0 = λ tokens. stands marks.RoundOpen (symbols_from tokens c.args.place) ≡ true in
    has_end c.self.inside.tokens.now c.args.place (length c.self.inside.ends.now)
    (subst Stands (sym c.self.view_is) c.requires) c.self.invariant.long

-- the tokens from the end on are those after the `)` that closes the bracket
pub returns : goal.returns
returns c =
    let Ends : List Token → Type 0 = λ tokens. stands marks.RoundOpen (symbols_from tokens c.args.place) ≡ true
    → symbols_from tokens (slice_index c.self.inside.ends.now c.args.place)
    ≡ after_close 0 (symbols_from tokens (c.args.place + 1)) in
    subst Ends c.self.view_is (c.self.invariant.closes c.args.place) c.requires
