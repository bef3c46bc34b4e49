-- When the result of a function of the code agrees with that of reading on lists (`Reading.antt`).
use Rattle.std.specs.Prelude.{◌≡◌, ℕ, List, drop, map, Option, None, Some, Result, Ok, Err}
use Rattle.ecl_lexer.specs.Tokens.{spelled}
use Rattle.ecl_lexer.specs.declared.fault.QueryFault.{QueryFault}
use Rattle.ecl_lexer.specs.declared.fault.QueryFault.TheVariants.{Memory, Syntax}
use Rattle.ecl_lexer.specs.declared.token.Token.{Token}
use Rattle.constraint_tree.specs.Grammar.{Symbol, symbol_of}

-- the symbols of tokens of the code
abbrev pub symbols : List Token → List Symbol
symbols tokens = map (λ token. symbol_of (spelled token)) tokens

-- the symbols of the tokens from the index `at` on
abbrev pub symbols_from : List Token → ℕ → List Symbol
symbols_from tokens at = drop at (symbols tokens)

-- `fault` is a right answer to the result `read` of reading on lists: `Memory` always, `Syntax` if
-- `read` is `None`, and any other fault never
abbrev pub Fails : {Y : Type 0} → QueryFault → Option Y → Type 0
Fails Memory read = Unit {0}
Fails Syntax read = read ≡ None
Fails other read = ⊥

-- the answer of a function agrees with the result `read` of reading on lists: a value, as `view`
-- shows it, is that result, and a fault is a right answer to it
abbrev pub Gives : {X Y : Type 0} → (X → Y) → Result X QueryFault → Option Y → Type 0
Gives view (Ok found) read = read ≡ Some (view found)
Gives view (Err fault) read = Fails fault read
