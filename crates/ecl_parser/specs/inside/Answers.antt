-- Why the tokens of a text are refused.
use Rattle.std.specs.Prelude.{◌≡◌, true, false, List}
use Rattle.ecl_lexer.specs.Tokens.{Spelled}
use Rattle.ecl_lexer.specs.declared.fault.QueryFault.{QueryFault}
use Rattle.ecl_lexer.specs.declared.fault.QueryFault.TheVariants.{Depth, Memory, Syntax}
use Rattle.constraint_tree.specs.Grammar.{IsTreeOf}
use Rattle.constraint_tree.specs.Refusal.{is_deep}
use Rattle.constraint_tree.specs.Tree.{Tree}

-- a fault is a right refusal of the tokens: `Depth` if more than `most_open` of their brackets are
-- open at once, `Syntax` if they are not too deep and have no tree, and `Memory` always
abbrev pub AreFaulty : List Spelled → QueryFault → Type 0
AreFaulty tokens Depth = is_deep 0 tokens ≡ true
AreFaulty tokens Syntax = (is_deep 0 tokens ≡ false) × ((tree : Tree) → ¬ IsTreeOf tokens tree)
AreFaulty tokens Memory = Unit {0}
AreFaulty tokens other = ⊥
