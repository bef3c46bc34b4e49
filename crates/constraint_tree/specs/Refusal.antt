-- Which texts are constraints, and why others are refused (Expression Constraint Language 2.2, 5.1
-- "Brief syntax"; the limits are this project's).
use Rattle.std.specs.Prelude.{◌≡◌, ℕ, ◌+◌, ◌-◌, ◌==◌, ◌&&◌, ◌||◌, Bool, true, false, List, [], ◌∷◌}
use Rattle.ecl_lexer.specs.Tokens.{AreTokensOf, IsFaultOf, IsReadable, Spelled}
use Rattle.ecl_lexer.specs.declared.fault.QueryFault.{QueryFault}
use Rattle.ecl_lexer.specs.declared.fault.QueryFault.TheVariants.{Depth, Syntax}
use Rattle.ecl_lexer.specs.declared.token.TokenKind.{TokenKind}
use Rattle.ecl_lexer.specs.declared.token.TokenKind.TheVariants.{RoundOpen, RoundClose, BraceOpen, BraceClose}
use Rattle.constraint_tree.specs.Grammar.{IsTreeOf}
use Rattle.constraint_tree.specs.Tree.{Tree}

-- the most brackets that may be open at once
abbrev pub most_open : ℕ
most_open = 64

-- whether a token opens a round bracket or a brace
abbrev pub opens : TokenKind → Bool
opens RoundOpen = true
opens BraceOpen = true
opens other = false

-- how many brackets are open after a token, if `count` are open before it. A closing bracket closes
-- one if any is open, whether it is round or a brace
abbrev pub open_after : ℕ → TokenKind → ℕ
open_after count RoundOpen = count + 1
open_after count BraceOpen = count + 1
open_after count RoundClose = count - 1
open_after count BraceClose = count - 1
open_after count other = count

-- whether more than `most_open` brackets are open at once somewhere in the tokens, if `count` are
-- open before them
abbrev pub is_deep : ℕ → List Spelled → Bool
is_deep count [] = false
is_deep count (token ∷ tokens) =
    (opens token.kind && (count == most_open)) || is_deep (open_after count token.kind) tokens

-- `text` is a constraint with the tree `tree`: the lexer cuts it into tokens, at most `most_open`
-- brackets are open at once, and the tokens derive from a form with this tree
pub record IsConstraint (text : List ℕ) (tree : Tree) : Type 0 where
  -- the lexer can read the text
  pub readable : IsReadable text
  -- the tokens of the text
  pub tokens : List Spelled
  -- the text is cut into exactly `tokens`
  pub are_tokens : AreTokensOf text tokens
  -- at most `most_open` brackets are open at once
  pub shallow : is_deep 0 tokens ≡ false
  -- some form derives `tokens`, and its tree is `tree`
  pub is_tree : IsTreeOf tokens tree

-- `text` is refused with `Depth`: the lexer cuts it into tokens, and more than `most_open` brackets
-- are open at once
abbrev pub IsTooDeep : List ℕ → Type 0
IsTooDeep text = IsReadable text × (tokens : List Spelled) × AreTokensOf text tokens
    × (is_deep 0 tokens ≡ true)

-- `text` is refused with `Syntax`: the lexer cuts it into tokens, at most `most_open` brackets are
-- open at once, and no form derives the tokens
abbrev pub HasNoTree : List ℕ → Type 0
HasNoTree text =
    IsReadable text × (tokens : List Spelled) × AreTokensOf text tokens × (is_deep 0 tokens ≡ false)
    × ((tree : Tree) → ¬ IsTreeOf tokens tree)

-- `text` is refused with the given fault: `Depth`, `Syntax`, or a fault that the lexer finds
abbrev pub IsRefusalOf : List ℕ → QueryFault → Type 0
IsRefusalOf text Depth = IsTooDeep text
IsRefusalOf text Syntax = HasNoTree text
IsRefusalOf text fault = IsFaultOf text fault
