-- Which tokens are read as which marks, operators and comparisons.
use Rattle.std.proofs.Common.{◌≡◌, Bool, true, false, Option, None, Some, refl, ap, sym, ◌∙◌}
use Rattle.constraint_tree.specs.declared.operator.Compare.{Compare}
use Rattle.constraint_tree.specs.declared.operator.Compare.TheVariants as compare
use Rattle.constraint_tree.specs.declared.operator.Operator.{Operator}
use Rattle.constraint_tree.specs.declared.operator.Operator.TheVariants as operator
use Rattle.ecl_lexer.specs.declared.token.TokenKind.{TokenKind}
use Rattle.ecl_lexer.specs.declared.token.TokenKind.TheVariants as token
use Rattle.constraint_tree.specs.Grammar.{operator_kind, compare_kind}
use Rattle.ecl_parser.specs.inside.Reading.{compare_of, is_mark, operator_of}
use Rattle.ecl_parser.specs.declared.tokens.Mark.{Mark}
use Rattle.ecl_parser.specs.declared.tokens.Mark.TheVariants as marks
use Rattle.std.proofs.lemmas.Bool.{false≢true}

-- the kind of token that a mark names
abbrev pub kind_of : Mark → TokenKind
kind_of marks.And = token.And
kind_of marks.Or = token.Or
kind_of marks.Minus = token.Minus
kind_of marks.Colon = token.Colon
kind_of marks.Dot = token.Dot
kind_of marks.Dots = token.Dots
kind_of marks.RoundOpen = token.RoundOpen
kind_of marks.RoundClose = token.RoundClose
kind_of marks.BraceOpen = token.BraceOpen
kind_of marks.BraceClose = token.BraceClose
kind_of marks.BracketOpen = token.BracketOpen
kind_of marks.BracketClose = token.BracketClose
kind_of marks.Wildcard = token.Wildcard
kind_of marks.MemberOf = token.MemberOf
kind_of marks.Reverse = token.Reverse
kind_of marks.Term = token.Term

-- if `is_mark` is true for the mark `wanted` and a kind of token, this is the kind that the mark names
pub mark_kind : (wanted : Mark) (kind : TokenKind) → is_mark wanted kind ≡ true → kind ≡ kind_of wanted
mark_kind marks.And token.And is = refl
mark_kind marks.Or token.Or is = refl
mark_kind marks.Minus token.Minus is = refl
mark_kind marks.Colon token.Colon is = refl
mark_kind marks.Dot token.Dot is = refl
mark_kind marks.Dots token.Dots is = refl
mark_kind marks.RoundOpen token.RoundOpen is = refl
mark_kind marks.RoundClose token.RoundClose is = refl
mark_kind marks.BraceOpen token.BraceOpen is = refl
mark_kind marks.BraceClose token.BraceClose is = refl
mark_kind marks.BracketOpen token.BracketOpen is = refl
mark_kind marks.BracketClose token.BracketClose is = refl
mark_kind marks.Wildcard token.Wildcard is = refl
mark_kind marks.MemberOf token.MemberOf is = refl
mark_kind marks.Reverse token.Reverse is = refl
mark_kind marks.Term token.Term is = refl
mark_kind wanted kind is = absurd (false≢true is)

-- the token that spells a hierarchy operator is read as this operator
pub operator_back : (o : Operator) → operator_of (operator_kind o) ≡ Some o
operator_back operator.Descendants = refl
operator_back other = refl

-- the token that spells a comparison is read as this comparison
pub compare_back : (c : Compare) → compare_of (compare_kind c) ≡ Some c
compare_back compare.Equal = refl
compare_back other = refl

-- if `read` has a result for `kind` and none for the kind of the mark `wanted`, then `kind` is not the kind of this
-- mark
pub read_is_no_mark : {A : Type 0} (read : TokenKind → Option A) (kind : TokenKind) (found : A) → read kind ≡ Some found
    → (wanted : Mark) → read (kind_of wanted) ≡ None → is_mark wanted kind ≡ false
read_is_no_mark {A} read kind found is wanted none = by (is_mark wanted kind) refl
  where
    by : (marked : Bool) → is_mark wanted kind ≡ marked → is_mark wanted kind ≡ false
    by false other = other
    by true same =
        let read_both : Some found ≡ None = sym is ∙ ap read (mark_kind wanted kind same) ∙ none in
        (cc)
