-- The brackets of each form of the grammar match. Matching them token by token has as many open as the definition of
-- `Depth` counts.
use Rattle.std.proofs.Common.{◌≡◌, ◌<◌, ◌+◌, ◌-◌, ◌==◌, ◌&&◌, ◌||◌, ℕ, Bool, true, false, List, [], ◌∷◌, length, refl}
use Rattle.std.proofs.Common.{ap, sym, ◌∙◌, arith}
use Rattle.std.specs.Prelude.{map}
use Rattle.std.proofs.lemmas.Bool.Decides.{nat_tests}
use Rattle.std.proofs.lemmas.List.{length-set}
use Rattle.ecl_lexer.specs.Tokens.{Spelled}
use Rattle.ecl_lexer.specs.declared.token.TokenKind.{TokenKind}
use Rattle.ecl_lexer.specs.declared.token.TokenKind.TheVariants as token
use Rattle.constraint_tree.specs.Grammar.{IsTreeOf, Symbol, mark, symbol_of}
use Rattle.constraint_tree.specs.Refusal.{most_open, open_after, opens}
use Rattle.constraint_tree.specs.Tree.{Tree}
use Rattle.constraint_tree.proofs.LevelLemmas.{kind_of_symbol, symbols_deep}
use Rattle.ecl_parser.specs.declared.brackets.OpenBracket.{OpenBracket}
use Rattle.ecl_parser.specs.inside.Brackets.{Matching, agree, bracket_closed, bracket_opened, closed_by, token_matched}
use Rattle.ecl_parser.proofs.Forms.{HoldsOfForms, constraint_holds, is_bracket}

-- the state of bracket matching after `tokens`, of which the first has the index `place`
abbrev pub all_matched : ℕ → List Symbol → Matching → Matching
all_matched place [] old = old
all_matched place (symbol ∷ rest) old = all_matched (place + 1) rest (token_matched place (kind_of_symbol symbol) old)

-- a token that is no bracket changes nothing
no_bracket_matched : (kind : TokenKind) → is_bracket kind ≡ false → (place : ℕ) (old : Matching)
    → token_matched place kind old ≡ old
no_bracket_matched token.RoundOpen none place old = absurd (cc)
no_bracket_matched token.RoundClose none place old = absurd (cc)
no_bracket_matched token.BraceOpen none place old = absurd (cc)
no_bracket_matched token.BraceClose none place old = absurd (cc)
no_bracket_matched other none place old = refl

-- reading `tokens` from `place` on reaches `rest` with the open brackets of `old` and with `are_matched` unchanged
record GoesAfter (place : ℕ) (old : Matching) (tokens rest : List Symbol) : Type 0 where
  further : ℕ
  new : Matching
  same : all_matched place tokens old ≡ all_matched further rest new
  unclosed : new.unclosed ≡ old.unclosed
  are_matched : new.are_matched ≡ old.are_matched

-- the brackets of `tokens` match: reading them in front of any rest leaves the open brackets and `are_matched`
-- unchanged
record IsMatched (tokens : List Symbol → List Symbol) : Type 0 where
  matches : (place : ℕ) (old : Matching) (rest : List Symbol) → GoesAfter place old (tokens rest) rest

-- a token that is no bracket may be put in front of tokens that leave the brackets unchanged
after_token : (symbol : Symbol) → is_bracket (kind_of_symbol symbol) ≡ false
    → (place : ℕ) (old : Matching) (tokens rest : List Symbol)
    → GoesAfter (place + 1) old tokens rest → GoesAfter place old (symbol ∷ tokens) rest
after_token symbol none place old tokens rest goes = record {
  further = goes.further;
  new = goes.new;
  same = ap (all_matched (place + 1) tokens) (no_bracket_matched (kind_of_symbol symbol) none place old) ∙ goes.same;
  unclosed = goes.unclosed;
  are_matched = goes.are_matched;
}

-- two lists of tokens in a row leave the brackets unchanged, if each list does
after_both : (place : ℕ) (old : Matching) (tokens more rest : List Symbol) → (first : GoesAfter place old tokens more)
    → GoesAfter first.further first.new more rest → GoesAfter place old tokens rest
after_both place old tokens more rest first second = record {
  further = second.further;
  new = second.new;
  same = first.same ∙ second.same;
  unclosed = second.unclosed ∙ first.unclosed;
  are_matched = second.are_matched ∙ first.are_matched;
}

-- two kinds of token that open and close a bracket of one kind
record Pairs (opening closing : TokenKind) (is_round : Bool) : Type 0 where
  opened : (place : ℕ) (old : Matching) → token_matched place opening old ≡ bracket_opened place is_round old
  closed : (place : ℕ) (old : Matching) → token_matched place closing old ≡ bracket_closed place is_round old
  agrees : agree is_round is_round ≡ true

-- `(` and `)` open and close a round bracket
round_pair : Pairs token.RoundOpen token.RoundClose true
round_pair = record { opened = λ place old. refl; closed = λ place old. refl; agrees = refl }

-- `{` and `}` open and close a brace
brace_pair : Pairs token.BraceOpen token.BraceClose false
brace_pair = record { opened = λ place old. refl; closed = λ place old. refl; agrees = refl }

-- tokens in brackets leave the brackets unchanged, if the tokens inside do
after_bracket : {opening closing : TokenKind} {is_round : Bool} → Pairs opening closing is_round
    → (place : ℕ) (old : Matching)
    → (tokens rest : List Symbol)
    → GoesAfter (place + 1) (bracket_opened place is_round old) tokens (mark closing ∷ rest)
    → GoesAfter place old (mark opening ∷ tokens) rest
after_bracket {opening} {closing} {is_round} pair place old tokens rest goes =
    let new = goes.new in
    let top = ap (λ (list : List OpenBracket). closed_by list goes.further is_round new) goes.unclosed in
    let shut = pair.closed goes.further new ∙ top in
    record {
      further = goes.further + 1;
      new = token_matched goes.further closing new;
      same = ap (all_matched (place + 1) tokens) (pair.opened place old) ∙ goes.same;
      unclosed = ap (λ (m : Matching). m.unclosed) shut;
      are_matched = ap (λ (m : Matching). m.are_matched) shut
          ∙ ap (λ (b : Bool). b && new.are_matched) pair.agrees ∙ goes.are_matched;
    }

-- the brackets of every form's tokens match
forms_matched : HoldsOfForms (λ depth tokens. IsMatched tokens)
forms_matched = record {
  nothing = record {
    matches = λ place old rest. record { further = place; new = old; same = refl; unclosed = refl; are_matched = refl };
  };
  symbol = λ {tokens = tokens} symbol none inside. record {
    matches = λ place old rest.
        after_token symbol none place old (tokens rest) rest (inside.matches (place + 1) old rest);
  };
  following = λ {tokens = tokens} {more = more} first second. record {
    matches = λ place old rest.
        let front = first.matches place old (more rest) in
        after_both place old (tokens (more rest)) (more rest) rest front (second.matches front.further front.new rest);
  };
  round = λ {tokens = tokens} inside. record {
    matches = λ place old rest.
        after_bracket round_pair place old (tokens (mark token.RoundClose ∷ rest)) rest
        (inside.matches (place + 1) (bracket_opened place true old) (mark token.RoundClose ∷ rest));
  };
  brace = λ {tokens = tokens} inside. record {
    matches = λ place old rest.
        after_bracket brace_pair place old (tokens (mark token.BraceClose ∷ rest)) rest
        (inside.matches (place + 1) (bracket_opened place false old) (mark token.BraceClose ∷ rest));
  };
  lower = λ less inside. inside;
}

-- if tokens have a tree, matching their brackets leaves the open brackets as they were before, and finds no bracket
-- that closes one of the other kind
pub tree_matches : (tokens : List Spelled) (tree : Tree) (start : Matching) → IsTreeOf tokens tree
    → (all_matched 0 (map symbol_of tokens) start).unclosed ≡ start.unclosed
    × ((all_matched 0 (map symbol_of tokens) start).are_matched ≡ start.are_matched)
tree_matches tokens tree start (form, same, tree_is) =
    let goes = (constraint_holds forms_matched form).matches 0 start [] in
    let ends = ap (λ (found : List Symbol). all_matched 0 found start) same ∙ goes.same in (
      ap (λ (m : Matching). m.unclosed) ends ∙ goes.unclosed,
      ap (λ (m : Matching). m.are_matched) ends ∙ goes.are_matched,
    )

-- closing a bracket leaves one open bracket less
closed_length : (list : List OpenBracket) (place : ℕ) (is_round : Bool) (old : Matching)
    → length (closed_by list place is_round old).unclosed ≡ length list - 1
closed_length [] place is_round old = refl
closed_length (opened ∷ outer) place is_round old = omega arith

-- after a token as many brackets are open as the refusal for depth counts
open_length : (kind : TokenKind) (place : ℕ) (old : Matching)
    → open_after (length old.unclosed) kind ≡ length (token_matched place kind old).unclosed
open_length token.RoundOpen place old = omega arith
open_length token.BraceOpen place old = omega arith
open_length token.RoundClose place old = sym (closed_length old.unclosed place true old)
open_length token.BraceClose place old = sym (closed_length old.unclosed place false old)
open_length other place old = refl

-- a bracket that opens with fewer than 64 open is not too deep
not_full : (opened : Bool) (count : ℕ) → (opened ≡ true → count < 64) → (opened && (count == most_open)) ≡ false
not_full false count few = refl
not_full true count few = let fewer = few refl in grind (arith, nat_tests)

-- if one more bracket may be open in front of a token that opens one, then the token and `rest` are too deep exactly
-- if `rest` is too deep after the token
pub deep_after : (symbol : Symbol) (rest : List Symbol) (place : ℕ) (old : Matching)
    → (opens (kind_of_symbol symbol) ≡ true → length old.unclosed < 64)
    → symbols_deep (length old.unclosed) (symbol ∷ rest)
    ≡ symbols_deep (length (token_matched place (kind_of_symbol symbol) old).unclosed) rest
deep_after symbol rest place old few =
    let kind = kind_of_symbol symbol in
    let count = length old.unclosed in
    ap (λ (full : Bool). full || symbols_deep (open_after count kind) rest) (not_full (opens kind) count few)
    ∙ ap (λ (n : ℕ). symbols_deep n rest) (open_length kind place old)

-- if 64 brackets are open and a token opens one more, the token and any tokens after it are too deep
pub too_deep : (symbol : Symbol) (rest : List Symbol) (count : ℕ) → opens (kind_of_symbol symbol) ≡ true → count ≡ 64
    → symbols_deep count (symbol ∷ rest) ≡ true
too_deep symbol rest count is full =
    ap (λ (n : ℕ). symbols_deep n (symbol ∷ rest)) full
    ∙ ap (λ (found : Bool). (found && true) || symbols_deep (open_after 64 (kind_of_symbol symbol)) rest) is

-- closing a bracket keeps the number of ends
closed_long : (list : List OpenBracket) (place : ℕ) (is_round : Bool) (old : Matching)
    → length (closed_by list place is_round old).ends ≡ length old.ends
closed_long [] place is_round old = refl
closed_long (opened ∷ outer) place is_round old = length-set old.ends opened.place (place + 1)

-- reading a token keeps the length of the list `ends`
pub as_long : (kind : TokenKind) (place : ℕ) (old : Matching)
    → length (token_matched place kind old).ends ≡ length old.ends
as_long token.RoundOpen place old = refl
as_long token.BraceOpen place old = refl
as_long token.RoundClose place old = closed_long old.unclosed place true old
as_long token.BraceClose place old = closed_long old.unclosed place false old
as_long other place old = refl
