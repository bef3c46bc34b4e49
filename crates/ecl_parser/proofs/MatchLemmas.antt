-- Steps of the loop that matches the brackets of a text, token by token.
use Rattle.std.proofs.Common.{◌≡◌, ◌<◌, ◌≤◌, ◌+◌, ℕ, Bool, true, false, List, [], ◌∷◌, get_or, length, map, refl, ap}
use Rattle.std.proofs.Common.{sym, ◌∙◌, arith}
use Rattle.std.proofs.lemmas.List.{length-map}
use Rattle.ecl_lexer.specs.Tokens.{spelled}
use Rattle.ecl_lexer.specs.declared.token.Token.{Token}
use Rattle.ecl_lexer.specs.declared.token.TokenKind.{TokenKind}
use Rattle.ecl_lexer.specs.declared.token.TokenKind.TheVariants.{Digits, Number}
use Rattle.constraint_tree.specs.Grammar.{IsTreeOf, Symbol, symbol_of}
use Rattle.constraint_tree.specs.Refusal.{is_deep, opens}
use Rattle.constraint_tree.specs.Tree.{Tree}
use Rattle.constraint_tree.proofs.CanonLemmas.{deep_symbols}
use Rattle.constraint_tree.proofs.LevelLemmas.{kind_of_symbol, symbols_deep}
use Rattle.ecl_parser.specs.inside.Brackets.{AreEnds, Matching, nothing_matched, token_matched}
use Rattle.ecl_parser.specs.inside.Gives.{symbols, symbols_from}
use Rattle.ecl_parser.proofs.BracketLemmas.{all_matched, as_long, deep_after, too_deep, tree_matches}
use Rattle.ecl_parser.proofs.EndLemmas.{ends_found}
use Rattle.ecl_parser.proofs.ParseLemmas.{drop_all, symbols-spelled}
use Rattle.ecl_parser.proofs.TokenLemmas.{at_place}

-- the symbol of a token has the token's kind
kind_seen : (kind : TokenKind) (bytes : List ℕ)
    → kind_of_symbol (symbol_of (record { kind = kind; bytes = bytes })) ≡ kind
kind_seen Digits bytes = refl
kind_seen Number bytes = refl
kind_seen other bytes = refl

-- tokens are too deep exactly if their symbols are
deep_seen : (tokens : List Token) → is_deep 0 (map spelled tokens) ≡ symbols_deep 0 (symbols tokens)
deep_seen tokens = deep_symbols 0 (map spelled tokens) ∙ ap (symbols_deep 0) (sym (symbols-spelled tokens))

-- no tokens are left if the place is past the last
none_left : (tokens : List Token) (place : ℕ) → length tokens ≤ place → symbols_from tokens place ≡ []
none_left tokens place enough =
    drop_all (symbols tokens) place (omega (arith, length-map tokens (λ token. symbol_of (spelled token))))

-- the token at the index `place` has the kind `kind`
pub record IsAhead (tokens : List Token) (place : ℕ) (kind : TokenKind) : Type 0 where
  -- the symbol of the token
  pub symbol : Symbol
  -- the symbol stands for a token of the kind `kind`
  pub seen : kind_of_symbol symbol ≡ kind
  -- the symbol is the first of the symbols from `place` on
  pub ahead : symbols_from tokens place ≡ symbol ∷ symbols_from tokens (place + 1)

-- if `place` is below the number of tokens, the token that `get_or` returns there is the one at this index, whatever
-- its default `none` is
pub read_ahead : (tokens : List Token) (place : ℕ) (none : Token) → place < length tokens
    → IsAhead tokens place (get_or tokens place none).kind
read_ahead tokens place none within =
    let token = get_or tokens place none in
    record {
      symbol = symbol_of (spelled token);
      seen = kind_seen token.kind token.text.now;
      ahead = at_place tokens place none within;
    }

-- The token at `place` is read: the brackets of all tokens are known from the tokens after it.
module _ (tokens : List Token) (place : ℕ) (kind : TokenKind) (old new : Matching)
    (is : IsAhead tokens place kind) where
  -- the new brackets are those of the symbol, if they are those of its kind
  taken : new ≡ token_matched place kind old → new ≡ token_matched place (kind_of_symbol is.symbol) old
  taken made = made ∙ ap (λ (k : TokenKind). token_matched place k old) (sym is.seen)

  -- if one more bracket may be open in front of a token that opens one, then the tokens from the token on are too
  -- deep exactly if those after it are, with the brackets that are open then
  pub deep_next : new ≡ token_matched place kind old → (opens kind ≡ true → length old.unclosed < 64)
      → (whole : Bool) → symbols_deep (length old.unclosed) (symbols_from tokens place) ≡ whole
      → symbols_deep (length new.unclosed) (symbols_from tokens (place + 1)) ≡ whole
  deep_next made few whole before =
      ap (λ (m : Matching). symbols_deep (length m.unclosed) (symbols_from tokens (place + 1))) (taken made)
      ∙ sym (deep_after is.symbol (symbols_from tokens (place + 1)) place old
      (λ opened. few (ap opens (sym is.seen) ∙ opened)))
      ∙ ap (symbols_deep (length old.unclosed)) (sym is.ahead) ∙ before

  -- matching the brackets of the tokens from a token on gives the same state as matching the token and then those
  -- after it
  pub matched_next : new ≡ token_matched place kind old → (whole : Matching)
      → all_matched place (symbols_from tokens place) old ≡ whole
      → all_matched (place + 1) (symbols_from tokens (place + 1)) new ≡ whole
  matched_next made whole before =
      ap (all_matched (place + 1) (symbols_from tokens (place + 1))) (taken made)
      ∙ ap (λ (left : List Symbol). all_matched place left old) (sym is.ahead) ∙ before

  -- reading a token keeps the length of the list `ends`
  pub long_next : new ≡ token_matched place kind old → length new.ends ≡ length old.ends
  long_next made = ap (λ (m : Matching). length m.ends) made ∙ as_long kind place old

-- if 64 brackets are open in front of a token that opens one more, the tokens are too deep
pub deep_fault : (tokens : List Token) (place : ℕ) (kind : TokenKind) (old : Matching) → IsAhead tokens place kind
    → opens kind ≡ true → length old.unclosed ≡ 64
    → symbols_deep (length old.unclosed) (symbols_from tokens place) ≡ symbols_deep 0 (symbols tokens)
    → is_deep 0 (map spelled tokens) ≡ true
deep_fault tokens place kind old is opened full before =
    deep_seen tokens ∙ sym before ∙ ap (symbols_deep (length old.unclosed)) is.ahead
    ∙ too_deep is.symbol (symbols_from tokens (place + 1)) (length old.unclosed) (ap opens is.seen ∙ opened) full

-- All tokens are read.
module _ (tokens : List Token) (place : ℕ) (found : Matching) (enough : length tokens ≤ place) where
  -- if all tokens were read and none was refused as too deep, the tokens are not too deep
  pub all_shallow : symbols_deep (length found.unclosed) (symbols_from tokens place) ≡ symbols_deep 0 (symbols tokens)
      → is_deep 0 (map spelled tokens) ≡ false
  all_shallow before =
      deep_seen tokens ∙ sym before ∙ ap (symbols_deep (length found.unclosed)) (none_left tokens place enough)

  -- the brackets at the end are the brackets of all tokens
  all_taken : (whole : Matching) → all_matched place (symbols_from tokens place) found ≡ whole → found ≡ whole
  all_taken whole before =
      ap (λ (left : List Symbol). all_matched place left found) (sym (none_left tokens place enough)) ∙ before

  module _ (matched : all_matched place (symbols_from tokens place) found
      ≡ all_matched 0 (symbols tokens) (nothing_matched (length tokens))) where
    -- if each closing bracket closed one of its kind and no bracket is open, `ends` has for each `(` the index after
    -- the `)` that closes it
    pub all_ended : found.are_matched ≡ true → found.unclosed ≡ [] → AreEnds (symbols tokens) found.ends
    all_ended match none =
        let long : length (symbols tokens) ≡ length tokens = length-map tokens (λ token. symbol_of (spelled token)) in
        ends_found (symbols tokens) found
        (all_taken (all_matched 0 (symbols tokens) (nothing_matched (length tokens))) matched
        ∙ ap (λ (count : ℕ). all_matched 0 (symbols tokens) (nothing_matched count)) (sym long)) match none

    -- if a closing bracket closed none of its kind or a bracket is still open, the tokens have no tree
    pub no_tree : (found.are_matched ≡ true → found.unclosed ≡ [] → ⊥) → (tree : Tree)
        → IsTreeOf (map spelled tokens) tree → ⊥
    no_tree unmatched tree is =
        let start = nothing_matched (length tokens) in
        let match = tree_matches (map spelled tokens) tree start is in
        let same : found ≡ all_matched 0 (map symbol_of (map spelled tokens)) start =
        all_taken (all_matched 0 (symbols tokens) start) matched
        ∙ ap (λ (seen : List Symbol). all_matched 0 seen start) (symbols-spelled tokens) in
        unmatched (ap (λ (m : Matching). m.are_matched) same ∙ match.1)
        (ap (λ (m : Matching). m.unclosed) same ∙ match.0)
