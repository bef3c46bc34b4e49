-- Which results the lexer may return for a text.
use Rattle.std.proofs.Common.{ℕ, ◌≡◌, ◌+◌, ◌-◌, ◌<◌, ◌≤◌, ◌∙◌, ◌⊎◌, inl, inr, List, [], ◌∷◌, length, take, drop, Option}
use Rattle.std.proofs.Common.{None, Some, refl, sym, ap, subst, arith}
use Rattle.std.specs.Prelude.{Result, Ok, Err, IfErr, IfOk, IsOk}
use Rattle.std.proofs.lemmas.List.{drop-drop, length-drop}
use Rattle.ecl_lexer.specs.declared.fault.QueryFault.{QueryFault}
use Rattle.ecl_lexer.specs.declared.fault.QueryFault.TheVariants.{Memory}
use Rattle.ecl_lexer.specs.declared.token.TokenKind.{TokenKind}
use Rattle.ecl_lexer.specs.Lexemes.{Lexeme, bytes_of, kind_of}
use Rattle.ecl_lexer.specs.Tokens.{AreRead, ArePlacedIn, AreTokensOf, FollowOn, IsFaultOf, IsReadable, Placed, Spelled}
use Rattle.ecl_lexer.specs.Tokens.{lexemes_text, placed_tokens, with_placed}
use Rattle.ecl_lexer.proofs.FaultLemmas.{same_fault, tokens_no_fault}
use Rattle.ecl_lexer.proofs.ReadLemmas.{drop-lexeme_text, length-lexeme_text, some_bytes, take-lexeme_text}

module _ {T : Type 0} (text : List ℕ) (spelled_of : T → List Spelled) (readable : IsReadable text) where
  -- if a result for the readable `text` is tokens of it, a fault of it or `Memory`, and `text` has the fault `fault`,
  -- then the result is `Err fault` or `Err Memory`
  pub only_fault : (result : Result T QueryFault) → IfOk result (λ t. AreTokensOf text (spelled_of t))
      → IfErr result (λ fault. (fault ≡ Memory) ⊎ IsFaultOf text fault)
      → (fault : QueryFault) → IsFaultOf text fault → (result ≡ Err fault) ⊎ (result ≡ Err Memory)
  only_fault (Ok t) found faulty fault is = absurd (tokens_no_fault text (spelled_of t) fault readable found is)
  only_fault (Err other) found (inl memory) fault is = inr (ap (λ (f : QueryFault). Err f) memory)
  only_fault (Err other) found (inr refused) fault is =
      inl (ap (λ (f : QueryFault). Err f) (same_fault text other fault refused is))

  -- if a result for the readable `text` is `Ok`, a fault of it or `Memory`, and `text` has tokens, then the result is
  -- `Ok` or `Err Memory`
  pub only_tokens : (result : Result T QueryFault) → IfErr result (λ fault. (fault ≡ Memory) ⊎ IsFaultOf text fault)
      → (tokens : List Spelled) → AreTokensOf text tokens → IsOk result ⊎ (result ≡ Err Memory)
  only_tokens (Ok t) faulty tokens is = inl refl
  only_tokens (Err other) (inl memory) tokens is = inr (ap (λ (f : QueryFault). Err f) memory)
  only_tokens (Err other) (inr refused) tokens is = absurd (tokens_no_fault text tokens other readable is refused)

-- the tokens among lexemes that are cut from the text at `at` follow on from each offset up to `at`
placed_tokens-FollowOn : (text : List ℕ) (from at : ℕ) (lexemes : List Lexeme) (rest : List ℕ) → from ≤ at
    → at ≤ length text
    → drop at text ≡ lexemes_text lexemes rest → AreRead lexemes rest → FollowOn text from (placed_tokens at lexemes)
placed_tokens-FollowOn text from at [] rest low within is each = tt
placed_tokens-FollowOn text from at (lexeme ∷ lexemes) rest low within is each =
    by_kind (kind_of lexeme) (λ (low_end : ℕ) (below : low_end ≤ at + length (bytes_of lexeme)). placed_tokens-FollowOn
    text low_end (at + length (bytes_of lexeme)) lexemes rest below ends following each.1)
  where
    size : length text - at ≡ length (bytes_of lexeme) + length (lexemes_text lexemes rest)
    size = sym (length-drop at text) ∙ ap length is ∙ length-lexeme_text lexeme (lexemes_text lexemes rest)

    ends : at + length (bytes_of lexeme) ≤ length text
    ends = omega (arith, size)

    following : drop (at + length (bytes_of lexeme)) text ≡ lexemes_text lexemes rest
    following = sym (drop-drop (length (bytes_of lexeme)) at text) ∙ ap (drop (length (bytes_of lexeme))) is
        ∙ drop-lexeme_text lexeme (lexemes_text lexemes rest)

    some : 0 < length (bytes_of lexeme)
    some = some_bytes lexeme (lexemes_text lexemes rest) each.0.stands

    by_kind : (kind : Option TokenKind)
        → ((low_end : ℕ) → low_end ≤ at + length (bytes_of lexeme)
        → FollowOn text low_end (placed_tokens (at + length (bytes_of lexeme)) lexemes))
        → FollowOn text from (with_placed kind (bytes_of lexeme) at
        (placed_tokens (at + length (bytes_of lexeme)) lexemes))
    by_kind None more = more from (omega (arith, low))
    by_kind (Some kind) more =
        let width : (at + length (bytes_of lexeme)) - at ≡ length (bytes_of lexeme) = omega arith in
        let slice : bytes_of lexeme ≡ take ((at + length (bytes_of lexeme)) - at) (drop at text) =
        sym (take-lexeme_text lexeme (lexemes_text lexemes rest)) ∙ ap (take (length (bytes_of lexeme))) (sym is)
        ∙ ap (λ (k : ℕ). take k (drop at text)) (sym width) in
        (low, omega (arith, some), ends, slice, more (at + length (bytes_of lexeme)) (omega arith))

-- if `tokens` are the tokens of `text` with their offsets, they follow one another in `text` from its beginning on
pub ArePlacedIn-FollowOn : (text : List ℕ) (tokens : List Placed) → ArePlacedIn text tokens → FollowOn text 0 tokens
ArePlacedIn-FollowOn text tokens (lexemes, cut, is) =
    subst (FollowOn text 0) (sym is)
    (placed_tokens-FollowOn text 0 0 lexemes [] (omega arith) (omega arith) cut.whole cut.each)

-- if a result for `text`, in case it is `Ok`, has the tokens of `text` with their offsets, these follow one another
-- in `text` from its beginning on
pub answer-FollowOn : {T : Type 0} (text : List ℕ) (placed_of : T → List Placed) (result : Result T QueryFault)
    → IfOk result (λ t. ArePlacedIn text (placed_of t)) → IfOk result (λ t. FollowOn text 0 (placed_of t))
answer-FollowOn text placed_of (Ok t) places = ArePlacedIn-FollowOn text (placed_of t) places
answer-FollowOn text placed_of (Err fault) places = tt
