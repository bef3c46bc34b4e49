-- Each text can be cut into lexemes to its end, or up to an offset at which it is refused.
use Rattle.std.proofs.Common.{ℕ, zero, suc, ◌≡◌, ◌+◌, ◌≤◌, ◌∙◌, ◌⊎◌, inl, inr, List, [], ◌∷◌, length, refl, ap, subst}
use Rattle.std.proofs.Common.{arith}
use Rattle.std.specs.Prelude.{Result, Ok, Err}
use Rattle.ecl_lexer.specs.declared.fault.QueryFault.{QueryFault}
use Rattle.ecl_lexer.specs.Lexemes.{Lexeme, lexeme_text, bytes_of}
use Rattle.ecl_lexer.specs.Refusals.{Cause, IsRead, Refuses}
use Rattle.ecl_lexer.specs.Reading.{reading}
use Rattle.ecl_lexer.specs.Tokens.{AreTokensOf, IsCut, IsFaultOf, IsReadable, Spelled, spelled_tokens}
use Rattle.ecl_lexer.proofs.FaultLemmas.{IsFaultOf-at}
use Rattle.ecl_lexer.proofs.ReadLemmas.{length-lexeme_text, reading-Err, reading-Ok, some_bytes}

-- a cut of a text up to a place at which nothing is read
record Ended (text : List ℕ) : Type 0 where
  lexemes : List Lexeme
  rest : List ℕ
  cut : IsCut text lexemes rest
  place : (offset : ℕ) × (offset + length rest ≡ length text)
  end : (rest ≡ []) ⊎ ((cause : Cause) × Refuses rest cause)

ended : (most : ℕ) (text : List ℕ) → length text ≤ most → Ended text
ended most [] few = record {
  lexemes = [];
  rest = [];
  cut = record { whole = refl; each = tt };
  place = (0, omega arith);
  end = inl refl;
}
ended zero (byte ∷ following) few = absurd (omega arith)
ended (suc most) (byte ∷ following) few =
    by_result (λ (rest : List ℕ) (fewer : length rest ≤ most). ended most rest fewer) (reading 0 (byte ∷ following))
    refl
  where
    by_result : ((rest : List ℕ) → length rest ≤ most → Ended rest) → (r : Result Lexeme QueryFault)
        → reading 0 (byte ∷ following) ≡ r → Ended (byte ∷ following)
    by_result more (Err fault) is =
        let refused = reading-Err 0 (byte ∷ following) fault (omega arith) is in
        record {
          lexemes = [];
          rest = byte ∷ following;
          cut = record { whole = refl; each = tt };
          place = (0, omega arith);
          end = inr (refused.cause, refused.refuses);
        }
    by_result more (Ok lexeme) is =
        let here = reading-Ok 0 (byte ∷ following) lexeme is in
        let size = ap length here.is ∙ length-lexeme_text lexeme here.rest in
        let some = some_bytes lexeme here.rest here.read.stands in
        let following = more here.rest (omega (arith, size, some)) in
        let (offset, place) = following.place in
        record {
          lexemes = lexeme ∷ following.lexemes;
          rest = following.rest;
          cut = record {
            whole = here.is ∙ ap (lexeme_text lexeme) following.cut.whole;
            each = (subst (IsRead lexeme) following.cut.whole here.read, following.cut.each);
          };
          place = (length (bytes_of lexeme) + offset, omega (arith, size, place));
          end = following.end;
        }

-- a readable text has tokens or a fault
pub each_text : (text : List ℕ) → IsReadable text → ((tokens : List Spelled) × AreTokensOf text tokens)
    ⊎ ((fault : QueryFault) × IsFaultOf text fault)
each_text text readable =
    let all = ended (length text) text (omega arith) in
    let (offset, place) = all.place in
    elim all.end [
      | inl none ↦ inl (spelled_tokens all.lexemes, (all.lexemes, subst (IsCut text all.lexemes) none all.cut, refl))
      | inr (cause, refuses) ↦
          inr (_, IsFaultOf-at text offset cause readable (all.lexemes, all.rest, all.cut, place, refuses))
    ]
