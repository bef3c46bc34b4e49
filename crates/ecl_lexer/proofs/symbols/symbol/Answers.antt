use Rattle.std.proofs.Common.{◌≡◌, ◌∙◌, None, ap, sym, Some}
use Rattle.ecl_lexer.specs.declared.lexemes.Lexeme.{Lexeme as Found}
use Rattle.ecl_lexer.specs.Reading.{sized_kind}
use Rattle.ecl_lexer.proofs.SymbolLemmas.{front_two, front_three, handed_here, handed_other, sized_kind-fits}
use Rattle.ecl_lexer.proofs.SymbolLemmas.{sized_kind-short}
use Rattle.ecl_lexer.proofs.symbols.symbol.Goals as goal
use Rattle.ecl_lexer.proofs.symbols.symbol.Goals.{else-text-ge3-via-else-text-ge3}
use Rattle.ecl_lexer.proofs.symbols.symbol.Goals.{else-text-ge3-via-then-text-ge3+in-None-1}

-- `symbol` returns the symbol of three bytes that `symbol_at` finds
pub returns : goal.returns
returns c =
    let text = c.args.text.now in
    let kind = sized_kind-fits 3 text _ c.if-text-ge3.true (front_three text c.if-text-ge3.true)
    ∙ sym c.three_bytes.ensures ∙ c.in-Some.is in
    ap (λ (f : Found). Some f) c.token.ensures
    ∙ sym (handed_here 3 text c.in-Some.kind _ c.if-text-ge3.true kind)

-- `symbol` returns the symbol of two bytes that `symbol_at` finds
pub returns-2 : goal.returns-2
returns-2 c =
    let text = c.args.text.now in
    let no_three : sized_kind 3 text ≡ None = elim c.else-text-ge3.branch [
      | else-text-ge3-via-else-text-ge3 w ↦ sized_kind-short 3 text w.if-text-ge3.false
      | else-text-ge3-via-then-text-ge3+in-None-1 w ↦
          let none : w.three_bytes.result ≡ None = cc in
          sized_kind-fits 3 text _ w.if-text-ge3.true (front_three text w.if-text-ge3.true)
          ∙ sym w.three_bytes.ensures ∙ none
    ] in
    let kind = sized_kind-fits 2 text _ c.if-text-ge2.true (front_two text c.if-text-ge2.true)
    ∙ sym c.two_bytes.ensures ∙ c.in-Some-two_bytes.is in
    ap (λ (f : Found). Some f) c.token-2.ensures
    ∙ sym (handed_here 2 text c.in-Some-two_bytes.kind _ c.if-text-ge2.true kind)
    ∙ sym (handed_other 3 text _ no_three)
