use Rattle.std.proofs.Common.{ℕ, ◌≡◌, ◌++◌, ◌∙◌, List, Some, ap, append_assoc, arith, codes, decimal, string_bytes}
use Rattle.row_lists.proofs.SpanLemmas.{stands-extends}
use Rattle.held_release.specs.Line.{concept_line}
use Rattle.held_release.proofs.lines.push_named.Goals as goal

-- the digits of a concept, its name between bars and LF are its line
named : (before digits name : List ℕ) (concept : ℕ) → digits ≡ decimal concept
    → (((before ++ digits) ++ codes " |") ++ name) ++ codes "|\n" ≡ before ++ concept_line (λ _. Some name) concept
named before digits name concept are = grind (arith, append_assoc)

-- the text grows by the line of the concept with its name
pub returns-clause-line : goal.returns-clause-line
returns-clause-line c =
    c.in_ok-push_str-3.ensures.bytes
    ∙ ap (λ (text : List ℕ). text ++ codes "|\n") (c.in_ok-span.ensures.grown
    ∙ ap (λ (text : List ℕ). text ++ c.args.name.now) (c.in_ok-push_str-2.ensures.bytes
    ∙ ap (λ (text : List ℕ). text ++ codes " |") c.in_ok-push_str.ensures.bytes))
    ∙ named (string_bytes c.args.texts.now) c.format.result.now c.args.name.now c.args.concept
    (c.format.ensures.text ∙ ap decimal c.number.ensures.number)

-- the name stands at the span that is answered
pub returns-clause-span : goal.returns-clause-span
returns-clause-span c =
    stands-extends (string_bytes c.push_text.new.texts) (string_bytes c.push_str-3.new.self)
    (codes "|\n", c.in_ok-push_str-3.ensures.bytes)
    c.args.name.now c.in_ok-span.span c.in_ok-span.ensures.span
