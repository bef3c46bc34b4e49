use Rattle.std.proofs.Common.{arith, string_bytes}
use Rattle.std.proofs.lemmas.Grind.{common_steps}
use Rattle.row_lists.specs.Spans.{IsSpanOf}
use Rattle.row_lists.proofs.SpanLemmas.{all-push, span-extends}
use Rattle.held_release.proofs.kept_names.keep_language.Goals as goal

-- the texts begin with the texts before and end with the language code
pub returns-clause-grown : goal.returns-clause-grown
returns-clause-grown c = (c.args.language.now, c.in_ok-span.ensures.grown)

-- the spans before and the new one are spans of the grown texts
pub returns-clause-languages : goal.returns-clause-languages
returns-clause-languages c =
    let texts = string_bytes c.args.texts.now in
    let grown = string_bytes c.push_text.new.texts in
    let stays = span-extends texts grown (c.args.language.now, c.in_ok-span.ensures.grown) in
    all-push (IsSpanOf texts) (IsSpanOf grown) stays
    c.args.languages.now.items c.push.new.self.items c.in_ok-span.span c.in_ok-push.ensures.items c.requires.languages
    c.in_ok-span.ensures.span.placed

-- the language code stands at the span whose number is answered
pub returns-clause-language : goal.returns-clause-language
returns-clause-language c = grind (arith, common_steps, c.in_ok-push.ensures.items, c.in_ok-span.ensures.span.same)
