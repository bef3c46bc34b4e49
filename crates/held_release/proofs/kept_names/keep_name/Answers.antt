-- What the language code adds stays while the term is added after it.
use Rattle.std.proofs.Common.{◌+◌, ◌≡◌, ◌∙◌, arith, get_or, string_bytes}
use Rattle.row_lists.specs.Spans.{no_span, text_at}
use Rattle.row_lists.proofs.SpanLemmas.{extends-both, span-extends, text-extends}
use Rattle.held_release.proofs.kept_names.keep_name.Goals as goal

-- the texts with the language code and then the term begin with the texts before
pub returns-clause-grown : goal.returns-clause-grown
returns-clause-grown c =
    let middle = string_bytes c.keep_language.new.texts in
    extends-both (string_bytes c.args.texts.now) middle (string_bytes c.keep_term.new.texts)
    c.in_ok-language.ensures.grown c.in_ok-term.ensures.grown

-- the spans of language codes are spans of the texts with the term
pub returns-clause-languages : goal.returns-clause-languages
returns-clause-languages c = λ place default within.
    let middle = string_bytes c.keep_language.new.texts in
    span-extends middle (string_bytes c.keep_term.new.texts) c.in_ok-term.ensures.grown
    (get_or c.keep_language.new.languages.items place default) (c.in_ok-language.ensures.languages place default within)

-- the kept row has its language code at one of the spans and its term within the texts
pub returns-clause-kept : goal.returns-clause-kept
returns-clause-kept c = record {
  language = c.in_ok-language.ensures.within;
  term = record {
    rise = omega arith;
    within = omega (arith, c.in_ok-bytes.ensures, c.start.ensures, c.in_ok-term.ensures.span.placed.within);
  };
}

-- the kept row stands for the name row that was read
pub returns-clause-name : goal.returns-clause-name
returns-clause-name c =
    let spans = c.keep_language.new.languages.items in
    let number = c.in_ok-language.language in
    let stays = text-extends (string_bytes c.keep_language.new.texts) (string_bytes c.keep_term.new.texts)
    c.in_ok-term.ensures.grown (get_or spans number no_span)
    (c.in_ok-language.ensures.languages number no_span c.in_ok-language.ensures.within) in
    let end : c.start.result + c.in_ok-bytes.bytes ≡ c.in_ok-term.term.end =
    omega (arith, c.in_ok-bytes.ensures, c.start.ensures) in
    let term : text_at (string_bytes c.keep_term.new.texts)
    (record { start = c.start.result; end = c.start.result + c.in_ok-bytes.bytes })
    ≡ c.args.name.now.term.now =
    (λ i. text_at (string_bytes c.keep_term.new.texts) (record { start = c.start.ensures i; end = end i }))
    ∙ c.in_ok-term.ensures.span.same in
    grind (arith, stays, c.in_ok-language.ensures.language, term)
