use Rattle.std.proofs.Common.{◌++◌, ◌∷◌, [], ◌∙◌, ap, string_bytes, arith}
use Rattle.std.proofs.lemmas.List.Elements.{All-weaker}
use Rattle.std.proofs.lemmas.Str.{IsUtf8-string_bytes}
use Rattle.row_lists.specs.inside.NamesInside.{IsPlaced, name_in}
use Rattle.row_lists.specs.Spans.{Extends}
use Rattle.row_lists.proofs.NameLemmas.{name-extends, placed-extends}
use Rattle.row_lists.proofs.SpanLemmas.{all-push, extends-both, rows-push, text-extends, text_span-extends}
use Rattle.row_lists.proofs.names.Names.push.Goals as goal

-- if the term cannot be added, the texts of the rows still stand in the buffer
pub invariant_of-self-in_err-term : goal.invariant_of-self-in_err-term
invariant_of-self-in_err-term c =
    All-weaker (IsPlaced (string_bytes c.self.inside.texts)) (IsPlaced (string_bytes c.push_text-2.new.texts))
    (placed-extends (string_bytes c.self.inside.texts) (string_bytes c.push_text-2.new.texts)
    (c.args.language.now, c.in_err-term.ensures.same ∙ c.in_ok-language.ensures.grown)
    (IsUtf8-string_bytes c.self.inside.texts) (IsUtf8-string_bytes c.push_text-2.new.texts)) c.self.inside.rows.items
    c.self.invariant

-- if the row cannot be added, the texts of the rows still stand in the longer buffer
pub invariant_of-self-in_err-push : goal.invariant_of-self-in_err-push
invariant_of-self-in_err-push c =
    let texts = string_bytes c.self.inside.texts in
    let grown = string_bytes c.push_text-2.new.texts in
    let extends = extends-both texts (string_bytes c.push_text.new.texts) grown
    (c.args.language.now, c.in_ok-language.ensures.grown) (c.args.term.now, c.in_ok-term.ensures.grown) in
    rw c.in_err-push.ensures.items (All-weaker (IsPlaced texts) (IsPlaced grown)
    (placed-extends texts grown extends (IsUtf8-string_bytes c.self.inside.texts)
    (IsUtf8-string_bytes c.push_text-2.new.texts)) c.self.inside.rows.items c.self.invariant)

-- after the row is added, the texts of all rows stand in the buffer
pub invariant_of-self-2 : goal.invariant_of-self-2
invariant_of-self-2 c =
    let texts = string_bytes c.self.inside.texts in
    let spoken = string_bytes c.push_text.new.texts in
    let grown = string_bytes c.push_text-2.new.texts in
    let more : Extends spoken grown = (c.args.term.now, c.in_ok-term.ensures.grown) in
    let whole = IsUtf8-string_bytes c.push_text-2.new.texts in
    let extends = extends-both texts spoken grown (c.args.language.now, c.in_ok-language.ensures.grown) more in
    all-push (IsPlaced texts) (IsPlaced grown)
    (placed-extends texts grown extends (IsUtf8-string_bytes c.self.inside.texts) whole)
    c.self.inside.rows.items c.push.new.self.items _ c.in_ok-push.ensures.items c.self.invariant
    (record {
      language = text_span-extends spoken grown more (IsUtf8-string_bytes c.push_text.new.texts) whole
          c.in_ok-language.language c.in_ok-language.ensures.text;
      term = c.in_ok-term.ensures.text;
    })

-- after the row is added, its name comes last
pub returns : goal.returns
returns c =
    let texts = string_bytes c.self.inside.texts in
    let spoken = string_bytes c.push_text.new.texts in
    let grown = string_bytes c.push_text-2.new.texts in
    let more : Extends spoken grown = (c.args.term.now, c.in_ok-term.ensures.grown) in
    let extends = extends-both texts spoken grown (c.args.language.now, c.in_ok-language.ensures.grown) more in
    rows-push (name_in texts) (name_in grown) (IsPlaced texts)
    (name-extends texts grown extends) c.self.inside.rows.items c.push.new.self.items _ _ c.in_ok-push.ensures.items
    c.self.invariant
    (grind (
      arith,
      (text-extends spoken grown more c.in_ok-language.language c.in_ok-language.ensures.span.placed),
      c.in_ok-language.ensures.span.same,
      c.in_ok-term.ensures.span.same,
    ))
    ∙ ap (λ names. names ++ record {
      id = c.args.id;
      concept = c.args.concept;
      language = c.args.language.now;
      term = c.args.term.now;
    } ∷ []) c.self.view_is
