use Rattle.std.proofs.Common.{◌≡◌, ◌∙◌, ◌++◌, ℕ, decimal, ap, subst, sym}
use Rattle.release_model.specs.Release.{Attribute}
use Rattle.held_release.specs.AttributesBySource.{attribute_of, with_source}
use Rattle.concept_printer.specs.ConceptText.{attribute_line, concept_words, name_in_force, value_words}
use Rattle.concept_printer.proofs.GroupLemmas.{row_read}
use Rattle.concept_printer.proofs.LineLemmas.{three_words}
use Rattle.concept_printer.proofs.attributes.append_attribute.Goals as goal

-- group, type and value of the row, put piece by piece, are its line
pub returns : goal.returns
returns c =
    let row : Attribute =
    with_source c.args.snapshot.now.release.concepts (attribute_of c.attribute_row-row.result) in
    let name = name_in_force c.args.snapshot.now in
    let row_is = row_read c.args.snapshot.now.release c.args.row row c.attribute_row-row.ensures.row in
    subst
    (λ (row : Attribute). c.push-3.new.self.items ≡ c.args.text.now.items ++ attribute_line name row) (sym row_is)
    (three_words c.args.text.now.items c.append_number.new.text.items c.push.new.self.items
    c.append_concept.new.text.items
    c.push-2.new.self.items c.append_value.new.text.items c.push-3.new.self.items
    (decimal row.group) (concept_words name row.type_id) (value_words name row.value)
    (c.in_ok-append_number.ensures ∙ ap (λ (number : ℕ). c.args.text.now.items ++ decimal number) c.from.ensures)
    c.in_ok-push.ensures.items c.in_ok-append_concept.ensures c.in_ok-push-2.ensures.items c.in_ok-append_value.ensures
    c.in_ok-push-3.ensures.items)
