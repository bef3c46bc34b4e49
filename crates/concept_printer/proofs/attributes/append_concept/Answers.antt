use Rattle.std.proofs.Common.{◌≡◌, ◌∙◌, ◌++◌, ℕ, List, None, OnOk, ap, decimal, subst, sym}
use Rattle.held_release.specs.Numbering.{concept_number}
use Rattle.concept_printer.specs.ConceptText.{concept_words, name_in_force}
use Rattle.concept_printer.proofs.ConceptLemmas.{number_told, words_without}
use Rattle.concept_printer.proofs.attributes.append_concept.Goals as goal

-- a type that is a concept in force is told with its name
pub returns-in-Some : goal.returns-in-Some
returns-in-Some c =
    let told = number_told c.args.snapshot.now.release.concepts c.number.result c.in-Some.concept
    (sym c.index_of.ensures ∙ c.in-Some.is) in
    subst
    (λ (id : ℕ). OnOk c.append_words.result
    (c.append_words.new.text.items ≡ c.args.text.now.items ++ concept_words (name_in_force c.args.snapshot.now) id))
    (told.1 ∙ c.number.ensures.number) c.append_words.ensures

-- a type that is no concept in force is told by its identifier alone
pub returns-in-None : goal.returns-in-None
returns-in-None c =
    let none = subst (λ (id : ℕ). concept_number c.args.snapshot.now.release.concepts id ≡ None) c.number.ensures.number
    (sym c.index_of.ensures ∙ c.in-None.is) in
    subst
    (λ (words : List ℕ). OnOk c.append_number.result
    (c.append_number.new.text.items ≡ c.args.text.now.items ++ words))
    (ap decimal c.number-in-None.ensures.number ∙ sym (words_without c.args.snapshot.now c.args.id none))
    c.append_number.ensures
