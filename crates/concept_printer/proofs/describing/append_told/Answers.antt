use Rattle.std.proofs.Common.{◌≡◌, ◌∙◌, ◌++◌, ℕ, List, OnOk, subst, sym, true, false}
use Rattle.concept_printer.proofs.ConceptLemmas.{told_in_force, told_otherwise}
use Rattle.concept_printer.proofs.describing.append_told.Goals as goal

-- the text of a concept in force is appended
pub returns-in-Some : goal.returns-in-Some
returns-in-Some c =
    subst
    (λ (told : List ℕ). OnOk c.append_concept.result (c.append_concept.new.text.items ≡ c.args.text.now.items ++ told))
    (told_in_force c.args.snapshot.now c.args.id c.in-Some.concept (sym c.index_of.ensures ∙ c.in-Some.is))
    c.append_concept.ensures

-- the line of an inactive concept is appended
pub returns-in-None : goal.returns-in-None
returns-in-None c =
    subst
    (λ (told : List ℕ).
    OnOk c.append_identifier.result (c.append_identifier.new.text.items ≡ c.args.text.now.items ++ told))
    (told_otherwise c.args.snapshot.now c.args.id true (sym c.index_of.ensures ∙ c.in-None.is)
    (sym c.if-is_inactive.ensures))
    c.append_identifier.ensures

-- the line of an unknown concept is appended
pub returns-in-None-2 : goal.returns-in-None-2
returns-in-None-2 c =
    subst
    (λ (told : List ℕ).
    OnOk c.append_identifier-in-None-2.result
    (c.append_identifier-in-None-2.new.text.items ≡ c.args.text.now.items ++ told))
    (told_otherwise c.args.snapshot.now c.args.id false (sym c.index_of.ensures ∙ c.in-None-2.is)
    (sym c.if-is_inactive.ensures))
    c.append_identifier-in-None-2.ensures
