use Rattle.std.proofs.Common.{◌≡◌, ◌∙◌, ◌++◌, ◌<◌, ℕ, List, All, OnOk, ap, codes, get_or, length, map, subst, sym}
use Rattle.held_release.specs.Line.{concept_line}
use Rattle.concept_printer.specs.ConceptText.{headed, name_in_force}
use Rattle.concept_printer.proofs.ListLemmas.{sets_are, sets_below}
use Rattle.concept_printer.proofs.concept.append_reference_sets.Goals as goal

-- the indexes are those of the release
pub reference_sets_with-requires : goal.reference_sets_with-requires
reference_sets_with-requires c = (c.args.snapshot.now.release, c.requires.indexes)

-- the reference sets are below the count of concepts
pub append_concepts-requires : goal.append_concepts-requires
append_concepts-requires c =
    subst (All (λ other. other < length c.args.snapshot.now.release.concepts))
    (sym (c.as_slice.ensures.value ∙ c.in_ok-sets.ensures))
    (sets_below c.args.indexes.now c.args.snapshot.now.release c.requires.indexes c.args.concept c.requires.concept)

-- the appended lines are those of the reference sets that the concept is in
pub returns : goal.returns
returns c =
    subst
    (λ (concepts : List ℕ). OnOk c.append_concepts.result
    (c.append_concepts.new.text.items ≡ c.args.text.now.items
    ++ headed (codes "MEMBER-OF") (concept_line (name_in_force c.args.snapshot.now)) concepts))
    (ap (map (λ k. get_or c.args.snapshot.now.release.concepts k 0)) (c.as_slice.ensures.value ∙ c.in_ok-sets.ensures)
    ∙ sets_are c.args.indexes.now c.args.snapshot.now.release c.requires.indexes c.args.concept c.requires.concept)
    c.append_concepts.ensures
