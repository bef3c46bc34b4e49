use Rattle.std.proofs.Common.{◌≡◌, ◌∙◌, ◌++◌, ◌<◌, ℕ, List, All, OnOk, ap, codes, get_or, length, map, subst, sym}
use Rattle.number_lists.specs.KeyedLists.{list_of}
use Rattle.ancestor_index.specs.HierarchyLists.{Hierarchy}
use Rattle.held_release.specs.Line.{concept_line}
use Rattle.concept_printer.specs.ConceptText.{headed, name_in_force}
use Rattle.concept_printer.proofs.ListLemmas.{children_are, children_below, children_fit}
use Rattle.concept_printer.proofs.concept.append_children.Goals as goal

-- the concept has a list of children
pub children-requires : goal.children-requires
children-requires c =
    subst (λ (hierarchy : Hierarchy). c.args.concept < length hierarchy.children) (sym c.hierarchy-hierarchy.ensures)
    (children_fit c.args.indexes.now c.args.snapshot.now.release c.requires.indexes c.args.concept c.requires.concept)

-- the children are below the count of concepts
pub append_concepts-requires : goal.append_concepts-requires
append_concepts-requires c =
    let list_is = c.children.ensures
    ∙ ap (λ (hierarchy : Hierarchy). list_of hierarchy.children c.args.concept) c.hierarchy-hierarchy.ensures in
    subst (All (λ other. other < length c.args.snapshot.now.release.concepts)) (sym list_is)
    (children_below c.args.indexes.now c.args.snapshot.now.release c.requires.indexes c.args.concept c.requires.concept)

-- the appended lines are those of the children of the concept
pub returns : goal.returns
returns c =
    let list_is = c.children.ensures
    ∙ ap (λ (hierarchy : Hierarchy). list_of hierarchy.children c.args.concept) c.hierarchy-hierarchy.ensures in
    subst
    (λ (concepts : List ℕ). OnOk c.append_concepts.result
    (c.append_concepts.new.text.items ≡ c.args.text.now.items
    ++ headed (codes "CHILDREN") (concept_line (name_in_force c.args.snapshot.now)) concepts))
    (ap (map (λ k. get_or c.args.snapshot.now.release.concepts k 0)) list_is
    ∙ children_are c.args.indexes.now c.args.snapshot.now.release c.requires.indexes c.args.concept c.requires.concept)
    c.append_concepts.ensures
