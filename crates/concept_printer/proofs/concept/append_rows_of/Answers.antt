use Rattle.std.proofs.Common.{◌≡◌, ◌∙◌, ◌++◌, List, OnOk, ap, codes, length, map, subst, sym}
use Rattle.release_model.specs.Release.{Attribute}
use Rattle.number_lists.specs.Rising.{IsRisingBelow}
use Rattle.concept_printer.specs.ConceptText.{attribute_line, by_group, headed, name_in_force}
use Rattle.concept_printer.specs.inside.GroupKeys.{row_numbered}
use Rattle.concept_printer.proofs.ListLemmas.{rows_are, rows_rise}
use Rattle.concept_printer.proofs.concept.append_rows_of.Goals as goal

-- the numbers of the rows of the concept rise
pub append_attributes-requires : goal.append_attributes-requires
append_attributes-requires c =
    subst (IsRisingBelow (length c.args.snapshot.now.release.attributes)) (sym c.rows_of.ensures)
    (rows_rise c.args.indexes.now c.args.snapshot.now.release c.requires.indexes c.args.concept c.requires.concept
    c.attribute_count.ensures.by_source)

-- the appended lines are those of the attribute rows of the concept
pub returns : goal.returns
returns c =
    subst
    (λ (rows : List Attribute). OnOk c.append_attributes.result
    (c.append_attributes.new.text.items ≡ c.args.text.now.items
    ++ headed (codes "ATTRIBUTES") (attribute_line (name_in_force c.args.snapshot.now)) (by_group rows)))
    (ap (map (row_numbered c.args.snapshot.now.release)) c.rows_of.ensures
    ∙ rows_are c.args.indexes.now c.args.snapshot.now.release c.requires.indexes c.args.concept c.requires.concept
    c.concept_count.ensures.rising)
    c.append_attributes.ensures
