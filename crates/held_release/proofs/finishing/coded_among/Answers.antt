use Rattle.std.proofs.Common.{◌∙◌, List, All, ap, arith, filter_map, length, subst, sym}
use Rattle.std.proofs.lemmas.List.{length-map}
use Rattle.row_lists.specs.KeptRows.{attribute_kept}
use Rattle.release_model.specs.Release.{Attribute}
use Rattle.held_release.specs.Finished.{attributes_among}
use Rattle.held_release.specs.inside.NumberedInside.{IsNumbered, attributes_numbered, numbered_of}
use Rattle.held_release.proofs.NumberedLemmas.{AreNumbered, rows_own}
use Rattle.held_release.proofs.finishing.coded_among.Goals as goal
use Rattle.held_release.proofs.finishing.coded_among.Goals.{In_ok-rows}

-- the rows in force are numbered
own : (c : In_ok-rows) → AreNumbered c.args.concepts.now c.into_rows-kept.result.1 c.into_rows-kept.result.0.items
    c.in_ok-rows.rows.items
own c =
    subst (AreNumbered c.args.concepts.now c.into_rows-kept.result.1 c.into_rows-kept.result.0.items)
    (sym (c.in_ok-rows.ensures ∙ ap (filter_map (numbered_of c.args.concepts.now)) c.as_slice.ensures.value))
    (rows_own c.args.concepts.now c.into_rows-kept.result.1 c.into_rows-kept.result.0.items
    c.into_rows-kept.ensures.within)

-- there are fewer than 2^31 rows in force
pub code_rows-requires-clause-few : goal.code_rows-requires-clause-few
code_rows-requires-clause-few c =
    omega (
      arith,
      c.as_slice-2.ensures.len,
      (own (goal.at.code_rows-requires-clause-few c).In_ok-rows).count,
      length-map c.into_rows-kept.result.0.items (attribute_kept c.into_rows-kept.result.1),
      ap (λ (rows : List Attribute). length rows) c.into_rows-kept.ensures.rows,
      c.requires,
    )

-- the numbers in the rows are those of concepts and of values
pub code_rows-requires-clause-numbered : goal.code_rows-requires-clause-numbered
code_rows-requires-clause-numbered c =
    subst (All (IsNumbered (length c.args.concepts.now) c.into_rows-kept.result.1)) (sym c.as_slice-2.ensures.value)
    (own (goal.at.code_rows-requires-clause-numbered c).In_ok-rows).numbered

-- the rows in file order are the attributes in force
pub returns-clause-order : goal.returns-clause-order
returns-clause-order c =
    c.in_ok-coded.ensures.order
    ∙ ap (attributes_numbered c.args.concepts.now c.into_rows-kept.result.1) c.as_slice-2.ensures.value
    ∙ (own (goal.at.returns-clause-order c).In_ok-rows).same
    ∙ ap (attributes_among c.args.concepts.now) c.into_rows-kept.ensures.rows
