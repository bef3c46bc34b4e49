use Rattle.std.proofs.Common.{◌≡◌, ◌+◌, ◌++◌, ◌∷◌, [], ◌∙◌, List, None, Option, Some, Vec, Global, ap, filter_map, sym, take}
use Rattle.std.specs.List.{cons_option}
use Rattle.std.proofs.lemmas.List.{append-nil, take_more}
use Rattle.std.proofs.lemmas.List.Elements.{filter_map-append}
use Rattle.row_lists.specs.declared.attributes.KeptRow.{KeptRow}
use Rattle.held_release.specs.inside.NumberedInside.{numbered_of}
use Rattle.held_release.specs.declared.numbered_attributes.NumberedRow.{NumberedRow}
use Rattle.held_release.proofs.numbered_attributes.number_attributes.Goals as goal
use Rattle.held_release.proofs.numbered_attributes.number_attributes.Goals.{in-Some+in_ok-push, in_default}

-- one row more adds its numbered row, if it is in force
pub loop-row-preserved : goal.loop-row-preserved
loop-row-preserved c =
    let numbered : KeptRow → Option NumberedRow = numbered_of c.args.concepts.now in
    let rows = c.args.rows.now in
    let n = c.loop-row.row-index in
    let row = c.row-item.result in
    let so_far : List NumberedRow = filter_map numbered (take n rows) in
    let more : filter_map numbered (take (n + 1) rows) ≡ so_far ++ cons_option (numbered row) [] =
    ap (filter_map numbered) (take_more rows n row c.loop-row-test.true
    ∙ ap (λ (next : KeptRow). take n rows ++ next ∷ []) (sym c.row-item.is))
    ∙ filter_map-append numbered (take n rows) (row ∷ []) in
    elim c.match-number_attribute.branch [
      | in-Some+in_ok-push w ↦
          let found : numbered row ≡ Some w.in-Some.row = sym c.number_attribute.ensures ∙ w.in-Some.is in
          ap (λ (rows : Vec NumberedRow Global). rows.items) w.numbered-is
          ∙ w.in_ok-push.ensures.items
          ∙ (λ i. c.loop-row.invariant i ++ cons_option (sym found i) [])
          ∙ sym more
      | in_default w ↦
          let none : numbered row ≡ None = sym c.number_attribute.ensures ∙ w.in_default.is in
          ap (λ (rows : Vec NumberedRow Global). rows.items) w.numbered-is
          ∙ c.loop-row.invariant
          ∙ sym (append-nil so_far)
          ∙ (λ i. so_far ++ cons_option (sym none i) [])
          ∙ sym more
    ]
