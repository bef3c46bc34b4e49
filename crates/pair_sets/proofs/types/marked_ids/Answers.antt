use Rattle.std.proofs.Common.{ℕ, ◌<◌, length, Vec, true, false, ◌≡◌, ◌∙◌, ◌∷◌, ◌++◌, [], get_or, append-nil, sym, ap}
use Rattle.std.proofs.Common.{arith}
use Rattle.std.specs.Prelude.{filter}
use Rattle.std.proofs.lemmas.List.{take_all}
use Rattle.postings.specs.Indexed.{types_of}
use Rattle.pair_sets.proofs.ChoiceLemmas.{id_more}
use Rattle.pair_sets.proofs.types.marked_ids.Goals as goal
use Rattle.pair_sets.proofs.types.marked_ids.Goals.{then-is_marked+in_ok-push, else-is_marked}

-- the type at hand is appended exactly if its place is marked
pub loop-place-preserved : goal.loop-place-preserved
loop-place-preserved c =
    let types = types_of c.args.reader.indexes.now.rows in
    let k = c.loop-place.place in
    let within : k < length types = omega (arith, c.loop-place-test.true, c.type_count-place-end.ensures.count) in
    elim c.if-is_marked.branch [
      | then-is_marked+in_ok-push w ↦ λ one told.
          let here : w.number.result ≡ get_or types k 0 =
          w.number.ensures.number ∙ w.type_at.ensures in
          ap (λ (ids : Vec ℕ _). ids.items) w.ids-is ∙ w.in_ok-push.ensures.items
          ∙ ap (λ id. c.loop-place.ids.items ++ id ∷ []) here
          ∙ id_more one types k within true (sym (told k within) ∙ sym c.is_marked.ensures ∙ w.if-is_marked.true)
          c.loop-place.ids.items (c.loop-place.invariant one told)
      | else-is_marked w ↦ λ one told.
          ap (λ (ids : Vec ℕ _). ids.items) w.ids-is ∙ sym (append-nil c.loop-place.ids.items)
          ∙ id_more one types k within false (sym (told k within) ∙ sym c.is_marked.ensures ∙ w.if-is_marked.false)
          c.loop-place.ids.items (c.loop-place.invariant one told)
    ]

-- after the last type, `ids` are those of all types that are marked
pub returns : goal.returns
returns c = λ one told.
    c.loop-place.invariant one told
    ∙ ap (filter one) (take_all c.loop-place.place (types_of c.args.reader.indexes.now.rows)
    (omega (arith, c.type_count-place-end.ensures.count)))
