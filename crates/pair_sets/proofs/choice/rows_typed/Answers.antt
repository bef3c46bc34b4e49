use Rattle.std.proofs.Common.{ℕ, Bool, ◌≡◌, ◌<◌, ◌+◌, ◌-◌, ◌^◌, ◌∙◌, length, get_or, sym, ap, arith}
use Rattle.std.specs.Prelude.{min}
use Rattle.postings.specs.Indexed.{types_of}
use Rattle.postings.specs.Stats.{type_row_count}
use Rattle.candidates.specs.Numbers.{is_one_of}
use Rattle.pair_sets.proofs.ListLemmas.{kept_left, kept_more}
use Rattle.pair_sets.proofs.TypeLemmas.{type_tells}
use Rattle.pair_sets.proofs.choice.rows_typed.Goals as goal
use Rattle.pair_sets.proofs.choice.rows_typed.Goals.{then-is_typed, else-is_typed}

-- the rows of the type at hand are added exactly if it is in the set
pub loop-place-preserved : goal.loop-place-preserved
loop-place-preserved g c =
    let indexed = c.args.reader.indexes.now in
    let types = types_of indexed.rows in
    let items = g.S.ConceptSet.items_of c.args.types.now in
    let one : ℕ → Bool = is_one_of indexed.concepts items in
    let k = c.loop-place.place in
    let within : k < length types = omega (arith, c.loop-place-test.true, c.type_count-place-end.ensures.count) in
    let told : one (get_or types k 0) ≡ c.is_typed.result =
    sym (type_tells indexed items k within) ∙ sym c.is_typed.ensures in
    elim c.if-is_typed.branch [
      | then-is_typed w ↦
          w.rows-is ∙ w.saturating_add-rows.ensures
          ∙ ap (λ (rows : ℕ). min (c.loop-place.rows + rows) (2 ^ 64 - 1))
          (w.type_row_count.ensures ∙ ap (type_row_count indexed) (w.number.ensures.number ∙ w.type_at.ensures))
          ∙ kept_more (type_row_count indexed) one types k (2 ^ 64 - 1) c.loop-place.rows within
          (told ∙ w.if-is_typed.true) c.loop-place.invariant
      | else-is_typed w ↦
          w.rows-is
          ∙ kept_left (type_row_count indexed) one types k (2 ^ 64 - 1) c.loop-place.rows within
          (told ∙ w.if-is_typed.false) c.loop-place.invariant
    ]
