use Rattle.std.proofs.Common.{ℕ, ◌+◌, ◌-◌, ◌^◌, ◌∙◌, ap}
use Rattle.std.specs.Prelude.{min}
use Rattle.postings.specs.Stats.{type_row_count}
use Rattle.pair_sets.proofs.ListLemmas.{cut_more}
use Rattle.pair_sets.proofs.choice.rows_of_types.Goals as goal

-- the rows of the type at hand are added to `rows`, saturated
pub loop-id-preserved : goal.loop-id-preserved
loop-id-preserved c =
    c.saturating_add-rows.ensures
    ∙ ap (λ (rows : ℕ). min (c.loop-id.rows + rows) (2 ^ 64 - 1)) c.type_row_count.ensures
    ∙ cut_more (type_row_count c.args.reader.indexes.now) c.args.ids.now c.loop-id.id-index (2 ^ 64 - 1) c.loop-id.rows
    c.loop-id-test.true c.loop-id.invariant
