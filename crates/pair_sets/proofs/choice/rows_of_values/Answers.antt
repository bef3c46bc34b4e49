use Rattle.std.proofs.Common.{ℕ, ◌+◌, ◌-◌, ◌^◌, ◌∙◌, ap}
use Rattle.std.specs.Prelude.{min}
use Rattle.candidates.specs.RowCounts.{row_count_of}
use Rattle.pair_sets.proofs.ListLemmas.{cut_more}
use Rattle.pair_sets.proofs.choice.rows_of_values.Goals as goal

-- the rows of the concept at hand are added to `rows`, saturated
pub loop-concept-preserved : goal.loop-concept-preserved
loop-concept-preserved c =
    c.saturating_add-rows.ensures
    ∙ ap (λ (rows : ℕ). min (c.loop-concept.rows + rows) (2 ^ 64 - 1)) c.rows_of_value.ensures
    ∙ cut_more (row_count_of c.args.reader.indexes.now c.args.back) c.args.concepts.now c.loop-concept.concept-index
    (2 ^ 64 - 1) c.loop-concept.rows c.loop-concept-test.true c.loop-concept.invariant
