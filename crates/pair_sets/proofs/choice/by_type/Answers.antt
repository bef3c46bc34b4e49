use Rattle.std.proofs.Common.{◌∙◌, ap, arith}
use Rattle.std.specs.List.{sum_by}
use Rattle.postings.specs.Stats.{type_row_count}
use Rattle.candidates.specs.Numbers.{is_one_of}
use Rattle.pair_sets.proofs.RoomLemmas.{type_rows_few}
use Rattle.pair_sets.proofs.choice.by_type.Goals as goal

-- what is read to find the types leaves room for their rows
pub few_values-requires-clause-room : goal.few_values-requires-clause-room
few_values-requires-clause-room g c =
    let indexed = c.args.reader.indexes.now in
    omega (
      arith,
      c.requires.room,
      c.rows_of_types-rows.ensures,
      ap (sum_by (type_row_count indexed)) (c.as_slice.ensures.value ∙ c.in_ok-ids.ensures.ids),
      type_rows_few indexed (is_one_of indexed.concepts (g.S.ConceptSet.items_of c.args.types.now)),
      c.row_count.ensures.few,
      c.type_count.ensures.few,
      c.saturating_sub-left.ensures,
      c.types_to_read.ensures,
    )
