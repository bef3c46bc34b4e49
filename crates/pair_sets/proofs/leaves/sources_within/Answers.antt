use Rattle.std.proofs.Common.{arith}
use Rattle.candidates.specs.Numbers.{is_one_of}
use Rattle.pair_sets.proofs.RoomLemmas.{type_rows_few}
use Rattle.pair_sets.proofs.leaves.sources_within.Goals as goal

-- there are no more sources than rows of the types, and there is room for these
pub returns-clause-few : goal.returns-clause-few
returns-clause-few g c =
    let indexed = c.args.reader.indexes.now in
    omega (
      arith,
      c.in_ok-found.ensures.few,
      c.if-saturating_add-room.false,
      c.saturating_add.ensures,
      c.rows_typed.ensures,
      c.row_count.ensures.few,
      type_rows_few indexed (is_one_of indexed.concepts (g.S.ConceptSet.items_of c.args.types.now)),
    )
