use Rattle.std.proofs.Common.{ap, arith}
use Rattle.std.specs.List.{sum_by}
use Rattle.postings.specs.Stats.{type_row_count}
use Rattle.candidates.specs.Numbers.{is_one_of}
use Rattle.pair_sets.proofs.RoomLemmas.{type_rows_few}
use Rattle.pair_sets.proofs.choice.values_path.Goals as goal

-- if there are more sources than items that are read to find the types, there is room for the rows of the types, since
-- these are no more than all rows
pub returns-then-count-rows-clause-rest : goal.returns-then-count-rows-clause-rest
returns-then-count-rows-clause-rest g c =
    let indexed = c.args.reader.indexes.now in
    record {
      grows = c.types_in.ensures.counted.grows;
      room = omega (
        arith,
        c.types_in.ensures.counted.count,
        ap (sum_by (type_row_count indexed)) c.in_ok-ids.ensures.ids,
        type_rows_few indexed (is_one_of indexed.concepts (g.S.ConceptSet.items_of c.args.types.now)),
        c.types_to_read-typed.ensures,
        c.count.ensures,
        c.from-count.ensures,
      );
    }
