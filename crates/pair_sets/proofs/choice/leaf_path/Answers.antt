use Rattle.std.proofs.Common.{arith}
use Rattle.std.proofs.lemmas.Result.{IfOk-weaker}
use Rattle.candidates.specs.Numbers.{is_one_of}
use Rattle.pair_sets.proofs.RoomLemmas.{type_rows_few}
use Rattle.pair_sets.proofs.choice.leaf_path.Goals as goal

-- a leaf that is read by value reads no types, so its way is right for any types
pub returns-in-ByValue-2-clause-path : goal.returns-in-ByValue-2-clause-path
returns-in-ByValue-2-clause-path g c =
    let types = g.S.ConceptSet.items_of c.args.types.now in
    IfOk-weaker c.by_value.result _ _
    (λ path access_paths. access_paths (is_one_of c.args.reader.indexes.now.concepts types))
    c.by_value.ensures.path

-- a leaf that is scanned reads no types, so its way is right for any types
pub returns-in-Scan-clause-path : goal.returns-in-Scan-clause-path
returns-in-Scan-clause-path g c =
    let types = g.S.ConceptSet.items_of c.args.types.now in
    IfOk-weaker c.by_scan.result _ _
    (λ path access_paths. access_paths (is_one_of c.args.reader.indexes.now.concepts types))
    c.by_scan.ensures.path

-- if most values pass, there is room for all rows, so there is room for the rows of the types
pub by_type-requires-clause-room : goal.by_type-requires-clause-room
by_type-requires-clause-room g c =
    let indexed = c.args.reader.indexes.now in
    omega (
      arith,
      c.are_most.ensures c.if-are_most.true,
      type_rows_few indexed (is_one_of indexed.concepts (g.S.ConceptSet.items_of c.args.types.now)),
    )
