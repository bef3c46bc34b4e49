use Rattle.std.proofs.Common.{◌∙◌}
use Rattle.std.proofs.lemmas.Result.{IfOk-weaker}
use Rattle.candidates.specs.Numbers.{is_one_of}
use Rattle.pair_sets.proofs.ValueStepLemmas.{some_pair_is_value}
use Rattle.pair_sets.proofs.leaves.values_by_type.Goals as goal

-- the concepts with a pair that is read backwards along the types `ids` are the values along these types
pub returns-clause-items : goal.returns-clause-items
returns-clause-items g c =
    let sources = is_one_of c.args.reader.indexes.now.concepts (g.S.ConceptSet.items_of c.args.sources) in
    IfOk-weaker c.with_pairs_by_type.result _ _
    (λ found found_is one ids. found_is one ids ∙ some_pair_is_value c.args.reader.snapshot.now.release sources one)
    c.with_pairs_by_type.ensures.items
