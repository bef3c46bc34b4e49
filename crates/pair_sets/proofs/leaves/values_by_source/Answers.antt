use Rattle.std.proofs.Common.{◌∙◌}
use Rattle.std.proofs.lemmas.Result.{IfOk-weaker}
use Rattle.candidates.specs.Numbers.{is_one_of}
use Rattle.pair_sets.proofs.ValueStepLemmas.{some_pair_is_value}
use Rattle.pair_sets.proofs.leaves.values_by_source.Goals as goal

-- the concepts with a pair that is read backwards to one of `sources` are the values of the sources
pub returns-clause-items : goal.returns-clause-items
returns-clause-items g c =
    let concepts = c.args.reader.indexes.now.concepts in
    IfOk-weaker c.with_pairs_by_value.result _ _
    (λ found found_is.
    found_is ∙ some_pair_is_value c.args.reader.snapshot.now.release (is_one_of concepts c.args.sources.now)
    (is_one_of concepts (g.S.ConceptSet.items_of c.args.types.now)))
    c.with_pairs_by_value.ensures.items
