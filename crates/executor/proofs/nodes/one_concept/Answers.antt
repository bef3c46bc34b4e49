use Rattle.std.proofs.Common.{◌∙◌, None, Some, sym}
use Rattle.std.proofs.lemmas.Result.{IfOk-weaker}
use Rattle.candidates.proofs.Normal.{one_in}
use Rattle.executor.proofs.nodes.one_concept.Goals as goal

-- a set with the number of a concept in force has the concept with that identifier
pub returns-in-Some-clause-items : goal.returns-in-Some-clause-items
returns-in-Some-clause-items g c = IfOk-weaker c.from_items.result _ _
    (λ found items. items ∙ one_in c.args.reader.snapshot.now.release c.concept_count-count.ensures.rising c.args.id
    (Some c.in-Some.concept) (sym c.index_of.ensures.release ∙ c.in-Some.is))
    c.from_items.ensures.items

-- no concept in force has an identifier without a number, so the set is empty
pub returns-in-None-clause-items : goal.returns-in-None-clause-items
returns-in-None-clause-items g c = IfOk-weaker c.from_items-in-None.result _ _
    (λ found items. items ∙ one_in c.args.reader.snapshot.now.release c.concept_count-count.ensures.rising c.args.id
    None (sym c.index_of.ensures.release ∙ c.in-None.is))
    c.from_items-in-None.ensures.items
