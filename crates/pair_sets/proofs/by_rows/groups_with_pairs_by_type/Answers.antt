use Rattle.std.proofs.Common.{Bool, List, ◌∙◌, length, ap, arith}
use Rattle.std.proofs.lemmas.Result.{IfOk-weaker}
use Rattle.postings.specs.Groups.{ConceptGroup}
use Rattle.number_lists.specs.Members.{times}
use Rattle.release_model.specs.Release.{Value}
use Rattle.pair_sets.specs.Tested.{passes_of}
use Rattle.candidates.proofs.GroupLemmas.{groups_are}
use Rattle.pair_sets.proofs.LeafLemmas.{groups_found}
use Rattle.pair_sets.proofs.by_rows.groups_with_pairs_by_type.Goals as goal

-- the groups that have hits by type as often as `count` asks are the groups whose number of matching pairs lies in
-- `count`
pub returns-clause-items : goal.returns-clause-items
returns-clause-items g c =
    let release = c.args.reader.snapshot.now.release in
    let indexed = c.args.reader.indexes.now in
    let passes : Value → Bool = passes_of g.S.ConceptSet.items_of indexed.concepts c.args.tested.now in
    IfOk-weaker c.as_often.result _ _
    (λ found found_is one ids.
    groups_found indexed release c.args.reader.index c.concept_count.ensures.rising one passes
    c.args.count c.group_count.result c.group_count.ensures.count
    c.as_slice.result.now (g.S.ConceptSet.items_of found)
    (λ n within.
    ap (times n) c.as_slice.ensures.value
    ∙ (c.in_ok-hits.ensures.hits one ids).times n (omega (arith, within, c.group_count.ensures.count)))
    found_is)
    c.as_often.ensures.items

-- the set that is found by type has the count of groups as its bound
pub returns-clause-bound : goal.returns-clause-bound
returns-clause-bound g c =
    IfOk-weaker c.as_often.result _ _
    (λ found bound.
    bound ∙ c.group_count.ensures.count
    ∙ ap (λ (groups : List ConceptGroup). length groups)
    (groups_are c.args.reader.indexes.now c.args.reader.snapshot.now.release c.args.reader.index
    c.concept_count.ensures.rising))
    c.as_often.ensures.bound
