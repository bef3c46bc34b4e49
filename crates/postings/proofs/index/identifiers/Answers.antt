use Rattle.std.proofs.Common.{◌∙◌, ◌++◌, ◌∷◌, [], sym, arith}
use Rattle.std.proofs.lemmas.List.{take_all, take_more}
use Rattle.postings.proofs.index.identifiers.Goals as goal

-- before the first concept there are no identifiers
pub loop-concept-init : goal.loop-concept-init
loop-concept-init c = c.in_ok-concepts.ensures.items

-- one concept more adds its identifier
pub loop-concept-preserved : goal.loop-concept-preserved
loop-concept-preserved c =
    let concepts = c.args.snapshot.now.release.concepts in
    c.in_ok-push.ensures.items
    ∙ (λ i. c.loop-concept.invariant i ++ c.id_at.ensures i ∷ [])
    ∙ sym (take_more concepts c.loop-concept.concept 0
    (omega (arith, c.loop-concept-test.true, c.concept_count-concept-end.ensures.count)))

-- after the last concept the identifiers are those of all concepts
pub returns : goal.returns
returns c = c.loop-concept.invariant ∙ take_all c.loop-concept.concept c.args.snapshot.now.release.concepts
    (omega (arith, c.loop-concept-test.false, c.concept_count-concept-end.ensures.count))
