use Rattle.std.proofs.Common.{◌≡◌, ◌∙◌, ◌++◌, ◌∷◌, [], get_or, map, sym, ap, arith}
use Rattle.std.proofs.lemmas.List.{get_or_default, map_more, take_all}
use Rattle.held_release.specs.Numbering.{concept_number}
use Rattle.postings.proofs.index.numbers_of.Goals as goal

-- before the first identifier there are no numbers
pub loop-id-init : goal.loop-id-init
loop-id-init c = c.in_ok-numbers.ensures.items

-- one identifier more adds the number of its concept
pub loop-id-preserved : goal.loop-id-preserved
loop-id-preserved c =
    let ids = c.args.ids.now in
    let k = c.loop-id.id-index in
    let here : c.number.result ≡ get_or ids k 0 =
    c.number.ensures.number ∙ c.id-item.is ∙ get_or_default ids k c.id-item.result 0 c.loop-id-test.true in
    c.in_ok-push.ensures.items
    ∙ (λ i. c.loop-id.invariant i ++ (c.number_of.ensures ∙ ap (concept_number c.args.concepts.now) here) i ∷ [])
    ∙ sym (map_more (concept_number c.args.concepts.now) ids k 0 c.loop-id-test.true)

-- after the last identifier the numbers are those of all identifiers
pub returns : goal.returns
returns c = c.loop-id.invariant
    ∙ ap (map (concept_number c.args.concepts.now)) (take_all c.loop-id.id-index c.args.ids.now (omega arith))
