use Rattle.std.proofs.Common.{ℕ, ◌∙◌, ◌++◌, ◌∷◌, [], List, ap, arith, get_or, sym, take, take_all}
use Rattle.number_lists.specs.Rising.{listed_numbers}
use Rattle.number_lists.proofs.RisingLemmas.{rising_fits}
use Rattle.ancestor_index.specs.inside.Gathered.{gathered_by}
use Rattle.ancestor_index.proofs.GatherLemmas.{gathered_more, none_gathered, own_rises, union_more}
use Rattle.ancestor_index.proofs.closure.join_few.Goals as goal

-- the list of a concept rises
pub put_with-requires : goal.put_with-requires
put_with-requires c =
    let concept = get_or c.args.concepts.now c.loop-concept.concept-index 0 in
    let near = c.requires.concepts c.loop-concept.concept-index 0 c.loop-concept-test.true in
    rising_fits (c.args.count) c.of-own.result.now
    (own_rises (c.args.count) (get_or c.args.places.now concept 0) c.args.lists.now c.of-own.result.now
    c.requires.rising near.2 c.of-own.ensures) (omega arith)

-- before the first concept the room is empty
pub loop-concept-init : goal.loop-concept-init
loop-concept-init c = c.clear.ensures.items ∙ none_gathered (c.args.count)

-- the union with one concept more and its list is what is gathered for one concept more
pub loop-concept-preserved : goal.loop-concept-preserved
loop-concept-preserved c =
    let concepts = c.args.concepts.now in
    let place = c.loop-concept.concept-index in
    let gathered = gathered_by c.args.places.now c.args.lists.now in
    let near = c.requires.concepts place 0 c.loop-concept-test.true in
    (λ i. (c.swap.ensures.x_after i).items)
    ∙ union_more (c.args.count) (gathered (take place concepts)) c.of-own.result.now c.as_slice.result.now
    c.as_slice-in-loop-concept.result.now c.put_union.new.union.items (get_or concepts place 0)
    (c.as_slice.ensures.value ∙ c.loop-concept.invariant)
    (own_rises (c.args.count) (get_or c.args.places.now (get_or concepts place 0) 0) c.args.lists.now
    c.of-own.result.now c.requires.rising near.2 c.of-own.ensures)
    near.0
    (λ bound rises below. c.as_slice-in-loop-concept.ensures.value ∙ c.in_ok-put_with.ensures bound rises below)
    c.in_ok-put_union.ensures
    ∙ (λ i. listed_numbers (c.args.count) ((gathered (take place concepts) ++ get_or concepts place 0 ∷ [])
    ++ c.of-own.ensures i))
    ∙ sym (ap (listed_numbers (c.args.count)) (gathered_more c.args.places.now c.args.lists.now concepts place
    c.loop-concept-test.true))

-- after the last concept the room holds what is gathered for all of them
pub returns : goal.returns
returns c =
    c.loop-concept.invariant
    ∙ ap (λ (all : List ℕ). listed_numbers (c.args.count) (gathered_by c.args.places.now c.args.lists.now all))
    (take_all c.loop-concept.concept-index c.args.concepts.now (omega arith))
