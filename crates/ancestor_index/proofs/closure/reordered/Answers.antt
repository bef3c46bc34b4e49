-- After each place there is one list more, that of the place.
use Rattle.std.proofs.Common.{◌∙◌, ◌++◌, ◌∷◌, [], List, ℕ, ap, get_or, map, sym, take, take_all}
use Rattle.std.proofs.lemmas.List.{map-append, take_more}
use Rattle.number_lists.specs.KeyedLists.{list_of}
use Rattle.ancestor_index.proofs.closure.reordered.Goals as goal

-- the list of one place more is added
pub loop-place-preserved : goal.loop-place-preserved
loop-place-preserved c =
    let list = λ (place : ℕ). list_of c.args.lists.now place in
    let places = c.args.places.now in
    let i = c.loop-place.place-index in
    let place = get_or places i 0 in
    c.in_ok-push_list.ensures
    ∙ ap (λ (own : List ℕ). c.loop-place.found ++ own ∷ []) c.of.ensures
    ∙ ap (λ (lists : List (List ℕ)). lists ++ list place ∷ []) c.loop-place.invariant
    ∙ sym (ap (map list) (take_more places i 0 c.loop-place-test.true) ∙ map-append list (take i places) (place ∷ []))

-- after the last place there is a list for each place
pub returns : goal.returns
returns c =
    c.loop-place.invariant
    ∙ ap (map (λ (place : ℕ). list_of c.args.lists.now place))
    (take_all c.loop-place.place-index c.args.places.now c.loop-place-test.false)
