use Rattle.std.proofs.Common.{◌∙◌, ◌++◌, ◌∷◌, [], get_or, map, take, sym, ap, arith}
use Rattle.std.proofs.lemmas.List.{get_or_default, map-append, take_all, take_more}
use Rattle.postings.proofs.lists.column.Goals as goal

-- before the first place the column is empty
pub loop-place-init : goal.loop-place-init
loop-place-init g c = λ default. c.in_ok-column.ensures.items

-- one place more adds its cell
pub loop-place-preserved : goal.loop-place-preserved
loop-place-preserved g c = λ default.
    let places = c.args.places.now in
    let i = c.loop-place.place-index in
    c.in_ok-push.ensures.items
    ∙ (λ j. c.loop-place.invariant default j ++ (c.index-cells-place.is
    ∙ get_or_default c.args.cells.now (get_or places i 0) _ default (c.requires i 0 c.loop-place-test.true)) j ∷ [])
    ∙ sym (ap (map (λ place. get_or c.args.cells.now place default)) (take_more places i 0 c.loop-place-test.true)
    ∙ map-append (λ place. get_or c.args.cells.now place default) (take i places) (get_or places i 0 ∷ []))

-- after the last place the column has the cells at all places
pub returns : goal.returns
returns g c = λ default. c.loop-place.invariant default
    ∙ ap (map (λ place. get_or c.args.cells.now place default))
    (take_all c.loop-place.place-index c.args.places.now (omega arith))
