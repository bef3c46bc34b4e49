use Rattle.std.proofs.Common.{◌+◌, ◌≡◌, ◌++◌, ◌∷◌, ◌∙◌, [], append_assoc, drop, take}
use Rattle.std.specs.Int.{from_bool}
use Rattle.std.proofs.lemmas.List.{take_rest}
use Rattle.idset.specs.Sets.{place_of}
use Rattle.idset.proofs.PutLemmas.{put_is_union}
use Rattle.idset.proofs.lists.put_with.Goals as goal

-- the items before the number, the number and the items after it are the list with the number
pub returns : goal.returns
returns c = λ bound rises below.
    let items = c.args.items.now in
    let number = c.args.number in
    let place : c.place_within-place.result ≡ place_of items number = c.place_within-place.ensures in
    let above : c.place_within-place.result + c.from.result ≡ place_of items number + from_bool c.stands_at.result =
    (λ i. place i + c.from.ensures i) in
    c.in_ok-extend_from_slice-2.ensures.items
    ∙ (λ i. c.push.new.self.items ++ take_rest items (c.place_within-place.result + c.from.result) i)
    ∙ (λ i. c.in_ok-push.ensures.items i ++ drop (above i) items)
    ∙ (λ i. (c.in_ok-extend_from_slice.ensures.items i ++ number ∷ []) ++ drop (place_of items number
    + from_bool c.stands_at.result) items)
    ∙ (λ i. ((c.clear.ensures.items i ++ take (place i) items) ++ number ∷ []) ++ drop (place_of items number
    + from_bool c.stands_at.result) items)
    ∙ append_assoc (take (place_of items number) items) (number ∷ []) (drop (place_of items number
    + from_bool c.stands_at.result) items)
    ∙ put_is_union bound items number c.stands_at.result c.stands_at.ensures rises below
