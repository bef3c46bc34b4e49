-- After each key there is one length more, that of its list.
use Rattle.std.proofs.Common.{◌∙◌, ◌∷◌, [], ℕ, List, ap, arith, get_or, length, map, sym, take, take_all}
use Rattle.std.proofs.lemmas.List.{map-append, take_more}
use Rattle.hierarchy.proofs.order.lengths.Goals as goal

-- the length of one list more is added
pub loop-key-preserved : goal.loop-key-preserved
loop-key-preserved c =
    let long = λ (xs : List ℕ). length xs in
    let lists = c.args.lists.now in
    let key = c.loop-key.key in
    rw (c.in_ok-push.ensures.items, c.of.ensures, c.loop-key.invariant)
    (sym (ap (map long) (take_more lists key [] (omega arith))
    ∙ map-append long (take key lists) (get_or lists key [] ∷ [])))

-- after the last key there is a length for each list
pub returns : goal.returns
returns c =
    c.loop-key.invariant
    ∙ ap (map (λ (xs : List ℕ). length xs)) (take_all c.loop-key.key c.args.lists.now (omega arith))
