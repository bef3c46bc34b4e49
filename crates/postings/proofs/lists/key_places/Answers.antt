use Rattle.std.proofs.Common.{ℕ, Vec, ◌∙◌, ◌++◌, ◌∷◌, [], cond, get_or, sym, ap, append-nil, arith}
use Rattle.std.proofs.lemmas.Bool.{le-ltb, lt-ltb}
use Rattle.std.proofs.lemmas.List.{take_all}
use Rattle.postings.specs.inside.KeyedPlaces.{keyed_places}
use Rattle.postings.proofs.KeyedPlacesLemmas.{keyed_places-more}
use Rattle.postings.proofs.lists.key_places.Goals as goal
use Rattle.postings.proofs.lists.key_places.Goals.{then-key-count+in_ok-push, else-key-count}

-- before the first key there are no pairs
pub loop-place-init : goal.loop-place-init
loop-place-init c = c.in_ok-pairs.ensures.items

-- one key more adds its pair, if the key is below the count
pub loop-place-preserved : goal.loop-place-preserved
loop-place-preserved c =
    let keys = c.args.keys.now in
    let place = c.loop-place.place in
    let key = get_or keys place 0 in
    let more = sym (keyed_places-more c.args.count keys place c.loop-place-test.true) in
    elim c.if-key-count.branch [
      | then-key-count+in_ok-push w ↦
          ap (λ (pairs : Vec (ℕ × ℕ) _). pairs.items) w.pairs-is ∙ w.in_ok-push.ensures.items
          ∙ (λ i. c.loop-place.invariant i ++ cond (sym (lt-ltb key c.args.count w.if-key-count.true) i)
          ((key, place) ∷ []) [])
          ∙ more
      | else-key-count w ↦
          ap (λ (pairs : Vec (ℕ × ℕ) _). pairs.items) w.pairs-is ∙ sym (append-nil c.loop-place.pairs.items)
          ∙ (λ i. c.loop-place.invariant i ++ cond (sym (le-ltb key c.args.count w.if-key-count.false) i)
          ((key, place) ∷ []) [])
          ∙ more
    ]

-- after the last key the pairs are those of all keys
pub returns : goal.returns
returns c = c.loop-place.invariant
    ∙ ap (keyed_places c.args.count 0) (take_all c.loop-place.place c.args.keys.now (omega arith))
