use Rattle.std.proofs.Common.{ℕ, ◌<◌, ◌∙◌, List, length, ap, arith}
use Rattle.std.proofs.lemmas.List.Elements.{All-push}
use Rattle.std.proofs.lemmas.Result.{IfOk-weaker}
use Rattle.number_lists.proofs.KeyedLemmas.{length-lists_by}
use Rattle.hierarchy.proofs.components.places_by_child.Goals as goal

-- there is a list for each concept
pub returns : goal.returns
returns c =
    IfOk-weaker c.from_pairs.result _ _
    (λ places is. ap (λ (xs : List (List ℕ)). length xs) is ∙ length-lists_by c.args.count c.as_slice.result.now)
    c.from_pairs.ensures

-- the child of one row more is below `count`
pub loop-place-preserved : goal.loop-place-preserved
loop-place-preserved c =
    let below : ℕ × ℕ → Type 0 = λ pair. pair.0 < c.args.count in
    let near = (c.requires.within c.loop-place.place (0, 0) (omega arith)).0 in
    record {
      keys = rw c.in_ok-push.ensures.items (All-push below c.loop-place.pairs.items _ c.loop-place.invariant.keys near);
      each = omega (arith, c.in_ok-push.ensures.len);
    }
