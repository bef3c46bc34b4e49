use Rattle.std.proofs.Common.{ℕ, List, length, ◌≡◌, ◌∙◌, sym, ap, subst, arith}
use Rattle.std.proofs.lemmas.Result.{IfOk-weaker}
use Rattle.number_lists.specs.KeyedLists.{AreKeysBelow, lists_by}
use Rattle.postings.specs.Places.{places_by}
use Rattle.postings.proofs.KeyedPlacesLemmas.{keyed_below, length-keyed_places, places_by_keyed}
use Rattle.postings.proofs.lists.places_by_key.Goals as goal

-- the keys of the pairs are below the count
pub from_pairs-requires-clause-keys : goal.from_pairs-requires-clause-keys
from_pairs-requires-clause-keys c =
    subst (λ (pairs : List (ℕ × ℕ)). AreKeysBelow c.args.count pairs)
    (sym (c.as_slice.ensures.value ∙ c.in_ok-pairs.ensures))
    (keyed_below c.args.count 0 c.args.keys.now)

-- there are less than 2^32 pairs
pub from_pairs-requires-clause-few : goal.from_pairs-requires-clause-few
from_pairs-requires-clause-few c =
    omega (
      arith,
      ap (λ (pairs : List (ℕ × ℕ)). length pairs) (c.as_slice.ensures.value ∙ c.in_ok-pairs.ensures),
      length-keyed_places c.args.count 0 c.args.keys.now,
      c.requires,
    )

-- the lists that the pairs make are the places by key
pub returns : goal.returns
returns c =
    let count = c.args.count in
    IfOk-weaker c.from_pairs.result (λ lists. lists ≡ lists_by count c.as_slice.result.now)
    (λ lists. lists ≡ places_by count c.args.keys.now)
    (λ lists is. is ∙ ap (lists_by count) (c.as_slice.ensures.value ∙ c.in_ok-pairs.ensures)
    ∙ places_by_keyed count c.args.keys.now)
    c.from_pairs.ensures
