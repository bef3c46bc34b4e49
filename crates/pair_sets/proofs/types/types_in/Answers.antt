use Rattle.std.proofs.Common.{ℕ, Bool, List, ◌≡◌, ◌<◌, ◌∙◌, length, get_or, sym, ap, subst}
use Rattle.std.specs.Prelude.{All}
use Rattle.number_lists.specs.Members.{has}
use Rattle.idset.specs.Words.{is_set}
use Rattle.postings.specs.Indexed.{types_of}
use Rattle.candidates.specs.Numbers.{is_one_of}
use Rattle.pair_sets.proofs.types.types_in.Goals as goal

-- the places of the types are below the count of types
pub bitmap_of-requires : goal.bitmap_of-requires
bitmap_of-requires g c =
    subst (All (λ place. place < c.type_count.result)) (sym c.as_slice.ensures.value)
    (subst (λ (count : ℕ). All (λ place. place < count) c.in_ok-numbers.numbers.items) (sym c.type_count.ensures.count)
    c.in_ok-numbers.ensures.places.within)

-- the types whose place is marked are those in the set
pub returns-clause-ids : goal.returns-clause-ids
returns-clause-ids g c =
    let types = types_of c.args.reader.indexes.now.rows in
    let one : ℕ → Bool = is_one_of c.args.reader.indexes.now.concepts (g.S.ConceptSet.items_of c.args.set.now) in
    let told : (place : ℕ) → place < length types
    → is_set c.in_ok-places.places.items place ≡ one (get_or types place 0) =
    λ place within. c.in_ok-places.ensures.marked place
    ∙ ap (λ (places : List ℕ). has places place) c.as_slice.ensures.value
    ∙ c.in_ok-numbers.ensures.places.told place within in
    c.in_ok-ids.ensures one
    (λ place within. ap (λ (words : List ℕ). is_set words place) c.deref.ensures.value ∙ told place within)
