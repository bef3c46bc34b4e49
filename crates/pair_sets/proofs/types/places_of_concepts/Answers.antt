use Rattle.std.proofs.Common.{ℕ, Vec, List, ◌≡◌, ◌<◌, ◌∙◌, ◌∷◌, ◌++◌, [], length, get_or, sym, ap, subst, arith}
use Rattle.std.specs.Prelude.{All, None, Some, nat_eq, position}
use Rattle.std.proofs.lemmas.List.{take_all}
use Rattle.std.proofs.lemmas.List.Elements.{All-append, All-nil}
use Rattle.number_lists.specs.Members.{has}
use Rattle.postings.specs.Indexed.{types_of}
use Rattle.pair_sets.specs.inside.Hits.{ArePlacesOf}
use Rattle.pair_sets.proofs.TimesLemmas.{one_below}
use Rattle.pair_sets.proofs.TypeLemmas.{place_below, places_more_of}
use Rattle.pair_sets.proofs.types.places_of_concepts.Goals as goal
use Rattle.pair_sets.proofs.types.places_of_concepts.Goals.{in-Some+in_ok-push-in-Some, in-None}

-- before the first concept, the empty list has the places of no types
pub loop-concept-init : goal.loop-concept-init
loop-concept-init c = record {
  within = subst (All (λ place. place < length (types_of c.args.reader.indexes.now.rows)))
      (sym c.new-places.ensures.items)
      (All-nil (λ place. place < length (types_of c.args.reader.indexes.now.rows)));
  told = λ place within. ap (λ (places : List ℕ). has places place) c.new-places.ensures.items;
}

-- the concept at hand is a number of a concept
pub id_at-requires : goal.id_at-requires
id_at-requires c =
    subst (λ (ids : List ℕ). get_or c.args.concepts.now c.loop-concept.concept-index 0 < length ids)
    c.args.reader.index.concepts
    (c.requires.below c.loop-concept.concept-index 0 c.loop-concept-test.true)

-- the place of the concept at hand is appended if it is a type of rows
pub loop-concept-preserved : goal.loop-concept-preserved
loop-concept-preserved c =
    let types = types_of c.args.reader.indexes.now.rows in
    let k = c.loop-concept.concept-index in
    let named : c.number.result ≡ get_or c.args.reader.indexes.now.concepts (get_or c.args.concepts.now k 0) 0 =
    c.number.ensures.number ∙ c.id_at.ensures
    ∙ ap (λ (ids : List ℕ). get_or ids (get_or c.args.concepts.now k 0) 0) (sym c.args.reader.index.concepts) in
    elim c.match-type_place.branch [
      | in-Some+in_ok-push-in-Some w ↦
          let found : position (nat_eq c.number.result) types ≡ Some w.in-Some.place = sym c.type_place.ensures
          ∙ w.in-Some.is in
          let items : c.match-type_place.places.items ≡ c.loop-concept.places.items ++ w.in-Some.place ∷ [] =
          ap (λ (places : Vec ℕ _). places.items) w.places-is ∙ w.in_ok-push-in-Some.ensures.items in
          record {
            within = subst (All (λ place. place < length types)) (sym items)
                (All-append (λ place. place < length types) c.loop-concept.places.items (w.in-Some.place ∷ [])
                c.loop-concept.invariant.within
                (one_below (length types) w.in-Some.place (place_below types c.number.result w.in-Some.place found)));
            told = λ place within.
                ap (λ (places : List ℕ). has places place) items
                ∙ places_more_of c.args.reader.indexes.now.rows c.args.reader.indexes.now.concepts c.args.concepts.now
                c.loop-concept.places.items k c.loop-concept-test.true
                c.number.result named (Some w.in-Some.place) found c.loop-concept.invariant.told place within;
          }
      | in-None w ↦
          let found : position (nat_eq c.number.result) types ≡ None = sym c.type_place.ensures ∙ w.in-None.is in
          record {
            within = subst (λ (places : Vec ℕ _). All (λ place. place < length types) places.items) (sym w.places-is)
                c.loop-concept.invariant.within;
            told = λ place within.
                ap (λ (places : Vec ℕ _). has places.items place) w.places-is
                ∙ places_more_of c.args.reader.indexes.now.rows c.args.reader.indexes.now.concepts c.args.concepts.now
                c.loop-concept.places.items k c.loop-concept-test.true
                c.number.result named None found c.loop-concept.invariant.told place within;
          }
    ]

-- after the last concept, the places are those of the types among all
pub returns : goal.returns
returns c =
    subst (λ (concepts : List ℕ). ArePlacesOf c.args.reader.indexes.now concepts c.loop-concept.places.items)
    (take_all c.loop-concept.concept-index c.args.concepts.now (omega arith)) c.loop-concept.invariant
