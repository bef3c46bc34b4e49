use Rattle.std.proofs.Common.{ℕ, List, ◌<◌, ◌∙◌, length, sym, subst}
use Rattle.std.specs.Prelude.{All}
use Rattle.std.proofs.lemmas.Result.{IfOk-weaker}
use Rattle.pair_sets.specs.inside.Hits.{ArePlacesOf}
use Rattle.number_lists.proofs.RisingLemmas.{all_below}
use Rattle.pair_sets.proofs.types.places_in.Goals as goal

-- the items of the set are numbers of concepts
pub places_of_concepts-requires : goal.places_of_concepts-requires
places_of_concepts-requires g c = record {
  below =
      let items = g.S.ConceptSet.items_of c.args.set.now in
      subst (All (λ concept. concept < length c.args.reader.indexes.now.concepts))
      (sym (c.as_slice.ensures.value ∙ c.in_ok-concepts.ensures.items))
      (subst (λ (count : ℕ). All (λ concept. concept < count) items) c.requires.bound
      (all_below (g.S.ConceptSet.bound_of c.args.set.now) items (g.met.S.ConceptSet.rising c.args.set.now)));
}

-- the places of the types among the items of the set are those of the types in the set
pub returns-in_ok-concepts-clause-places : goal.returns-in_ok-concepts-clause-places
returns-in_ok-concepts-clause-places g c =
    IfOk-weaker c.places_of_concepts.result _ _
    (λ places are. subst (λ (concepts : List ℕ). ArePlacesOf c.args.reader.indexes.now concepts places.items)
    (c.as_slice.ensures.value ∙ c.in_ok-concepts.ensures.items) are)
    c.places_of_concepts.ensures
