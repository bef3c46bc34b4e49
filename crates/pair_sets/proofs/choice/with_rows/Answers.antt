use Rattle.std.proofs.Common.{ℕ, ◌<◌, ◌∙◌, All, length, sym, subst}
use Rattle.number_lists.specs.Rising.{IsRisingBelow}
use Rattle.pair_sets.proofs.RoomLemmas.{source_rows_few}
use Rattle.number_lists.proofs.RisingLemmas.{all_below}
use Rattle.pair_sets.proofs.choice.with_rows.Goals as goal

-- the items of the set are numbers of concepts
pub rows_of_values-rows-requires : goal.rows_of_values-rows-requires
rows_of_values-rows-requires g c =
    let count : ℕ = length c.args.reader.indexes.now.concepts in
    let set = c.args.concepts.now in
    subst (All (λ number. number < count)) (sym (c.as_slice.ensures.value ∙ c.in_ok-own.ensures.items))
    (subst (λ (bound : ℕ). All (λ number. number < bound) (g.S.ConceptSet.items_of set)) c.requires
    (all_below (g.S.ConceptSet.bound_of set) (g.S.ConceptSet.items_of set) (g.met.S.ConceptSet.rising set)))

-- if memory is refused, the concepts of the set still have no more rows than there are in all
pub returns-in_err-own-clause-few : goal.returns-in_err-own-clause-few
returns-in_err-own-clause-few g c =
    let items = g.S.ConceptSet.items_of c.args.concepts.now in
    source_rows_few c.args.reader.indexes.now c.concept_count.ensures.numbers_rise items
    (subst (λ (n : ℕ). IsRisingBelow n items) c.requires (g.met.S.ConceptSet.rising c.args.concepts.now))

-- the concepts of the set have no more rows than there are in all
pub returns-clause-few : goal.returns-clause-few
returns-clause-few g c =
    let items = g.S.ConceptSet.items_of c.args.concepts.now in
    source_rows_few c.args.reader.indexes.now c.concept_count.ensures.numbers_rise items
    (subst (λ (n : ℕ). IsRisingBelow n items) c.requires (g.met.S.ConceptSet.rising c.args.concepts.now))
