use Rattle.std.proofs.Common.{ℕ, ◌<◌, ◌∙◌, sym, subst}
use Rattle.std.specs.Prelude.{All, slice_get}
use Rattle.postings.specs.Indexed.{types_of}
use Rattle.number_lists.proofs.RisingLemmas.{all_below}
use Rattle.pair_sets.proofs.TypeLemmas.{no_typed, typed}
use Rattle.pair_sets.proofs.types.is_typed.Goals as goal

-- a type that is a concept is in the set exactly if the set has its number
pub returns-in-Some : goal.returns-in-Some
returns-in-Some g c =
    let indexed = c.args.reader.indexes.now in
    let items = g.S.ConceptSet.items_of c.args.types.now in
    let below = subst (λ (count : ℕ). All (λ item. item < count) items) c.requires
    (all_below (g.S.ConceptSet.bound_of c.args.types.now) items (g.met.S.ConceptSet.rising c.args.types.now)) in
    c.has.ensures
    ∙ typed indexed c.concept_count.ensures.numbers_rise items below (slice_get (types_of indexed.rows) c.args.place)
    c.in-Some.concept
    (sym c.type_concept.ensures ∙ c.in-Some.is)

-- a type that is no concept is not in the set
pub returns-in-None : goal.returns-in-None
returns-in-None g c =
    let indexed = c.args.reader.indexes.now in
    let items = g.S.ConceptSet.items_of c.args.types.now in
    let below = subst (λ (count : ℕ). All (λ item. item < count) items) c.requires
    (all_below (g.S.ConceptSet.bound_of c.args.types.now) items (g.met.S.ConceptSet.rising c.args.types.now)) in
    no_typed indexed items below (slice_get (types_of indexed.rows) c.args.place) (sym c.type_concept.ensures
    ∙ c.in-None.is)
