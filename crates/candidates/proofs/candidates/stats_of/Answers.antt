use Rattle.std.proofs.Common.{ℕ, List, ◌<◌, ◌∙◌, All, length, sym, ap, subst}
use Rattle.number_lists.proofs.RisingLemmas.{all_below}
use Rattle.candidates.proofs.candidates.stats_of.Goals as goal

-- the items of the set are numbers of concepts
pub stats_among-requires : goal.stats_among-requires
stats_among-requires g c =
    let items = g.S.ConceptSet.items_of c.args.concepts.now in
    subst (All (λ concept. concept < length c.args.reader.indexes.now.concepts))
    (sym (c.as_slice.ensures.value ∙ c.in_ok-own.ensures.items))
    (subst (λ (bound : ℕ). All (λ concept. concept < bound) items)
    (c.requires.bound ∙ ap (λ (ids : List ℕ). length ids) (sym c.args.reader.index.concepts))
    (all_below (g.S.ConceptSet.bound_of c.args.concepts.now) items (g.met.S.ConceptSet.rising c.args.concepts.now)))

-- statistics that count nothing but the items of the set hold for its concepts
pub returns-then-are_many_compared_to-clause-stats : goal.returns-then-are_many_compared_to-clause-stats
returns-then-are_many_compared_to-clause-stats g c =
    c.uncounted.ensures.concepts c.args.reader.indexes.now (g.S.ConceptSet.items_of c.args.concepts.now)
    (sym c.count-count.ensures)
