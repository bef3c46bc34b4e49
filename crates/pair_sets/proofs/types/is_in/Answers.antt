use Rattle.std.proofs.Common.{ℕ, ◌<◌, ◌∙◌, sym, ap, subst}
use Rattle.std.specs.Prelude.{All}
use Rattle.candidates.specs.Numbers.{is_one_of}
use Rattle.number_lists.proofs.RisingLemmas.{all_below}
use Rattle.candidates.proofs.Normal.{concept_number-Some}
use Rattle.pair_sets.proofs.PassingLemmas.{none_by_number, one_by_number}
use Rattle.pair_sets.proofs.types.is_in.Goals as goal

-- a concept is in the set exactly if the set has its number
pub returns-in-Some : goal.returns-in-Some
returns-in-Some g c =
    let concepts = c.args.reader.indexes.now.concepts in
    let items = g.S.ConceptSet.items_of c.args.set.now in
    let found = concept_number-Some concepts c.args.id c.in-Some.concept (sym c.index_of.ensures.indexed
    ∙ c.in-Some.is) in
    c.has.ensures
    ∙ sym (one_by_number concepts c.concept_count.ensures.numbers_rise items
    (subst (λ (count : ℕ). All (λ item. item < count) items) c.requires
    (all_below (g.S.ConceptSet.bound_of c.args.set.now) items (g.met.S.ConceptSet.rising c.args.set.now)))
    c.in-Some.concept found.0)
    ∙ ap (is_one_of concepts items) found.1

-- an identifier without a number is not in the set
pub returns-in-None : goal.returns-in-None
returns-in-None g c =
    let concepts = c.args.reader.indexes.now.concepts in
    let items = g.S.ConceptSet.items_of c.args.set.now in
    sym (none_by_number concepts items
    (subst (λ (count : ℕ). All (λ item. item < count) items) c.requires
    (all_below (g.S.ConceptSet.bound_of c.args.set.now) items (g.met.S.ConceptSet.rising c.args.set.now)))
    c.args.id (sym c.index_of.ensures.indexed ∙ c.in-None.is))
