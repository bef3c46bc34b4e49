use Rattle.std.proofs.Common.{ℕ, ◌≡◌, ◌<◌, ◌∙◌, All, length, sym, subst}
use Rattle.pair_sets.specs.declared.tested.Tested.{Tested}
use Rattle.pair_sets.specs.Tested.{IsTestBelow}
use Rattle.number_lists.proofs.RisingLemmas.{all_below}
use Rattle.pair_sets.proofs.choice.values_that_pass.Goals as goal

-- the items of the test's set are numbers of concepts
pub rows_of_values-rows-requires : goal.rows_of_values-rows-requires
rows_of_values-rows-requires g c =
    let count : ℕ = length c.args.reader.indexes.now.concepts in
    let set = c.in-Within.set in
    let same : g.S.ConceptSet.bound_of set ≡ count =
    subst (λ (tested : Tested _). IsTestBelow g.S.ConceptSet.bound_of count tested) c.in-Within.is c.requires in
    subst (All (λ number. number < count)) (sym (c.as_slice.ensures.value ∙ c.in_ok-numbers-in-Within.ensures.items))
    (subst (λ (bound : ℕ). All (λ number. number < bound) (g.S.ConceptSet.items_of set)) same
    (all_below (g.S.ConceptSet.bound_of set) (g.S.ConceptSet.items_of set) (g.met.S.ConceptSet.rising set)))
