use Rattle.std.proofs.Common.{ℕ, List, ◌∙◌, refl, sym, subst}
use Rattle.number_lists.specs.Rising.{IsRisingBelow}
use Rattle.idset.specs.Sets.{all_items}
use Rattle.idset.proofs.Normal.{all_items-swap}
use Rattle.candidates.specs.RowEstimates.{Adds}
use Rattle.candidates.proofs.AddsLemmas.{adds_both}
use Rattle.walks.specs.Related.{joined}
use Rattle.walks.specs.Families.{lists_of}
use Rattle.walks.proofs.walks.listed_or_self.Goals as goal

-- the items of the set rise below the bound of what was found
pub add_all-requires : goal.add_all-requires
add_all-requires g c =
    subst (λ (bound : ℕ). IsRisingBelow bound c.args.concepts.now) (sym c.in_ok-found.ensures.bound)
    (subst (λ (items : List ℕ). IsRisingBelow (g.S.ConceptSet.bound_of c.args.operand.now) items)
    (sym c.requires.concepts)
    (g.met.S.ConceptSet.rising c.args.operand.now))

-- the union of the joined lists and the set is the union of the set and the joined lists
pub returns-clause-items : goal.returns-clause-items
returns-clause-items g c =
    let bound = g.S.ConceptSet.bound_of c.args.operand.now in
    let items = g.S.ConceptSet.items_of c.args.operand.now in
    let others : List ℕ = joined bound (lists_of c.args.reader.indexes.now.hierarchy c.args.family) items in
    c.in_ok-add_all.ensures.items
    ∙ (λ i. all_items (c.in_ok-found.ensures.bound i) (c.in_ok-found.ensures.items i) (c.requires.concepts i))
    ∙ all_items-swap bound bound items others refl

-- the estimate that adds the joined lists and then the set adds enough for their union
pub returns-clause-adds : goal.returns-clause-adds
returns-clause-adds g c =
    let bound = g.S.ConceptSet.bound_of c.args.operand.now in
    let own = g.S.ConceptSet.items_of c.args.operand.now in
    let list = g.S.ConceptSet.items_of c.in_ok-found.found in
    subst (λ (items : List ℕ). Adds items c.args.estimate.now c.add.new.self) (sym c.in_ok-add_all.ensures.items)
    (adds_both (g.S.ConceptSet.bound_of c.in_ok-found.found) list c.args.concepts.now c.args.estimate.now
    c.listed.new.estimate c.add.new.self
    (g.met.S.ConceptSet.rising c.in_ok-found.found)
    (subst (λ (bound : ℕ). IsRisingBelow bound c.args.concepts.now) (sym c.in_ok-found.ensures.bound)
    (subst (λ (items : List ℕ). IsRisingBelow bound items) (sym c.requires.concepts)
    (g.met.S.ConceptSet.rising c.args.operand.now)))
    c.in_ok-found.ensures.adds c.add.ensures)
