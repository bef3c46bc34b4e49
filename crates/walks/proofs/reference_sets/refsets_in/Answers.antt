use Rattle.std.proofs.Common.{ℕ, List, ◌∙◌, length, sym, ap, subst}
use Rattle.std.specs.Prelude.{filter}
use Rattle.std.proofs.lemmas.Result.{IfOk-weaker}
use Rattle.number_lists.specs.Rising.{IsRisingBelow}
use Rattle.number_lists.specs.Members.{has}
use Rattle.postings.specs.Indexed.{with_members}
use Rattle.walks.specs.inside.Components.{HaveComponentsOf}
use Rattle.walks.proofs.MemberLemmas.{own_components, with_members_enough}
use Rattle.walks.proofs.reference_sets.refsets_in.Goals as goal

-- the reference sets of the release that are in the set have all components that the set has
pub returns-then-known-listed-clause-refsets : goal.returns-then-known-listed-clause-refsets
returns-then-known-listed-clause-refsets g c =
    let release = c.args.reader.snapshot.now.release in
    let items = g.S.ConceptSet.items_of c.args.from.now in
    IfOk-weaker c.refsets_among.result _ _
    (λ kept are.
    subst (HaveComponentsOf release items)
    (sym (are ∙ ap (filter (has items)) (c.reference_sets-refsets.ensures.items
    ∙ ap with_members c.args.reader.index.members)))
    (with_members_enough release items
    (subst (λ (bound : ℕ). IsRisingBelow bound items) c.requires (g.met.S.ConceptSet.rising c.args.from.now))))
    c.refsets_among.ensures

-- the concepts of the set have all components that the set has
pub returns-clause-refsets : goal.returns-clause-refsets
returns-clause-refsets g c =
    let release = c.args.reader.snapshot.now.release in
    let items = g.S.ConceptSet.items_of c.args.from.now in
    IfOk-weaker c.items.result _ _
    (λ numbers same.
    subst (HaveComponentsOf release items) (sym same)
    (own_components release items
    (subst (λ (bound : ℕ). IsRisingBelow bound items) c.requires (g.met.S.ConceptSet.rising c.args.from.now))))
    c.items.ensures.items
