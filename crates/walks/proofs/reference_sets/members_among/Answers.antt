use Rattle.std.proofs.Common.{ℕ, List, ◌≡◌, ◌<◌, ◌∙◌, length, sym, ap, subst}
use Rattle.std.specs.Prelude.{All, filter}
use Rattle.std.proofs.lemmas.Result.{IfOk-weaker}
use Rattle.number_lists.specs.Rising.{IsRisingBelow}
use Rattle.number_lists.proofs.RisingLemmas.{rises_within-filter}
use Rattle.walks.specs.inside.Components.{is_in_one_of}
use Rattle.walks.proofs.MemberLemmas.{members_asked}
use Rattle.walks.proofs.reference_sets.members_among.Goals as goal

-- the components among the items of `wanted` rise
pub from_items-requires : goal.from_items-requires
from_items-requires g c =
    let wanted = g.S.ConceptSet.items_of c.args.wanted.now in
    let asked = is_in_one_of c.args.reader.indexes.now.members c.args.refsets.now in
    let own : c.as_slice.result.now ≡ wanted = c.as_slice.ensures.value ∙ c.in_ok-own.ensures.items in
    let kept : c.as_slice-2.result.now ≡ filter asked wanted = c.as_slice-2.ensures.value ∙ c.in_ok-kept.ensures
    ∙ ap (filter asked) own in
    subst (λ (bound : ℕ). IsRisingBelow bound c.as_slice-2.result.now) (sym c.concept_count.ensures.count)
    (subst (IsRisingBelow (length c.args.reader.snapshot.now.release.concepts)) (sym kept)
    (rises_within-filter 0 (length c.args.reader.snapshot.now.release.concepts) asked wanted
    (subst (λ (bound : ℕ). IsRisingBelow bound wanted) c.requires.wanted
    (g.met.S.ConceptSet.rising c.args.wanted.now))))

-- the items of `wanted` in the list of a reference set are the components that the release denotes within `wanted`
pub returns-clause-items : goal.returns-clause-items
returns-clause-items g c =
    let release = c.args.reader.snapshot.now.release in
    let refsets : List ℕ = c.args.refsets.now in
    let wanted = g.S.ConceptSet.items_of c.args.wanted.now in
    let below : All (λ refset. refset < length release.concepts) refsets =
    subst (λ (ids : List ℕ). All (λ refset. refset < length ids) refsets) c.args.reader.index.concepts
    c.requires.below in
    let own : c.as_slice.result.now ≡ wanted = c.as_slice.ensures.value ∙ c.in_ok-own.ensures.items in
    IfOk-weaker c.from_items.result _ _
    (λ found same.
    same ∙ c.as_slice-2.ensures.value ∙ c.in_ok-kept.ensures
    ∙ (λ i. filter (is_in_one_of (c.args.reader.index.members i) refsets) (own i))
    ∙ members_asked release refsets below wanted
    (subst (λ (bound : ℕ). IsRisingBelow bound wanted) c.requires.wanted (g.met.S.ConceptSet.rising c.args.wanted.now)))
    c.from_items.ensures.items
