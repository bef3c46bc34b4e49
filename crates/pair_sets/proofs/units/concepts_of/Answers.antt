use Rattle.std.proofs.Common.{ℕ, ◌<◌, ◌∙◌, ◌∷◌, ◌++◌, [], All, get_or, length, map, slice_get, slice_index, take, sym}
use Rattle.std.proofs.Common.{ap, subst, arith}
use Rattle.std.proofs.lemmas.List.{map-append, take_all, take_more}
use Rattle.std.proofs.lemmas.List.Elements.{All-append}
use Rattle.postings.specs.Groups.{groups_in}
use Rattle.candidates.specs.Groups.{concept_in}
use Rattle.pair_sets.proofs.TimesLemmas.{one_below}
use Rattle.pair_sets.proofs.GroupNumberLemmas.{concept_told}
use Rattle.pair_sets.proofs.units.concepts_of.Goals as goal

-- before the first group, no concept is found
pub loop-group-init : goal.loop-group-init
loop-group-init c = record {
  within = subst (All (λ concept. concept < length c.args.reader.indexes.now.concepts)) (sym c.new-found.ensures.items)
      (λ k d within. absurd (omega (arith, within)));
  concepts = ap (map (slice_index c.args.reader.indexes.now.concepts)) c.new-found.ensures.items;
}

-- the concept of the group at hand is appended to those of the groups before
pub loop-group-preserved : goal.loop-group-preserved
loop-group-preserved c =
    let concepts = c.args.reader.indexes.now.concepts in
    let groups = groups_in c.args.reader.indexes.now in
    let numbers = c.args.groups.now in
    let k = c.loop-group.group-index in
    let concept_at : ℕ → ℕ = λ group. concept_in (slice_get groups group) in
    record {
      within = subst (All (λ concept. concept < length concepts)) (sym c.in_ok-push.ensures.items)
          (All-append (λ concept. concept < length concepts) c.loop-group.found.items (c.unit_concept.result ∷ [])
          c.loop-group.invariant.within
          (one_below (length concepts) c.unit_concept.result c.unit_concept.ensures.within));
      concepts = ap (map (slice_index concepts)) c.in_ok-push.ensures.items
          ∙ map-append (slice_index concepts) c.loop-group.found.items (c.unit_concept.result ∷ [])
          ∙ (λ i. c.loop-group.invariant.concepts i
          ++ concept_told groups (get_or numbers k 0) (slice_index concepts c.unit_concept.result)
          (c.requires k 0 c.loop-group-test.true) c.unit_concept.ensures.concept i ∷ [])
          ∙ sym (map-append concept_at (take k numbers) (get_or numbers k 0 ∷ []))
          ∙ ap (map concept_at) (sym (take_more numbers k 0 c.loop-group-test.true));
    }

-- after the last group, the concepts found are numbers of concepts
pub returns-clause-within : goal.returns-clause-within
returns-clause-within c = c.loop-group.invariant.within

-- after the last group, the concepts found are those of all groups
pub returns-clause-concepts : goal.returns-clause-concepts
returns-clause-concepts c =
    c.loop-group.invariant.concepts
    ∙ ap (map (λ group. concept_in (slice_get (groups_in c.args.reader.indexes.now) group)))
    (take_all c.loop-group.group-index c.args.groups.now (omega arith))
