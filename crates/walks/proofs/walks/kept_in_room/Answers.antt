use Rattle.std.proofs.Common.{ℕ, List, not, ◌∙◌, ap, subst, arith}
use Rattle.std.specs.Prelude.{slice_index_or}
use Rattle.std.specs.List.{list_any}
use Rattle.std.proofs.lemmas.Result.{IfOk-weaker}
use Rattle.number_lists.specs.KeyedLists.{list_of}
use Rattle.number_lists.specs.Members.{has}
use Rattle.number_lists.specs.Rising.{numbers_where}
use Rattle.idset.specs.Words.{is_set}
use Rattle.number_lists.proofs.BlockLemmas.{filter-within}
use Rattle.walks.specs.inside.Joined.{AreJoined, opposite_of, is_whole}
use Rattle.walks.specs.Related.{IsOver}
use Rattle.walks.specs.Families.{lists_of}
use Rattle.walks.specs.declared.family.Family.{Family}
use Rattle.reading.proofs.CountLemmas.{counted_full}
use Rattle.walks.proofs.RelatedLemmas.{asked_outside, opposite_is_whole}
use Rattle.walks.proofs.walks.kept_in_room.Goals as goal

-- the family that leads back from a whole family is whole
pub reached-requires-clause-whole : goal.reached-requires-clause-whole
reached-requires-clause-whole g c = ap is_whole c.opposite.ensures ∙ opposite_is_whole c.args.family c.requires.whole

-- a concept is outside what the set leads to in the family that leads back exactly if its list has none of the set
pub returns-then-items_of_lists-room-clause-kept : goal.returns-then-items_of_lists-room-clause-kept
returns-then-items_of_lists-room-clause-kept g c =
    let count = g.S.ConceptSet.bound_of c.args.set.now in
    let items = g.S.ConceptSet.items_of c.args.set.now in
    let over : IsOver count c.args.reader.indexes.now.hierarchy = record {
      release = c.args.reader.snapshot.now.release;
      hierarchy_is = c.requires.over.hierarchy_is;
      count_is = c.requires.over.count_is;
    } in
    let found : List ℕ = numbers_where c.in_ok-found.found.bound (is_set c.in_ok-found.found.words.items) in
    let joined : AreJoined (lists_of c.args.reader.indexes.now.hierarchy (opposite_of c.args.family)) items found =
    subst (λ (family : Family). AreJoined (lists_of c.args.reader.indexes.now.hierarchy family) items found)
    c.opposite.ensures c.in_ok-found.ensures.joined in
    IfOk-weaker c.kept_outside.result _ _
    (λ kept same.
    same
    ∙ filter-within (λ concept. not (has found concept))
    (λ concept. not (list_any (has items) (list_of (lists_of c.args.reader.indexes.now.hierarchy c.args.family)
    concept))) c.args.concepts.now
    (λ k d inside.
    asked_outside count c.args.reader.indexes.now.hierarchy over items (g.met.S.ConceptSet.rising c.args.set.now)
    c.args.family
    (slice_index_or c.args.concepts.now k d) (c.requires.below k d inside) found joined))
    c.kept_outside.ensures

-- the lists have no more items than `room`, so reading them counts no more
pub returns-clause-counted : goal.returns-clause-counted
returns-clause-counted g c =
    counted_full c.kept_by_lists.ensures.counted
    (omega (arith, c.items_of_lists.ensures.all (omega arith)))
