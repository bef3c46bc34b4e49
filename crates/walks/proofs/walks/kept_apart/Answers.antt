use Rattle.std.proofs.Common.{ℕ, List, Bool, not, ◌&&◌, ◌<◌, ◌∙◌, sym, ap, subst, arith}
use Rattle.std.specs.Prelude.{All, IfSome, Option, filter, slice_index_or}
use Rattle.std.specs.List.{list_any}
use Rattle.std.proofs.lemmas.Result.{IfOk-weaker}
use Rattle.std.proofs.lemmas.List.Elements.{All-filter}
use Rattle.number_lists.specs.KeyedLists.{list_of}
use Rattle.number_lists.specs.Members.{has}
use Rattle.number_lists.proofs.BlockLemmas.{filter-twice, filter-within}
use Rattle.walks.specs.inside.Counts.{HasRoom}
use Rattle.walks.specs.inside.Joined.{direct_of}
use Rattle.walks.specs.Related.{IsOver}
use Rattle.walks.specs.Families.{items_in, lists_of}
use Rattle.walks.specs.declared.family.Family.{Family}
use Rattle.walks.proofs.RelatedLemmas.{apart_direct}
use Rattle.reading.proofs.CountLemmas.{counted_both, counted_in}
use Rattle.number_lists.specs.Rising.{IsRisingBelow}
use Rattle.walks.proofs.ReadLemmas.{items_of_kept, items_of_set}
use Rattle.walks.proofs.walks.kept_apart.Goals as goal

-- the concepts that are left after their direct lists are some of the concepts, so they are below the bound of the set
pub kept_in_room-requires-clause-below : goal.kept_in_room-requires-clause-below
kept_in_room-requires-clause-below g c =
    let set = has (g.S.ConceptSet.items_of c.args.set.now) in
    subst (λ (concepts : List ℕ). All (λ concept. concept < g.S.ConceptSet.bound_of c.args.set.now) concepts)
    (sym (c.as_slice.ensures.value ∙ c.in_ok-left.ensures.kept))
    (All-filter (λ concept. not (list_any set (list_of (lists_of c.args.reader.indexes.now.hierarchy c.direct.result)
    concept)))
    (λ concept. concept < g.S.ConceptSet.bound_of c.args.set.now) c.args.concepts.now c.requires.below)

-- the lists of the concepts that are left have no more items than those of all, so a pass has room if they have too
-- many
pub kept_in_room-requires-clause-pass : goal.kept_in_room-requires-clause-pass
kept_in_room-requires-clause-pass g c more =
    let lists = lists_of c.args.reader.indexes.now.hierarchy c.args.family in
    let left : ℕ → Bool = λ concept. not (list_any (has (g.S.ConceptSet.items_of c.args.set.now))
    (list_of (lists_of c.args.reader.indexes.now.hierarchy c.direct.result) concept)) in
    let room : HasRoom c.args.reader.indexes.now.hierarchy c.args.family (g.S.ConceptSet.bound_of c.args.set.now)
    c.args.concepts.now c.in-Some.room =
    subst (λ (direct_first : Option ℕ). IfSome direct_first (HasRoom c.args.reader.indexes.now.hierarchy c.args.family
    (g.S.ConceptSet.bound_of c.args.set.now) c.args.concepts.now)) c.in-Some.is c.requires.room in
    room.pass
    (omega (
      arith,
      more,
      ap (items_in lists) (c.as_slice.ensures.value ∙ c.in_ok-left.ensures.kept),
      items_of_kept lists left c.args.concepts.now,
    ))

-- to test the direct lists and then the whole lists keeps those that a test of the whole lists alone keeps
pub returns-clause-kept : goal.returns-clause-kept
returns-clause-kept g c =
    let count = g.S.ConceptSet.bound_of c.args.set.now in
    let items = g.S.ConceptSet.items_of c.args.set.now in
    let over : IsOver count c.args.reader.indexes.now.hierarchy = record {
      release = c.args.reader.snapshot.now.release;
      hierarchy_is = c.requires.over.hierarchy_is;
      count_is = c.requires.over.count_is;
    } in
    let none : Family → ℕ → Bool =
    λ family concept. not (list_any (has items)
    (list_of (lists_of c.args.reader.indexes.now.hierarchy family) concept)) in
    let direct = none (direct_of c.args.family) in
    let far = none c.args.family in
    IfOk-weaker c.kept_in_room.result _ _
    (λ kept same.
    same
    ∙ ap (filter far) (c.as_slice.ensures.value ∙ c.in_ok-left.ensures.kept
    ∙ (λ i. filter (none (c.direct.ensures i)) c.args.concepts.now))
    ∙ filter-twice far direct c.args.concepts.now
    ∙ filter-within (λ concept. direct concept && far concept) far c.args.concepts.now
    (λ k d inside.
    apart_direct count c.args.reader.indexes.now.hierarchy over items (g.met.S.ConceptSet.rising c.args.set.now)
    c.args.family
    (slice_index_or c.args.concepts.now k d) (c.requires.below k d inside)))
    c.kept_in_room.ensures.kept

-- without direct lists, no more is counted than the lists of the concepts have
pub returns-in_default-clause-counted : goal.returns-in_default-clause-counted
returns-in_default-clause-counted g c =
    let over : IsOver (g.S.ConceptSet.bound_of c.args.set.now) c.args.reader.indexes.now.hierarchy = record {
      release = c.args.reader.snapshot.now.release;
      hierarchy_is = c.requires.over.hierarchy_is;
      count_is = c.requires.over.count_is;
    } in
    counted_in c.kept_by_lists.ensures.counted
    (items_of_set (g.S.ConceptSet.bound_of c.args.set.now) c.args.reader.indexes.now.hierarchy over c.args.family
    c.args.concepts.now
    (subst (IsRisingBelow (g.S.ConceptSet.bound_of c.args.set.now)) (sym c.requires.concepts)
    (g.met.S.ConceptSet.rising c.args.set.now)))

-- no more is counted than the direct lists and the room after them
pub returns-clause-counted : goal.returns-clause-counted
returns-clause-counted g c =
    let room : HasRoom c.args.reader.indexes.now.hierarchy c.args.family (g.S.ConceptSet.bound_of c.args.set.now)
    c.args.concepts.now c.in-Some.room =
    subst (λ (direct_first : Option ℕ). IfSome direct_first (HasRoom c.args.reader.indexes.now.hierarchy c.args.family
    (g.S.ConceptSet.bound_of c.args.set.now) c.args.concepts.now)) c.in-Some.is c.requires.room in
    counted_both c.kept_by_lists-2.ensures.counted c.kept_in_room.ensures.counted
    (omega (
      arith,
      room.direct,
      ap (λ (family : Family). items_in (lists_of c.args.reader.indexes.now.hierarchy family) c.args.concepts.now)
          c.direct.ensures,
    ))
