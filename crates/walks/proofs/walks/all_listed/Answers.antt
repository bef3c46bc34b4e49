use Rattle.std.proofs.Common.{ℕ, List, true, ◌∙◌, [], All, ◌<◌, sym, ap, subst, arith}
use Rattle.number_lists.specs.Members.{has}
use Rattle.number_lists.specs.Rising.{numbers_where}
use Rattle.idset.specs.Words.{is_set}
use Rattle.walks.specs.inside.Joined.{AreJoined, with_length}
use Rattle.walks.specs.Families.{lists_of}
use Rattle.number_lists.proofs.RisingLemmas.{all_below}
use Rattle.number_lists.specs.Rising.{IsRisingBelow}
use Rattle.reading.proofs.CountLemmas.{counted_both, counted_in}
use Rattle.walks.specs.Related.{IsOver}
use Rattle.walks.proofs.JoinedLemmas.{both_joined}
use Rattle.walks.proofs.ReadLemmas.{parts_within}
use Rattle.walks.proofs.walks.all_listed.Goals as goal

-- the long lists and then the short lists join the lists of all concepts of the set
pub returns-clause-joined : goal.returns-clause-joined
returns-clause-joined g c =
    let lists = lists_of c.args.reader.indexes.now.hierarchy c.args.family in
    let concepts = c.args.concepts.now in
    let found = c.add_lists-2.new.found in
    let items : List ℕ = numbers_where found.bound (is_set found.words.items) in
    let first = c.in_ok-found.found in
    let none : AreJoined lists [] (numbers_where first.bound (is_set first.words.items)) =
    λ n. ap (λ (xs : List ℕ). has xs n) c.in_ok-found.ensures.items in
    subst (λ (own : List ℕ). AreJoined lists own items) c.requires.concepts
    (both_joined lists concepts items
    (c.in_ok-short.ensures.joined c.if-not-short.false (with_length lists true concepts)
    (c.in_ok-long.ensures.joined c.if-not-long.false [] none)))

-- the concepts are below the bound of the set to which the long lists are added
pub add_lists-requires-clause-below : goal.add_lists-requires-clause-below
add_lists-requires-clause-below g c =
    subst (λ (count : ℕ). All (λ concept. concept < count) c.args.concepts.now)
    (sym (c.in_ok-found.ensures.bound ∙ c.bound-count.ensures))
    (subst (All (λ concept. concept < g.S.ConceptSet.bound_of c.args.operand.now)) (sym c.requires.concepts)
    (all_below (g.S.ConceptSet.bound_of c.args.operand.now) (g.S.ConceptSet.items_of c.args.operand.now)
    (g.met.S.ConceptSet.rising c.args.operand.now)))

-- the concepts are below the bound of the set to which the short lists are added
pub add_lists-requires-2-clause-below : goal.add_lists-requires-2-clause-below
add_lists-requires-2-clause-below g c =
    subst (λ (count : ℕ). All (λ concept. concept < count) c.args.concepts.now)
    (sym (c.add_lists.ensures.bound ∙ c.in_ok-found.ensures.bound ∙ c.bound-count.ensures))
    (subst (All (λ concept. concept < g.S.ConceptSet.bound_of c.args.operand.now)) (sym c.requires.concepts)
    (all_below (g.S.ConceptSet.bound_of c.args.operand.now) (g.S.ConceptSet.items_of c.args.operand.now)
    (g.met.S.ConceptSet.rising c.args.operand.now)))

-- the concepts whose lists are measured are below the bound of `operand`
pub has_more_items-requires-clause-below : goal.has_more_items-requires-clause-below
has_more_items-requires-clause-below g c =
    subst (λ (count : ℕ). All (λ concept. concept < count) c.args.concepts.now) (sym c.bound-count.ensures)
    (subst (All (λ concept. concept < g.S.ConceptSet.bound_of c.args.operand.now)) (sym c.requires.concepts)
    (all_below (g.S.ConceptSet.bound_of c.args.operand.now) (g.S.ConceptSet.items_of c.args.operand.now)
    (g.met.S.ConceptSet.rising c.args.operand.now)))

-- if memory is refused for the long lists, no more is counted than all lists have
pub returns-in_err-long-clause-counted : goal.returns-in_err-long-clause-counted
returns-in_err-long-clause-counted g c =
    let count = g.S.ConceptSet.bound_of c.args.operand.now in
    let over : IsOver count c.args.reader.indexes.now.hierarchy = record {
      release = c.args.reader.snapshot.now.release;
      hierarchy_is = c.requires.over.hierarchy_is;
      count_is = c.requires.over.count_is;
    } in
    let parts = parts_within count c.args.reader.indexes.now.hierarchy over c.args.family c.args.concepts.now
    (subst (IsRisingBelow count) (sym c.requires.concepts) (g.met.S.ConceptSet.rising c.args.operand.now)) in
    counted_in c.add_lists.ensures.counted (omega (arith, parts))

-- if memory is refused for the short lists, no more is counted than all lists have
pub returns-in_err-short-clause-counted : goal.returns-in_err-short-clause-counted
returns-in_err-short-clause-counted g c =
    let count = g.S.ConceptSet.bound_of c.args.operand.now in
    let over : IsOver count c.args.reader.indexes.now.hierarchy = record {
      release = c.args.reader.snapshot.now.release;
      hierarchy_is = c.requires.over.hierarchy_is;
      count_is = c.requires.over.count_is;
    } in
    counted_both c.add_lists.ensures.counted c.add_lists-2.ensures.counted
    (parts_within count c.args.reader.indexes.now.hierarchy over c.args.family c.args.concepts.now
    (subst (IsRisingBelow count) (sym c.requires.concepts) (g.met.S.ConceptSet.rising c.args.operand.now)))

-- the long lists and the short lists of the concepts have no more items than all lists
pub returns-clause-counted : goal.returns-clause-counted
returns-clause-counted g c =
    let count = g.S.ConceptSet.bound_of c.args.operand.now in
    let over : IsOver count c.args.reader.indexes.now.hierarchy = record {
      release = c.args.reader.snapshot.now.release;
      hierarchy_is = c.requires.over.hierarchy_is;
      count_is = c.requires.over.count_is;
    } in
    counted_both c.add_lists.ensures.counted c.add_lists-2.ensures.counted
    (parts_within count c.args.reader.indexes.now.hierarchy over c.args.family c.args.concepts.now
    (subst (IsRisingBelow count) (sym c.requires.concepts) (g.met.S.ConceptSet.rising c.args.operand.now)))
