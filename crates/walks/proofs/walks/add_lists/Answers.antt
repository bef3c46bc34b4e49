use Rattle.std.proofs.Common.{ℕ, List, ◌≡◌, ◌<◌, ◌+◌, ◌++◌, ◌∷◌, [], ◌∙◌, get_or, take, refl, sym, ap, subst}
use Rattle.std.proofs.Common.{arith, append-nil}
use Rattle.std.specs.Bool.{beq}
use Rattle.std.specs.Prelude.{Option, nat_le}
use Rattle.std.proofs.lemmas.Bool.{and_parts}
use Rattle.std.proofs.lemmas.List.{take_all}
use Rattle.number_lists.specs.KeyedLists.{list_of}
use Rattle.number_lists.specs.Members.{has}
use Rattle.reading.specs.Counted.{CountsWithin}
use Rattle.reading.proofs.CountLemmas.{counted_both, counted_in, counted_none}
use Rattle.walks.specs.Families.{items_in, lists_of}
use Rattle.walks.specs.Related.{IsOver}
use Rattle.walks.specs.inside.Counts.{Spends}
use Rattle.walks.specs.inside.Joined.{AreJoined, is_long, is_whole, with_length}
use Rattle.walks.proofs.JoinedLemmas.{join_skipped, over_length, with_length_more, with_length_same}
use Rattle.walks.proofs.SpendLemmas.{items_more, items_so_far, spends_more, spends_none}
use Rattle.walks.proofs.walks.add_lists.Goals as goal
use Rattle.walks.proofs.walks.add_lists.Goals.{then-is_long-long+then-not-has_list+else-not-may_be_read+in_ok-add_list}
use Rattle.walks.proofs.walks.add_lists.Goals.{then-is_long-long+else-not-has_list, else-is_long-long}

-- before the first concept, no list is joined and nothing is counted
pub loop-concept-init : goal.loop-concept-init
loop-concept-init g c = record {
  joined = λ before joined.
      subst (λ (some : List ℕ). AreJoined (lists_of c.args.reader.indexes.now.hierarchy c.args.family) some
      (g.S.ConceptSet.items_of c.args.found.now)) (sym (append-nil before)) joined;
  bound = refl;
  counted = counted_none;
  spends = spends_none c.args.left.now c.args.visits.now;
}

-- the concept at hand has a list in the family
pub length-items-requires : goal.length-items-requires
length-items-requires g c =
    let below : get_or c.args.concepts.now c.loop-concept.concept-index 0
    < g.S.ConceptSet.bound_of c.args.found.now = c.requires.below c.loop-concept.concept-index 0
    c.loop-concept-test.true in
    omega (
      arith,
      below,
      over_length (g.S.ConceptSet.bound_of c.args.found.now) c.args.reader.indexes.now.hierarchy c.requires.over
          c.args.family,
    )

-- the hierarchy has as many concepts as the bound of the set that has grown
pub add_list-requires-clause-over : goal.add_list-requires-clause-over
add_list-requires-clause-over g c =
    subst (λ (count : ℕ). IsOver count c.args.reader.indexes.now.hierarchy) (sym c.loop-concept.invariant.bound)
    c.requires.over

-- the concept at hand is below the bound of the set that has grown
pub add_list-requires-clause-below : goal.add_list-requires-clause-below
add_list-requires-clause-below g c =
    let below : get_or c.args.concepts.now c.loop-concept.concept-index 0
    < g.S.ConceptSet.bound_of c.args.found.now = c.requires.below c.loop-concept.concept-index 0
    c.loop-concept-test.true in
    omega (arith, below, c.loop-concept.invariant.bound)

-- if memory is refused for a list, the set keeps its bound
pub returns-in_err-add_list-clause-bound : goal.returns-in_err-add_list-clause-bound
returns-in_err-add_list-clause-bound g c = c.add_list.ensures.bound ∙ c.loop-concept.invariant.bound

-- the list of the concept at hand is joined if it is chosen, and read unless the set has it already
pub loop-concept-preserved : goal.loop-concept-preserved
loop-concept-preserved g c =
    let hierarchy = c.args.reader.indexes.now.hierarchy in
    let lists = lists_of hierarchy c.args.family in
    let k = c.loop-concept.concept-index in
    let concepts = c.args.concepts.now in
    let long = c.args.long in
    let concept : ℕ = get_or concepts k 0 in
    let items_of = g.S.ConceptSet.items_of in
    let before = c.loop-concept.invariant in
    let left = c.args.left.now in
    let visits = c.args.visits.now in
    let inside = c.loop-concept-test.true in
    -- `so_far`: the concepts whose lists are joined before this turn; `next`: those after it
    let so_far : List ℕ = with_length lists long (take k concepts) in
    let next : List ℕ = with_length lists long (take (k + 1) concepts) in
    let tested : beq (is_long (list_of lists concept)) long ≡ beq c.is_long.result long =
    (λ i. beq (nat_le 64 (sym c.length-items.ensures i)) long) ∙ (λ i. beq (sym c.is_long.ensures i) long) in
    elim c.if-is_long-long.branch [
      | then-is_long-long+then-not-has_list+else-not-may_be_read+in_ok-add_list w ↦
          let read = tested ∙ w.if-is_long-long.true in
          record {
            joined = λ earlier joined.
                subst (λ (some : List ℕ). AreJoined lists some (items_of c.if-is_long-long.found))
                (sym (with_length_more lists long concepts earlier k inside read))
                (subst (λ (found : _). AreJoined lists ((earlier ++ so_far) ++ concept ∷ []) (items_of found))
                (sym w.found-is)
                (w.in_ok-add_list.ensures.joined (earlier ++ so_far) (before.joined earlier joined)));
            bound = ap g.S.ConceptSet.bound_of w.found-is ∙ w.in_ok-add_list.ensures.bound ∙ before.bound;
            counted =
                subst (CountsWithin (items_in lists next) visits) (sym w.visits-is)
                (counted_both before.counted w.add_list.ensures.counted
                (omega (arith, items_more lists long concepts k inside read)));
            spends =
                subst (λ (rest : Option ℕ). Spends left rest visits c.if-is_long-long.visits) (sym w.left-is)
                (subst (Spends left w.may_be_read.new.left visits) (sym w.visits-is)
                (spends_more left c.loop-concept.left w.may_be_read.new.left c.length-items.result visits
                c.loop-concept.visits w.add_list.new.visits before.spends
                (w.may_be_read.ensures.taken w.if-not-may_be_read.false)
                (counted_in w.add_list.ensures.counted (omega (arith, c.length-items.ensures)))));
          }
      | then-is_long-long+else-not-has_list w ↦
          let read = tested ∙ w.if-is_long-long.true in
          let there = and_parts (is_whole c.args.family) (has (items_of c.loop-concept.found) concept)
          (sym w.has_list.ensures ∙ w.if-not-has_list.false) in
          record {
            joined = λ earlier joined.
                subst (λ (some : List ℕ). AreJoined lists some (items_of c.if-is_long-long.found))
                (sym (with_length_more lists long concepts earlier k inside read))
                (subst (λ (found : _). AreJoined lists ((earlier ++ so_far) ++ concept ∷ []) (items_of found))
                (sym w.found-is)
                (join_skipped (g.S.ConceptSet.bound_of c.args.found.now) hierarchy c.requires.over c.args.family
                there.0 (earlier ++ so_far) (items_of c.loop-concept.found) concept
                (c.requires.below k 0 inside) there.1 (before.joined earlier joined)));
            bound = ap g.S.ConceptSet.bound_of w.found-is ∙ before.bound;
            counted =
                subst (CountsWithin (items_in lists next) visits) (sym w.visits-is)
                (counted_in before.counted (omega (arith, items_more lists long concepts k inside read)));
            spends =
                subst (λ (rest : Option ℕ). Spends left rest visits c.if-is_long-long.visits) (sym w.left-is)
                (subst (Spends left c.loop-concept.left visits) (sym w.visits-is) before.spends);
          }
      | else-is_long-long w ↦
          let same = with_length_same lists long concepts k inside (tested ∙ w.if-is_long-long.false) in
          record {
            joined = λ earlier joined.
                subst (λ (some : List ℕ). AreJoined lists (earlier ++ some) (items_of c.if-is_long-long.found))
                (sym same)
                (subst (λ (found : _). AreJoined lists (earlier ++ so_far) (items_of found))
                (sym w.found-is) (before.joined earlier joined));
            bound = ap g.S.ConceptSet.bound_of w.found-is ∙ before.bound;
            counted =
                subst (CountsWithin (items_in lists next) visits) (sym w.visits-is)
                (counted_in before.counted (omega (arith, ap (items_in lists) same)));
            spends =
                subst (λ (rest : Option ℕ). Spends left rest visits c.if-is_long-long.visits) (sym w.left-is)
                (subst (Spends left c.loop-concept.left visits) (sym w.visits-is) before.spends);
          }
    ]

-- if the limit stops the reading, no more is counted than the chosen lists of all concepts have
pub returns-then-not-may_be_read-clause-counted : goal.returns-then-not-may_be_read-clause-counted
returns-then-not-may_be_read-clause-counted g c =
    counted_in c.loop-concept.invariant.counted
    (items_so_far (lists_of c.args.reader.indexes.now.hierarchy c.args.family) c.args.long c.args.concepts.now
    c.loop-concept.concept-index)

-- if memory is refused for a list, no more is counted than the chosen lists of all concepts have
pub returns-in_err-add_list-clause-counted : goal.returns-in_err-add_list-clause-counted
returns-in_err-add_list-clause-counted g c =
    let lists = lists_of c.args.reader.indexes.now.hierarchy c.args.family in
    let k = c.loop-concept.concept-index in
    let long = c.args.long in
    let tested : beq (is_long (list_of lists (get_or c.args.concepts.now k 0))) long ≡ beq c.is_long.result long =
    (λ i. beq (nat_le 64 (sym c.length-items.ensures i)) long) ∙ (λ i. beq (sym c.is_long.ensures i) long) in
    counted_both c.loop-concept.invariant.counted c.add_list.ensures.counted
    (omega (
      arith,
      items_more lists long c.args.concepts.now k c.loop-concept-test.true (tested ∙ c.if-is_long-long.true),
      items_so_far lists long c.args.concepts.now (k + 1),
    ))

-- after the last concept, the chosen lists of all concepts are joined
pub returns-clause-joined : goal.returns-clause-joined
returns-clause-joined g c = λ _ before joined.
    subst (λ (some : List ℕ). AreJoined (lists_of c.args.reader.indexes.now.hierarchy c.args.family)
    (before ++ with_length (lists_of c.args.reader.indexes.now.hierarchy c.args.family) c.args.long some)
    (g.S.ConceptSet.items_of c.loop-concept.found))
    (take_all c.loop-concept.concept-index c.args.concepts.now (omega arith))
    (c.loop-concept.invariant.joined before joined)

-- after the last concept, the set still has its bound
pub returns-clause-bound : goal.returns-clause-bound
returns-clause-bound g c = c.loop-concept.invariant.bound
