use Rattle.std.proofs.Common.{ℕ, List, ◌≡◌, ◌<◌, ◌+◌, not, ◌&&◌, ◌∙◌, length, get_or, sym, ap, subst, arith}
use Rattle.std.specs.Prelude.{All}
use Rattle.number_lists.specs.KeyedLists.{list_of}
use Rattle.number_lists.specs.Rising.{IsRisingBelow, numbers_where}
use Rattle.idset.specs.Sets.{all_items}
use Rattle.number_lists.specs.Members.{has}
use Rattle.idset.specs.Words.{is_set}
use Rattle.walks.specs.inside.Joined.{AreJoined, direct_of, turn_of}
use Rattle.walks.specs.Families.{lists_of}
use Rattle.number_lists.proofs.RisingLemmas.{all_below}
use Rattle.walks.proofs.ReachedLemmas.{IsPassed, all_among, direct_rises, direct_there, pass_counted, passed_all}
use Rattle.walks.proofs.ReachedLemmas.{passed_first, passed_on, passed_over, turn_within}
use Rattle.walks.proofs.reached.reached.Goals as goal
use Rattle.walks.proofs.reached.reached.Goals.{then-is_in_difference+in_ok-add_all, else-is_in_difference}

-- the place of a turn fits in `usize`
pub offset_bounds-order-place_of_turn : goal.offset_bounds-order-place_of_turn
offset_bounds-order-place_of_turn g c =
    let order = c.parents_first-order.result.now in
    let below : turn_of c.args.family (length order) c.loop-turn.turn < length order =
    turn_within (length order) c.args.family c.loop-turn.turn c.loop-turn-test.true in
    omega arith

-- the place of a turn is within the order
pub bounds-order-place_of_turn : goal.bounds-order-place_of_turn
bounds-order-place_of_turn g c =
    let order = c.parents_first-order.result.now in
    subst (λ (place : ℕ). place < length order) (sym c.place_of_turn.ensures)
    (turn_within (length order) c.args.family c.loop-turn.turn c.loop-turn-test.true)

-- the joined direct lists of the set are what the pass has found before the first turn
pub loop-turn-init : goal.loop-turn-init
loop-turn-init g c =
    let release = c.args.reader.snapshot.now.release in
    let order = c.parents_first-order.result.now in
    let count = g.S.ConceptSet.bound_of c.args.set.now in
    let hierarchy = c.args.reader.indexes.now.hierarchy in
    let f = c.args.family in
    let items = g.S.ConceptSet.items_of c.args.set.now in
    let found : List ℕ = numbers_where c.in_ok-found.found.bound (is_set c.in_ok-found.found.words.items) in
    record {
      passed =
          passed_first release order c.concept_count.ensures.rising c.parents_first-order.ensures.order count hierarchy
          c.requires.over f c.requires.whole items (g.met.S.ConceptSet.rising c.args.set.now) found
          (subst (λ (own : List ℕ). AreJoined (lists_of hierarchy (direct_of f)) own found) c.requires.concepts
          c.in_ok-found.ensures.joined);
      bound = c.in_ok-found.ensures.bound ∙ c.bound.ensures;
    }

-- the items of the set are below its bound
pub direct_of_all-requires-clause-below : goal.direct_of_all-requires-clause-below
direct_of_all-requires-clause-below g c =
    let count = g.S.ConceptSet.bound_of c.args.set.now in
    let items = g.S.ConceptSet.items_of c.args.set.now in
    subst (λ (bound : ℕ). All (λ concept. concept < bound) c.args.concepts.now) (sym c.bound.ensures)
    (subst (λ (concepts : List ℕ). All (λ concept. concept < count) concepts) (sym c.requires.concepts)
    (all_below count items (g.met.S.ConceptSet.rising c.args.set.now)))

-- the concept of a turn has a direct list
pub of-requires : goal.of-requires
of-requires g c =
    let release = c.args.reader.snapshot.now.release in
    let order = c.parents_first-order.result.now in
    let count = g.S.ConceptSet.bound_of c.args.set.now in
    let hierarchy = c.args.reader.indexes.now.hierarchy in
    let f = c.args.family in
    let items = g.S.ConceptSet.items_of c.args.set.now in
    subst (λ (lists : List (List ℕ)). get_or order c.place_of_turn.result 0 < length lists)
    (sym c.direct_lists-direct.ensures.lists)
    (subst (λ (place : ℕ). get_or order place 0 < length (lists_of hierarchy (direct_of f)))
    (sym c.place_of_turn.ensures)
    (direct_there release order c.concept_count.ensures.rising c.parents_first-order.ensures.order count hierarchy
    c.requires.over f c.requires.whole items (g.met.S.ConceptSet.rising c.args.set.now) c.loop-turn.turn
    c.loop-turn-test.true))

-- the direct list of the concept of a turn rises below the bound of the set
pub add_all-requires : goal.add_all-requires
add_all-requires g c =
    let release = c.args.reader.snapshot.now.release in
    let order = c.parents_first-order.result.now in
    let count = g.S.ConceptSet.bound_of c.args.set.now in
    let hierarchy = c.args.reader.indexes.now.hierarchy in
    let f = c.args.family in
    let items = g.S.ConceptSet.items_of c.args.set.now in
    let turn = c.loop-turn.turn in
    let listed : c.of.result.now
    ≡ list_of (lists_of hierarchy (direct_of f)) (get_or order (turn_of f (length order) turn) 0) =
    c.of.ensures ∙ (λ i. list_of (c.direct_lists-direct.ensures.lists i)
    (get_or order (c.place_of_turn.ensures i) 0)) in
    subst (λ (bound : ℕ). IsRisingBelow bound c.of.result.now) (sym c.loop-turn.invariant.bound)
    (subst (λ (list : List ℕ). IsRisingBelow count list) (sym listed)
    (direct_rises release order c.concept_count.ensures.rising c.parents_first-order.ensures.order count hierarchy
    c.requires.over f c.requires.whole items (g.met.S.ConceptSet.rising c.args.set.now) turn c.loop-turn-test.true))

-- a turn adds the direct list of its concept exactly if that is found and not in the set
pub loop-turn-preserved : goal.loop-turn-preserved
loop-turn-preserved g c =
    let release = c.args.reader.snapshot.now.release in
    let order = c.parents_first-order.result.now in
    let count = g.S.ConceptSet.bound_of c.args.set.now in
    let hierarchy = c.args.reader.indexes.now.hierarchy in
    let f = c.args.family in
    let items = g.S.ConceptSet.items_of c.args.set.now in
    let turn = c.loop-turn.turn in
    let found : List ℕ = numbers_where c.loop-turn.found.bound (is_set c.loop-turn.found.words.items) in
    let concept : ℕ = get_or order (turn_of f (length order) turn) 0 in
    let asked : (has found concept && not (has items concept)) ≡ c.is_in_difference.result =
    (λ i. has found (get_or order (sym c.place_of_turn.ensures i) 0)
    && not (has items (get_or order (sym c.place_of_turn.ensures i) 0)))
    ∙ sym c.is_in_difference.ensures in
    elim c.if-is_in_difference.branch [
      | then-is_in_difference+in_ok-add_all w ↦ record {
        passed =
            subst (IsPassed (lists_of hierarchy f) (lists_of hierarchy (direct_of f))
            (λ turn. get_or order (turn_of f (length order) turn) 0) (turn + 1) items)
            (sym (ap (λ (set : _). numbers_where set.bound (is_set set.words.items)) w.found-is))
            (passed_on release order c.concept_count.ensures.rising c.parents_first-order.ensures.order count hierarchy
            c.requires.over f c.requires.whole items (g.met.S.ConceptSet.rising c.args.set.now) turn found
            w.of.result.now (numbers_where w.add_all.new.self.bound (is_set w.add_all.new.self.words.items))
            c.loop-turn-test.true
            (subst (λ (bound : ℕ). IsRisingBelow bound found) c.loop-turn.invariant.bound c.loop-turn.found.rising)
            (w.of.ensures
            ∙ (λ i. list_of (c.direct_lists-direct.ensures.lists i) (get_or order (c.place_of_turn.ensures i) 0)))
            (w.in_ok-add_all.ensures.items ∙ (λ i. all_items (c.loop-turn.invariant.bound i) found w.of.result.now))
            (asked ∙ w.if-is_in_difference.true) c.loop-turn.invariant.passed);
        bound = ap (λ (set : _). set.bound) w.found-is ∙ w.in_ok-add_all.ensures.bound ∙ c.loop-turn.invariant.bound;
      }
      | else-is_in_difference w ↦ record {
        passed =
            subst (IsPassed (lists_of hierarchy f) (lists_of hierarchy (direct_of f))
            (λ turn. get_or order (turn_of f (length order) turn) 0) (turn + 1) items)
            (sym (ap (λ (set : _). numbers_where set.bound (is_set set.words.items)) w.found-is))
            (passed_over release order c.concept_count.ensures.rising c.parents_first-order.ensures.order count
            hierarchy
            c.requires.over f c.requires.whole items (g.met.S.ConceptSet.rising c.args.set.now) turn found
            (asked ∙ w.if-is_in_difference.false) c.loop-turn.invariant.passed);
        bound = ap (λ (set : _). set.bound) w.found-is ∙ c.loop-turn.invariant.bound;
      }
    ]

-- if all that was found first is in the set, it is the joined lists of the set
pub returns-then-closed-clause-joined : goal.returns-then-closed-clause-joined
returns-then-closed-clause-joined g c =
    let release = c.args.reader.snapshot.now.release in
    let order = c.parents_first-order.result.now in
    let count = g.S.ConceptSet.bound_of c.args.set.now in
    let hierarchy = c.args.reader.indexes.now.hierarchy in
    let f = c.args.family in
    let items = g.S.ConceptSet.items_of c.args.set.now in
    let found : List ℕ = numbers_where c.in_ok-found.found.bound (is_set c.in_ok-found.found.words.items) in
    all_among release order c.concept_count.ensures.rising c.parents_first-order.ensures.order count hierarchy
    c.requires.over f c.requires.whole items (g.met.S.ConceptSet.rising c.args.set.now) found
    (subst (λ (own : List ℕ). AreJoined (lists_of hierarchy (direct_of f)) own found) c.requires.concepts
    c.in_ok-found.ensures.joined)
    (sym c.in_ok-closed.ensures ∙ c.if-closed.true)

-- after the last turn, the joined lists of the set are found
pub returns-clause-joined : goal.returns-clause-joined
returns-clause-joined g c =
    let release = c.args.reader.snapshot.now.release in
    let order = c.parents_first-order.result.now in
    let count = g.S.ConceptSet.bound_of c.args.set.now in
    let hierarchy = c.args.reader.indexes.now.hierarchy in
    let f = c.args.family in
    let items = g.S.ConceptSet.items_of c.args.set.now in
    passed_all release order c.concept_count.ensures.rising c.parents_first-order.ensures.order count hierarchy
    c.requires.over f c.requires.whole items (g.met.S.ConceptSet.rising c.args.set.now) c.loop-turn.turn
    (numbers_where c.loop-turn.found.bound (is_set c.loop-turn.found.words.items)) (omega arith)
    c.loop-turn.invariant.passed

-- if memory is refused for the direct lists, no more is counted than a pass reads
pub returns-in_err-found-clause-counted : goal.returns-in_err-found-clause-counted
returns-in_err-found-clause-counted g c =
    pass_counted c.args.reader.snapshot.now.release c.args.reader.indexes.now.hierarchy
    (g.S.ConceptSet.bound_of c.args.set.now) c.parents_first-order.result.now c.requires.over.count_is
    c.parents_first-order.ensures.order c.direct_lists-direct.ensures.counted c.parents_first-order.ensures.counted

-- if memory is refused in the comparison with the set, no more is counted than a pass reads
pub returns-in_err-closed-clause-counted : goal.returns-in_err-closed-clause-counted
returns-in_err-closed-clause-counted g c =
    pass_counted c.args.reader.snapshot.now.release c.args.reader.indexes.now.hierarchy
    (g.S.ConceptSet.bound_of c.args.set.now) c.parents_first-order.result.now c.requires.over.count_is
    c.parents_first-order.ensures.order c.direct_lists-direct.ensures.counted c.parents_first-order.ensures.counted

-- if the direct lists are enough, no more is counted than a pass reads
pub returns-then-closed-clause-counted : goal.returns-then-closed-clause-counted
returns-then-closed-clause-counted g c =
    pass_counted c.args.reader.snapshot.now.release c.args.reader.indexes.now.hierarchy
    (g.S.ConceptSet.bound_of c.args.set.now) c.parents_first-order.result.now c.requires.over.count_is
    c.parents_first-order.ensures.order c.direct_lists-direct.ensures.counted c.parents_first-order.ensures.counted

-- if memory is refused in a turn, no more is counted than a pass reads
pub returns-in_err-add_all-clause-counted : goal.returns-in_err-add_all-clause-counted
returns-in_err-add_all-clause-counted g c =
    pass_counted c.args.reader.snapshot.now.release c.args.reader.indexes.now.hierarchy
    (g.S.ConceptSet.bound_of c.args.set.now) c.parents_first-order.result.now c.requires.over.count_is
    c.parents_first-order.ensures.order c.direct_lists-direct.ensures.counted c.parents_first-order.ensures.counted

-- after the last turn, no more is counted than a pass reads
pub returns-clause-counted : goal.returns-clause-counted
returns-clause-counted g c =
    pass_counted c.args.reader.snapshot.now.release c.args.reader.indexes.now.hierarchy
    (g.S.ConceptSet.bound_of c.args.set.now) c.parents_first-order.result.now c.requires.over.count_is
    c.parents_first-order.ensures.order c.direct_lists-direct.ensures.counted c.parents_first-order.ensures.counted
