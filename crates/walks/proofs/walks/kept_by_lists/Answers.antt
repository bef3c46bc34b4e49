use Rattle.std.proofs.Common.{ℕ, List, Vec, Bool, ◌≡◌, ◌<◌, length, not, true, false, get_or, ◌∙◌, sym, ap, append-nil}
use Rattle.std.proofs.Common.{arith}
use Rattle.std.specs.Prelude.{filter}
use Rattle.std.specs.List.{list_any}
use Rattle.std.proofs.lemmas.List.{take_all}
use Rattle.number_lists.specs.KeyedLists.{list_of}
use Rattle.number_lists.specs.Members.{has}
use Rattle.idset.proofs.Places.{filter_step}
use Rattle.walks.specs.Families.{lists_of}
use Rattle.reading.proofs.CountLemmas.{counted_all, counted_next, counted_out, counted_some}
use Rattle.walks.proofs.JoinedLemmas.{over_length}
use Rattle.walks.proofs.walks.kept_by_lists.Goals as goal
use Rattle.walks.proofs.walks.kept_by_lists.Goals.{then-not-meets+in_ok-push, else-not-meets}

-- the concept at hand has a list in the family
pub list-requires : goal.list-requires
list-requires g c =
    let below : get_or c.args.concepts.now c.loop-concept.concept-index 0 < g.S.ConceptSet.bound_of c.args.set.now =
    c.requires.below c.loop-concept.concept-index 0 c.loop-concept-test.true in
    omega (
      arith,
      below,
      over_length (g.S.ConceptSet.bound_of c.args.set.now) c.args.reader.indexes.now.hierarchy
          c.requires.over c.args.family,
    )

-- the concept at hand is kept if its list has none of the set, and its list is counted
pub loop-concept-preserved : goal.loop-concept-preserved
loop-concept-preserved g c =
    let none : List ℕ → Bool = λ list. not (list_any (has (g.S.ConceptSet.items_of c.args.set.now)) list) in
    let lists = lists_of c.args.reader.indexes.now.hierarchy c.args.family in
    let test : ℕ → Bool = λ concept. none (list_of lists concept) in
    let k = c.loop-concept.concept-index in
    let asked : not c.meets.result ≡ test (get_or c.args.concepts.now k 0) =
    ap not c.meets.ensures ∙ ap none c.list.ensures.items in
    record {
      kept = elim c.if-not-meets.branch [
        | then-not-meets+in_ok-push w ↦
            filter_step test c.args.concepts.now c.loop-concept.kept.items c.if-not-meets.kept.items k true
            c.loop-concept-test.true c.loop-concept.invariant.kept (sym (ap not w.if-not-meets.true) ∙ asked)
            (ap (λ (kept : Vec ℕ _). kept.items) w.kept-is ∙ w.in_ok-push.ensures.items)
        | else-not-meets w ↦
            filter_step test c.args.concepts.now c.loop-concept.kept.items c.if-not-meets.kept.items k false
            c.loop-concept-test.true c.loop-concept.invariant.kept (sym (ap not w.if-not-meets.false) ∙ asked)
            (ap (λ (kept : Vec ℕ _). kept.items) w.kept-is ∙ sym (append-nil c.loop-concept.kept.items))
      ];
      counted = counted_next (λ concept. length (list_of lists concept)) c.args.concepts.now k c.loop-concept-test.true
          c.loop-concept.invariant.counted (counted_out c.list.ensures.counted (omega arith));
    }

-- if memory is refused at a concept, the lists up to its own are counted
pub returns-in_err-push-clause-counted : goal.returns-in_err-push-clause-counted
returns-in_err-push-clause-counted g c =
    counted_some (λ concept. length (list_of (lists_of c.args.reader.indexes.now.hierarchy c.args.family) concept))
    c.args.concepts.now c.loop-concept.concept-index c.loop-concept-test.true c.loop-concept.invariant.counted
    (counted_out c.list.ensures.counted (omega arith))

-- after the last concept, the lists of all are counted
pub returns-clause-counted : goal.returns-clause-counted
returns-clause-counted g c =
    counted_all (λ concept. length (list_of (lists_of c.args.reader.indexes.now.hierarchy c.args.family) concept))
    c.args.concepts.now c.loop-concept.concept-index c.loop-concept.invariant.counted

-- after the last concept, those of all are kept whose list has none of the set
pub returns-clause-kept : goal.returns-clause-kept
returns-clause-kept g c =
    let test : ℕ → Bool = λ concept. not (list_any (has (g.S.ConceptSet.items_of c.args.set.now))
    (list_of (lists_of c.args.reader.indexes.now.hierarchy c.args.family) concept)) in
    c.loop-concept.invariant.kept
    ∙ ap (filter test) (take_all c.loop-concept.concept-index c.args.concepts.now (omega arith))
