use Rattle.std.proofs.Common.{ℕ, Vec, Bool, true, false, length, ◌∙◌, sym, ap, append-nil, arith}
use Rattle.std.specs.Prelude.{filter}
use Rattle.std.proofs.lemmas.List.{take_all}
use Rattle.number_lists.specs.Members.{has}
use Rattle.idset.proofs.Places.{filter_step}
use Rattle.number_lists.specs.KeyedLists.{list_of}
use Rattle.reading.proofs.CountLemmas.{counted_all, counted_next, counted_some}
use Rattle.walks.specs.inside.Steps.{asked_of, stepped}
use Rattle.walks.specs.Families.{lists_of}
use Rattle.walks.proofs.related.those_related_to.Goals as goal
use Rattle.walks.proofs.related.those_related_to.Goals.{then-is_related_to+in_ok-push, else-is_related_to}

-- the concept at hand is below the bound of `operand`
pub is_related_to-requires-clause-below : goal.is_related_to-requires-clause-below
is_related_to-requires-clause-below g c = c.requires.below c.loop-concept.concept-index 0 c.loop-concept-test.true

-- the concept at hand is kept if the step leads to it, and its list is counted
pub loop-concept-preserved : goal.loop-concept-preserved
loop-concept-preserved g c =
    let test : ℕ → Bool =
    has (stepped (lists_of c.args.reader.indexes.now.hierarchy c.args.step.family)
    (g.S.ConceptSet.bound_of c.args.operand.now)
    c.args.step.reach (g.S.ConceptSet.items_of c.args.operand.now)) in
    let k = c.loop-concept.concept-index in
    record {
      kept = elim c.if-is_related_to.branch [
        | then-is_related_to+in_ok-push w ↦
            filter_step test c.args.concepts.now c.loop-concept.kept.items c.if-is_related_to.kept.items k true
            c.loop-concept-test.true c.loop-concept.invariant.kept (sym w.if-is_related_to.true
            ∙ c.is_related_to.ensures.related)
            (ap (λ (kept : Vec ℕ _). kept.items) w.kept-is ∙ w.in_ok-push.ensures.items)
        | else-is_related_to w ↦
            filter_step test c.args.concepts.now c.loop-concept.kept.items c.if-is_related_to.kept.items k false
            c.loop-concept-test.true c.loop-concept.invariant.kept (sym w.if-is_related_to.false
            ∙ c.is_related_to.ensures.related)
            (ap (λ (kept : Vec ℕ _). kept.items) w.kept-is ∙ sym (append-nil c.loop-concept.kept.items))
      ];
      counted = counted_next (λ concept. length (list_of
          (lists_of c.args.reader.indexes.now.hierarchy (asked_of c.args.step)) concept))
          c.args.concepts.now k c.loop-concept-test.true c.loop-concept.invariant.counted
          c.is_related_to.ensures.counted;
    }

-- if memory is refused at a concept, the lists up to its own are counted
pub returns-in_err-push-clause-counted : goal.returns-in_err-push-clause-counted
returns-in_err-push-clause-counted g c =
    counted_some (λ concept. length (list_of (lists_of c.args.reader.indexes.now.hierarchy (asked_of c.args.step))
    concept))
    c.args.concepts.now c.loop-concept.concept-index c.loop-concept-test.true c.loop-concept.invariant.counted
    c.is_related_to.ensures.counted

-- after the last concept, the lists of all are counted
pub returns-clause-counted : goal.returns-clause-counted
returns-clause-counted g c =
    counted_all (λ concept. length (list_of (lists_of c.args.reader.indexes.now.hierarchy (asked_of c.args.step))
    concept))
    c.args.concepts.now c.loop-concept.concept-index c.loop-concept.invariant.counted

-- after the last concept, those that the step leads to are kept of all
pub returns-clause-items : goal.returns-clause-items
returns-clause-items g c =
    let test : ℕ → Bool =
    has (stepped (lists_of c.args.reader.indexes.now.hierarchy c.args.step.family)
    (g.S.ConceptSet.bound_of c.args.operand.now)
    c.args.step.reach (g.S.ConceptSet.items_of c.args.operand.now)) in
    c.loop-concept.invariant.kept
    ∙ ap (filter test) (take_all c.loop-concept.concept-index c.args.concepts.now (omega arith))
