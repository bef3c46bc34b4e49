use Rattle.std.proofs.Common.{ℕ, Vec, Bool, not, true, false, ◌∙◌, sym, ap, append-nil, arith}
use Rattle.std.specs.Prelude.{filter}
use Rattle.std.proofs.lemmas.List.{take_all}
use Rattle.number_lists.specs.Members.{has}
use Rattle.idset.proofs.Places.{filter_step}
use Rattle.walks.proofs.walks.kept_outside.Goals as goal
use Rattle.walks.proofs.walks.kept_outside.Goals.{then-not-has+in_ok-push, else-not-has}

-- the concept at hand is kept if it is not in the set
pub loop-concept-preserved : goal.loop-concept-preserved
loop-concept-preserved g c =
    let test : ℕ → Bool = λ concept. not (has (g.S.ConceptSet.items_of c.args.set.now) concept) in
    let k = c.loop-concept.concept-index in
    elim c.if-not-has.branch [
      | then-not-has+in_ok-push w ↦
          filter_step test c.args.concepts.now c.loop-concept.kept.items c.if-not-has.kept.items k true
          c.loop-concept-test.true c.loop-concept.invariant (ap not (sym w.if-not-has.true ∙ c.has.ensures))
          (ap (λ (kept : Vec ℕ _). kept.items) w.kept-is ∙ w.in_ok-push.ensures.items)
      | else-not-has w ↦
          filter_step test c.args.concepts.now c.loop-concept.kept.items c.if-not-has.kept.items k false
          c.loop-concept-test.true c.loop-concept.invariant (ap not (sym w.if-not-has.false ∙ c.has.ensures))
          (ap (λ (kept : Vec ℕ _). kept.items) w.kept-is ∙ sym (append-nil c.loop-concept.kept.items))
    ]

-- after the last concept, those of all are kept that are not in the set
pub returns : goal.returns
returns g c =
    c.loop-concept.invariant
    ∙ ap (filter (λ concept. not (has (g.S.ConceptSet.items_of c.args.set.now) concept)))
    (take_all c.loop-concept.concept-index c.args.concepts.now (omega arith))
