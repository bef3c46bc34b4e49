use Rattle.std.proofs.Common.{ℕ, Vec, Bool, true, false, ◌∙◌, sym, ap, append-nil, arith}
use Rattle.std.specs.Prelude.{filter}
use Rattle.std.proofs.lemmas.List.{take_all}
use Rattle.idset.proofs.Places.{filter_step}
use Rattle.walks.specs.inside.Components.{is_in_one_of}
use Rattle.walks.proofs.reference_sets.components_among.Goals as goal
use Rattle.walks.proofs.reference_sets.components_among.Goals.{then-is_component+in_ok-push, else-is_component}

-- the concept at hand is kept if it is a component of one of the reference sets
pub loop-concept-preserved : goal.loop-concept-preserved
loop-concept-preserved c =
    let asked : ℕ → Bool = is_in_one_of c.args.reader.indexes.now.members c.args.refsets.now in
    let k = c.loop-concept.concept-index in
    elim c.if-is_component.branch [
      | then-is_component+in_ok-push w ↦
          filter_step asked c.args.concepts.now c.loop-concept.kept.items c.if-is_component.kept.items k true
          c.loop-concept-test.true c.loop-concept.invariant (sym w.if-is_component.true ∙ c.is_component.ensures)
          (ap (λ (kept : Vec ℕ _). kept.items) w.kept-is ∙ w.in_ok-push.ensures.items)
      | else-is_component w ↦
          filter_step asked c.args.concepts.now c.loop-concept.kept.items c.if-is_component.kept.items k false
          c.loop-concept-test.true c.loop-concept.invariant (sym w.if-is_component.false ∙ c.is_component.ensures)
          (ap (λ (kept : Vec ℕ _). kept.items) w.kept-is ∙ sym (append-nil c.loop-concept.kept.items))
    ]

-- after the last concept, the components among all are kept
pub returns : goal.returns
returns c =
    c.loop-concept.invariant
    ∙ ap (filter (is_in_one_of c.args.reader.indexes.now.members c.args.refsets.now))
    (take_all c.loop-concept.concept-index c.args.concepts.now (omega arith))
