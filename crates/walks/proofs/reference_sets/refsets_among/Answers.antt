use Rattle.std.proofs.Common.{ℕ, Vec, Bool, true, false, ◌∙◌, sym, ap, append-nil, arith}
use Rattle.std.specs.Prelude.{filter}
use Rattle.std.proofs.lemmas.List.{take_all}
use Rattle.number_lists.specs.Members.{has}
use Rattle.idset.proofs.Places.{filter_step}
use Rattle.walks.proofs.reference_sets.refsets_among.Goals as goal
use Rattle.walks.proofs.reference_sets.refsets_among.Goals.{then-has+in_ok-push, else-has}

-- the reference set at hand is kept if it is in the set
pub loop-refset-preserved : goal.loop-refset-preserved
loop-refset-preserved g c =
    let asked : ℕ → Bool = has (g.S.ConceptSet.items_of c.args.from.now) in
    let k = c.loop-refset.refset-index in
    elim c.if-has.branch [
      | then-has+in_ok-push w ↦
          filter_step asked c.args.refsets.now c.loop-refset.kept.items c.if-has.kept.items k true
          c.loop-refset-test.true c.loop-refset.invariant (sym w.if-has.true ∙ c.has.ensures)
          (ap (λ (kept : Vec ℕ _). kept.items) w.kept-is ∙ w.in_ok-push.ensures.items)
      | else-has w ↦
          filter_step asked c.args.refsets.now c.loop-refset.kept.items c.if-has.kept.items k false
          c.loop-refset-test.true c.loop-refset.invariant (sym w.if-has.false ∙ c.has.ensures)
          (ap (λ (kept : Vec ℕ _). kept.items) w.kept-is ∙ sym (append-nil c.loop-refset.kept.items))
    ]

-- after the last reference set, those in the set are kept among all
pub returns : goal.returns
returns g c =
    c.loop-refset.invariant
    ∙ ap (filter (has (g.S.ConceptSet.items_of c.args.from.now)))
    (take_all c.loop-refset.refset-index c.args.refsets.now (omega arith))
