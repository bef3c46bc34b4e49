use Rattle.std.proofs.Common.{◌∙◌, ℕ, arith, inl, inr, sym}
use Rattle.std.proofs.lemmas.Bool.{false≢true}
use Rattle.hierarchy.proofs.SearchLemmas.{IsSuspect, pass_marked, pass_unmarked, unmarked_acyclic}
use Rattle.hierarchy.proofs.cycle.suspects.Goals as goal
use Rattle.hierarchy.proofs.cycle.suspects.Goals.{then-not-all_rise, else-not-all_rise+else-rank_of}

-- the child of a suspect row is marked, and no other changes
pub loop-row-preserved : goal.loop-row-preserved
loop-row-preserved c =
    let rows = c.args.rows.now in
    let i = c.loop-row.row-index in
    let marks = c.loop-row.suspects.items in
    let suspect = λ (row : ℕ × ℕ). IsSuspect c.none_falls-all_rise.result c.args.ranks.now row in
    elim c.if-not-all_rise.branch [
      | then-not-all_rise w ↦ rw w.suspects-is (
        c.loop-row.invariant.0,
        pass_marked suspect rows i marks c.loop-row-test.true c.loop-row.invariant.1
            (omega (arith, (c.requires i (0, 0) c.loop-row-test.true).0, c.loop-row.invariant.0)),
      )
      | else-not-all_rise+else-rank_of w ↦ rw w.suspects-is (
        c.loop-row.invariant.0,
        pass_unmarked suspect rows i marks c.loop-row-test.true c.loop-row.invariant.1 (λ told. elim told [
          | inl falls ↦ false≢true (sym falls ∙ w.if-not-all_rise.false)
          | inr level ↦ w.if-rank_of.false (w.rank_of.ensures ∙ level ∙ sym w.rank_of-else-not-all_rise.ensures)
        ]),
      )
    ]

-- a concept that is not marked does not reach itself
pub returns-clause-others : goal.returns-clause-others
returns-clause-others c concept below =
    unmarked_acyclic c.args.rows.now c.args.ranks.now c.loop-row.suspects.items
    c.none_falls-all_rise.result c.none_falls-all_rise.ensures
    (λ k less. c.loop-row.invariant.1 k (omega arith)) concept
