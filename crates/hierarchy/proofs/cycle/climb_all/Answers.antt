use Rattle.std.proofs.Common.{ℕ, get_or, arith}
use Rattle.std.proofs.lemmas.List.{get_or_default}
use Rattle.std.proofs.lemmas.List.Elements.{Contains-get_or}
use Rattle.hierarchy.specs.inside.Search.{IsFollowed, MarksReached}
use Rattle.hierarchy.proofs.SearchLemmas.{pass_same}
use Rattle.hierarchy.proofs.cycle.climb_all.Goals as goal
use Rattle.hierarchy.proofs.cycle.climb_all.Goals.{then-climb, else-climb}

-- a row that gives a new mark makes the unmarked concepts fewer; any other row is followed already
pub loop-row-preserved : goal.loop-row-preserved
loop-row-preserved c =
    let sound : MarksReached c.args.rows.now c.args.start c.args.reached.now
    → MarksReached c.args.rows.now c.args.start c.climb.new.reached =
    λ s. c.climb.ensures.reached c.args.rows.now
    (Contains-get_or c.args.rows.now c.loop-row.row-index (0, 0) c.loop-row-test.true) (c.loop-row.invariant.0 s) in
    elim c.if-climb.branch [
      | then-climb w ↦ rw w.found-is
          (sound, omega (arith, w.if-climb.ensures.fewer), omega (arith, w.if-climb.ensures.fewer), tt)
      | else-climb w ↦ rw (w.found-is, w.if-climb.ensures.same) (
        rw w.if-climb.ensures.same at sound,
        c.loop-row.invariant.1,
        c.loop-row.invariant.2,
        pass_same (λ k. (d : ℕ × ℕ) → IsFollowed c.args.start c.loop-row.reached (get_or c.args.rows.now k d))
            c.loop-row.row-index c.loop-row.found c.loop-row.invariant.3
            (λ d. rw (
              get_or_default c.args.rows.now c.loop-row.row-index d (0, 0) c.loop-row-test.true,
              ←
                  w.if-climb.ensures.same,
            ) c.climb.ensures.followed),
      )
    ]
