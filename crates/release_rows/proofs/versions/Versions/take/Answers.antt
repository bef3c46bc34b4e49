use Rattle.std.proofs.Common.{arith, refl}
use Rattle.std.proofs.lemmas.Grind.{common_steps}
use Rattle.release_rows.proofs.VersionLemmas.{has-code, taken_skip}
use Rattle.release_rows.specs.inside.VersionsInside.{noted, taken_in}
use Rattle.release_rows.proofs.versions.Versions.take.Goals as goal

-- a row whose key is not repeated fits and is compared with no row
pub returns-in_ok-push-in-None-clause-conflict : goal.returns-in_ok-push-in-None-clause-conflict
returns-in_ok-push-in-None-clause-conflict c = λ rows before kinds.
    grind (arith, common_steps, c.in-None.ensures (noted c.args.row.now) refl refl)

-- a row whose key is not repeated is taken
pub returns-in_ok-push-in-None-clause-taken : goal.returns-in_ok-push-in-None-clause-taken
returns-in_ok-push-in-None-clause-taken c = rw (← c.self.view_is) (λ rows before kinds fits.
    taken_skip (taken_in c.self.inside) c.push.new.self.items rows
    (noted c.args.row.now) c.in_ok-push-in-None.ensures.items
    (rw c.as_slice.ensures at (c.in-None.ensures (noted c.args.row.now) refl refl)) before)

-- a row whose key is repeated fits exactly if it conflicts with no earlier row
pub returns-in_ok-fits-in-Some-clause-conflict : goal.returns-in_ok-fits-in-Some-clause-conflict
returns-in_ok-fits-in-Some-clause-conflict c = λ rows before kinds.
    let row = noted c.args.row.now in
    grind (
      arith,
      common_steps,
      has-code c.as_slice.result.now row c.in-Some.code (c.in-Some.ensures row refl refl),
      c.in_ok-fits-in-Some.ensures.conflict rows before kinds,
    )
