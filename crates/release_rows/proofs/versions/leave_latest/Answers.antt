use Rattle.std.proofs.Common.{zero-add, ◌<◌, length, arith, length-set, take_all}
use Rattle.std.proofs.lemmas.Bool.Decides.{nat_tests}
use Rattle.std.proofs.lemmas.Grind.{common_steps}
use Rattle.release_rows.specs.inside.VersionTable.{is_older}
use Rattle.release_rows.proofs.VersionLemmas.{without_from, no_version, without_keeps, without_more}
use Rattle.release_rows.proofs.versions.leave_latest.Goals as goal
use Rattle.release_rows.proofs.versions.leave_latest.Goals.{then-code-latest, else-code-latest}

-- the key of the version has an index in `latest`
pub bounds-latest-key_place : goal.bounds-latest-key_place
bounds-latest-key_place c =
    grind (arith, c.requires.keys c.loop-number.number no_version, c.code_and_place-code.ensures.code no_version)

-- the first row of the version has a mark that can be written
pub index_mut-requires : goal.index_mut-requires
index_mut-requires c = grind
    (arith, c.requires.places c.loop-number.number no_version, c.code_and_place-code.ensures.place no_version)

-- after one more version, the marks lack those of the outdated versions so far
pub loop-number-preserved : goal.loop-number-preserved
loop-number-preserved c =
    let chosen = c.loop-number.chosen.items in
    let versions = c.args.versions.now in
    let number = c.loop-number.number in
    let within : number < length versions = omega arith in
    let at = c.code_and_place-code.ensures in
    let placed : c.code_and_place-code.result.1 < length chosen =
    omega (arith, c.requires.places number no_version within, at.place no_version, c.loop-number.invariant.0) in
    let more = without_more chosen c.args.chosen.now.items versions number no_version within
    c.loop-number.invariant.1 c.code_and_place-code.result.1 (at.place no_version) placed in
    let keeps = without_keeps chosen c.args.chosen.now.items versions number no_version within
    c.loop-number.invariant.1 in
    grind (
      arith,
      common_steps,
      nat_tests,
      length-set,
      c.requires.latest c.code_and_place-code.result.0,
      c.requires.keys number no_version,
      at.code no_version,
      more,
      keeps,
    )

-- after the last version, the marks lack those of all outdated versions
pub returns : goal.returns
returns c =
    let are = rw (take_all c.loop-number.number c.args.versions.now (omega arith)) at c.loop-number.invariant.1 in
    without_from (is_older c.args.versions.now) 0 c.loop-number.chosen.items c.args.chosen.now.items
    c.loop-number.invariant.0 (λ k at is. rw (is, zero-add k) (are k))
