use Rattle.std.proofs.Common.{List, ap, not, rules, sym}
use Rattle.release_rows.specs.inside.KeyedRows.{AreOfItsKind, KeyedRow}
use Rattle.release_rows.specs.inside.VersionTable.{HasTaken}
use Rattle.release_rows.specs.inside.VersionsInside.{noted, taken_in}
use Rattle.release_rows.proofs.VersionLemmas.{no_version, new_conflicts, other_conflicts, same_conflicts, taken_again}
use Rattle.release_rows.proofs.VersionLemmas.{version_kind}
use Rattle.release_rows.proofs.versions.Versions.take_version.Goals as goal

-- a row that differs from the first row of its version conflicts with an earlier row
pub returns-then-not-agrees-clause-conflict : goal.returns-then-not-agrees-clause-conflict
returns-then-not-agrees-clause-conflict c = rw (← c.self.view_is) (λ rows before kinds.
    let is = rw (← c.self.view_is) at c.requires.code in
    let kind = version_kind (taken_in c.self.inside) c.self.invariant.rising rows before
    (noted c.args.row.now) c.args.code is c.in-Some.number (sym c.in-Some.ensures.index) no_version kinds in
    sym (ap not (other_conflicts (taken_in c.self.inside) c.self.invariant.rising rows before (noted c.args.row.now)
    c.args.code is
    c.in-Some.number (sym c.in-Some.ensures.index) no_version kinds (sym (c.if-not-agrees.ensures no_version kind)))))

-- a row that equals the first row of its version fits, and is taken without being chosen
pub returns-in_ok-push-in-Some : goal.returns-in_ok-push-in-Some
returns-in_ok-push-in-Some c =
    let taken = taken_in c.self.inside in
    let row = noted c.args.row.now in
    let rising = c.self.invariant.rising in
    let is = rw (← c.self.view_is) at c.requires.code in
    let found = sym c.in-Some.ensures.index in
    let agrees = λ (rows : List KeyedRow) (before : HasTaken taken rows) (kinds : AreOfItsKind rows row).
    sym (c.if-not-agrees.ensures no_version (version_kind taken rising rows before row c.args.code is c.in-Some.number
    found no_version kinds)) in record {
      repeated = search rules;
      conflict = rw (← c.self.view_is) (λ rows before kinds. sym (ap not
          (same_conflicts taken rising rows before row c.args.code is c.in-Some.number found no_version kinds
          (agrees rows before kinds))));
      taken = rw (← c.self.view_is) (λ rows before kinds fits.
          taken_again taken rising rows before row c.args.code is c.in-Some.number found no_version
          c.push.new.self.items c.in_ok-push-in-Some.ensures.items (agrees rows before kinds));
    }

-- the first row of a new version conflicts with no earlier row
pub returns-in_ok-add_version-in-None-clause-conflict : goal.returns-in_ok-add_version-in-None-clause-conflict
returns-in_ok-add_version-in-None-clause-conflict c = rw (← c.self.view_is) (λ rows before kinds.
    sym (ap not (new_conflicts (taken_in c.self.inside) c.self.invariant.rising rows before
    (noted c.args.row.now) c.args.code (rw (← c.self.view_is) at c.requires.code) (sym c.in-None.ensures.found))))
