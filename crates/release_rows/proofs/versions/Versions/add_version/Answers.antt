use Rattle.std.proofs.Common.{◌≡◌, ◌≤◌, ◌+◌, ◌++◌, ◌∷◌, [], ℕ, List, ap, arith, length, refl}
use Rattle.std.proofs.lemmas.List.{length_push}
use Rattle.release_rows.specs.inside.VersionsInside.{AreKept, noted, taken_in}
use Rattle.release_rows.proofs.VersionLemmas.{kept_more, key_place-code, taken_first}
use Rattle.release_rows.proofs.versions.Versions.add_version.Goals as goal
use Rattle.release_rows.proofs.versions.Versions.add_version.Goals.{In_ok-push-2}

-- the first row of a new version is taken after the earlier rows
pub returns-clause-taken : goal.returns-clause-taken
returns-clause-taken c = rw (← c.self.view_is) (λ rows before.
    taken_first (taken_in c.self.inside) c.self.invariant.rising rows before (noted c.args.row.now) c.args.code
    (rw (← c.self.view_is) at c.requires.code) c.intern.new.self c.push-2.new.self c.push.new.self.items
    (rw (← c.self.view_is) at c.requires.new) c.requires.accepted c.in_ok-intern.ensures.keys
    (rw (← c.self.inside.chosen.ok.0, ← c.len-place.ensures) c.in_ok-push-2.ensures.ok) c.in_ok-push.ensures.items)

-- the table keeps to `AreKept` with the version that is added and at most one more code
kept : (c : In_ok-push-2) (codes : List ℕ) → length codes ≤ length c.self.inside.seen + 1
    → AreKept (record {
      repeated = c.self.inside.repeated;
      codes = codes;
      versions = c.push-2.new.self;
      chosen = c.push.new.self.items;
    })
kept c codes few =
    let code = rw (← c.self.view_is) at c.requires.code in
    let place = key_place-code c.self.inside.repeated (noted c.args.row.now) c.args.code code in
    kept_more (taken_in c.self.inside) codes c.push-2.new.self c.push.new.self.items _ c.self.invariant few
    c.in_ok-push-2.ensures.ok c.in_ok-push.ensures.items (omega (arith, place, code.within))
    (omega (arith, c.len-place.ensures, c.self.inside.chosen.ok.0))

-- after the code is added, the table keeps to `AreKept`
pub invariant_of-self-2 : goal.invariant_of-self-2
invariant_of-self-2 c =
    let codes : c.intern.new.self ≡ c.self.inside.seen ++ c.args.code ∷ [] =
    rw (c.in_ok-intern.ensures.keys, (rw (← c.self.view_is) at c.requires.new)) refl in
    kept (goal.at.invariant_of-self-2 c).In_ok-push-2 c.intern.new.self
    (omega (arith, ap length codes, length_push c.self.inside.seen c.args.code))

-- if the code cannot be added, the table keeps to `AreKept`
pub invariant_of-self-in_err-intern : goal.invariant_of-self-in_err-intern
invariant_of-self-in_err-intern c = kept (goal.at.invariant_of-self-in_err-intern c).In_ok-push-2 c.intern.new.self
    (omega (arith, ap length c.in_err-intern.ensures.err))
