use Rattle.std.proofs.Common.{◌∙◌, ap, arith, refl, sym}
use Rattle.release_rows.specs.inside.VersionTable.{Version}
use Rattle.release_rows.proofs.VersionLemmas.{line_here, version_here}
use Rattle.release_rows.proofs.versions.VersionRows.agrees.Goals as goal

-- the line of the version's first row stands in the buffer, as `bytes_in` requires
pub bytes_in-requires : goal.bytes_in-requires
bytes_in-requires c =
    let line = line_here c.self.inside.lines.items c.self.inside.rows.items c.args.self.now c.self.view_is
    c.args.number c.requires.number c.index.result.now c.index.ensures c.self.invariant in
    rw c.as_slice.ensures.value line.placed

-- if the kinds are equal, `same_row` compares the line with that of the version
pub returns-then-eq : goal.returns-then-eq
returns-then-eq c default same =
    let version = version_here c.self.inside.lines.items c.self.inside.rows.items c.args.self.now c.self.view_is
    c.args.number c.requires.number c.index.result.now c.index.ensures default in
    c.same_row.ensures ∙ rw (c.bytes_in.ensures, c.as_slice.ensures.value, version) refl

-- the kinds cannot differ if the version is of the kind
pub returns-else-eq : goal.returns-else-eq
returns-else-eq c default same =
    let version = version_here c.self.inside.lines.items c.self.inside.rows.items c.args.self.now c.self.view_is
    c.args.number c.requires.number c.index.result.now c.index.ensures default in
    let kind = sym (ap (λ (version : Version). version.kind) version) ∙ same in
    absurd (grind (arith, kind, c.eq.ensures, c.if-eq.false))
