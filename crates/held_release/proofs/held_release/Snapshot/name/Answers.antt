use Rattle.std.proofs.Common.{get_or, arith, string_bytes}
use Rattle.held_release.specs.Name.{name_among}
use Rattle.held_release.proofs.LineLemmas.{line_among}
use Rattle.held_release.proofs.held_release.Snapshot.name.Goals as goal

-- the line at the number is the line of the concept with some name
pub name-requires-clause-line : goal.name-requires-clause-line
name-requires-clause-line c =
    let inside = c.self.inside in (
      name_among (string_bytes inside.language) inside.lines.names (get_or inside.concepts c.args.concept 0),
      grind
          (arith, line_among),
    )
