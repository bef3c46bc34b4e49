use Rattle.std.proofs.Common.{string_bytes, arith}
use Rattle.held_release.proofs.LineLemmas.{line_places}
use Rattle.held_release.proofs.lines.ConceptLines.line.Goals as goal

-- the line has a next start, and both its places rise and are within the text
pub line_between-requires : goal.line_between-requires
line_between-requires c =
    grind (
      arith,
      (line_places c.self.inside.starts.items
          (string_bytes c.self.inside.texts) c.args.self.now.lines c.args.number c.self.invariant),
      c.self.view_is,
      c.requires,
      c.as_slice.ensures.value,
      c.as_bytes.ensures.value,
    )

-- the bytes between the start of the line and the next start are the line
pub returns : goal.returns
returns c = grind (
  arith,
  (line_places c.self.inside.starts.items
      (string_bytes c.self.inside.texts) c.args.self.now.lines c.args.number c.self.invariant),
  c.self.view_is,
  c.requires,
  c.as_slice.ensures.value,
  c.as_bytes.ensures.value,
  c.line_between.ensures,
)
