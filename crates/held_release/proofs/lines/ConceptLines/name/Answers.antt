use Rattle.std.proofs.Common.{ℕ, ◌≡◌, ◌≤◌, ◌<◌, ◌+◌, ◌++◌, List, [], length, get_or, arith, string_bytes, slice_range}
use Rattle.std.proofs.lemmas.List.{get_or_read}
use Rattle.number_lists.specs.inside.KeyedListsInside.{AreStarts}
use Rattle.number_lists.proofs.CutLemmas.{cut}
use Rattle.held_release.proofs.LineLemmas.{line_places}
use Rattle.held_release.proofs.lines.ConceptLines.name.Goals as goal

-- the start of the line is among the starts
pub index-from-requires : goal.index-from-requires
index-from-requires c = grind (
  arith,
  (line_places c.self.inside.starts.items
      (string_bytes c.self.inside.texts) c.args.self.now.lines c.args.number c.self.invariant),
  c.self.view_is,
  c.requires.number,
)

-- the end of the line is among the starts
pub index-to-requires : goal.index-to-requires
index-to-requires c = grind (
  arith,
  (line_places c.self.inside.starts.items
      (string_bytes c.self.inside.texts) c.args.self.now.lines c.args.number c.self.invariant),
  c.self.view_is,
  c.requires.number,
)

-- the text between the two starts that are read is the line at `number`
line_read : (starts texts text : List ℕ) (lists : List (List ℕ)) (number from to : ℕ) → text ≡ texts
    → (lines more : List ℕ) × (texts ≡ lines ++ more) × AreStarts starts lines → cut starts texts ≡ lists
    → number < length lists
    → from ≡ get_or starts number from → to ≡ get_or starts (number + 1) to
    → (from ≤ to) × (to ≤ length text) × (slice_range text from to ≡ get_or lists number [])
line_read starts texts text lists number from to same begun are below from_read to_read =
    grind (arith, (line_places starts texts lists number begun are below), get_or_read, same)

-- the text between the two places is the line of the concept with some name
pub name_between-requires : goal.name_between-requires
name_between-requires c =
    grind (
      arith,
      (line_read c.self.inside.starts.items
          (string_bytes c.self.inside.texts) c.as_str.result.now c.args.self.now.lines c.args.number
          c.index-from.result.now c.index-to.result.now c.as_str.ensures.value c.self.invariant),
      c.self.view_is,
      c.requires.number,
      c.index-from.ensures,
      c.index-to.ensures,
      c.requires.line,
    )

-- the name that is found is the one in the line
pub returns : goal.returns
returns c = grind (
  arith,
  (line_read c.self.inside.starts.items (string_bytes c.self.inside.texts) c.as_str.result.now
      c.args.self.now.lines c.args.number c.index-from.result.now c.index-to.result.now c.as_str.ensures.value
      c.self.invariant),
  c.self.view_is,
  c.requires.number,
  c.index-from.ensures,
  c.index-to.ensures,
  c.name_between.ensures,
)
