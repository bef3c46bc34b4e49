-- The lines of the concepts so far, and the spans in them at which the terms of rows stand.
use Rattle.std.proofs.Common.{ℕ, ◌≡◌, List, map, take, string_bytes}
use Rattle.held_release.specs.inside.FirstRows.{AreFirstPlaces}
use Rattle.held_release.specs.inside.NamesInLines.{AreNoted}
use Rattle.number_lists.specs.inside.KeyedListsInside.{AreStarts}
use Rattle.held_release.specs.Line.{concept_line}
use Rattle.held_release.specs.inside.LinesInside.{lines_between}
use Rattle.held_release.specs.Name.{name_among}
use Rattle.held_release.proofs.lines.write_lines.Given as goal

abbrev pub invariant-loop-number : goal.invariant-loop-number
invariant-loop-number l = record {
  starts : AreStarts l.starts.items (string_bytes l.texts);
  lines : (language : List ℕ) → AreFirstPlaces language l.concepts l.names l.names l.places
      → lines_between l.starts.items (string_bytes l.texts)
      ≡ map (concept_line (name_among language l.names)) (take l.number l.concepts);
  noted : AreNoted l.names (string_bytes l.texts) l.spans.items;
}
