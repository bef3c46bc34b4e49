-- The rows so far are kept, and the texts before them still stand.
use Rattle.std.proofs.Common.{◌≡◌, ◌≤◌, All, length, map, take, string_bytes}
use Rattle.held_release.specs.inside.NamesInLines.{IsKept, name_kept}
use Rattle.row_lists.specs.Spans.{AreSpansOf, Extends}
use Rattle.held_release.proofs.kept_names.keep_names.Given as goal

abbrev pub invariant-loop-place : goal.invariant-loop-place
invariant-loop-place l = record {
  grown : Extends (string_bytes l.fn.texts) (string_bytes l.texts);
  few : length l.languages.items ≤ l.place;
  languages : AreSpansOf (string_bytes l.texts) l.languages.items;
  kept : All (IsKept (string_bytes l.texts) l.languages.items) l.kept.items;
  names : map (name_kept (string_bytes l.texts) l.languages.items) l.kept.items ≡ take l.place l.names;
}
