-- The lines and name rows that the fields of a `ConceptLines` hold, and the invariant of these
-- fields.
use Rattle.std.specs.Prelude.{ℕ, ◌≡◌, ◌+◌, ◌-◌, ◌++◌, List, length, map, slice_index, slice_range, string_bytes}
use Rattle.std.specs.List.{range_with_len}
use Rattle.held_release.specs.inside.NamesInLines.{name_kept}
use Rattle.number_lists.specs.inside.KeyedListsInside.{AreStarts}
use Rattle.held_release.specs.inside.Lined.{Lined}
use Rattle.held_release.specs.declared.lines.ConceptLines.TheInside.{Inside}

-- the lines of a text that begin at the indexes `starts`; each ends where the next one starts, and
-- the last entry is its end
abbrev pub lines_between : List ℕ → List ℕ → List (List ℕ)
lines_between starts texts =
    map (λ number. slice_range texts (slice_index starts number) (slice_index starts (number + 1)))
    (range_with_len 0 (length starts - 1))

-- the lines and name rows that the fields hold
abbrev pub lined_in : Inside → Lined
lined_in inside = record {
  lines = lines_between inside.starts.items (string_bytes inside.texts);
  names = map (name_kept (string_bytes inside.texts) inside.languages.items) inside.names.items;
}

-- the buffer begins with the lines, joined, and `starts` has their starts
abbrev pub AreStarted : Inside → Type 0
AreStarted inside = (lines more : List ℕ) × (string_bytes inside.texts ≡ lines ++ more)
    × AreStarts inside.starts.items lines
