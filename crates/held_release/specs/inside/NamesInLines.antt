-- Name rows that are stored as spans of a buffer.
use Rattle.std.specs.Prelude.{ℕ, ◌≡◌, ◌<◌, ◌+◌, List, length, slice_index_or, Option, None, Some, IfSome}
use Rattle.std.specs.List.{slice_get}
use Rattle.release_model.specs.Release.{Name}
use Rattle.held_release.specs.declared.kept_names.KeptName.{KeptName}
use Rattle.row_lists.specs.Spans.{IsSpanOf, StandsAt, no_span, text_at}
use Rattle.row_lists.specs.declared.spans.Span.{Span}

-- the span of the term of a stored row
abbrev pub term_span : KeptName → Span
term_span kept = record { start = kept.start; end = kept.start + kept.bytes }

-- the name row that a stored row means; `languages` has the spans of the language codes
abbrev pub name_kept : List ℕ → List Span → KeptName → Name
name_kept texts languages kept = record {
  id = kept.id;
  concept = kept.concept;
  language = text_at texts (slice_index_or languages kept.language no_span);
  term = text_at texts (term_span kept);
}

-- the language code of a stored row has a span in `languages`, and the span of its term lies within
-- the buffer
pub record IsKept (texts : List ℕ) (languages : List Span) (kept : KeptName) : Type 0 where
  -- the language code of the row has a span
  pub language : kept.language < length languages
  -- the span of the term lies within the buffer
  pub term : IsSpanOf texts (term_span kept)

-- `spans` has for each name row the span of its term in `texts`, or none
pub record AreNoted (names : List Name) (texts : List ℕ) (spans : List (Option Span)) : Type 0 where
  -- there is an entry for each name row
  pub each : length spans ≡ length names
  -- if a row has a span, this is the span of its term
  pub stand : (place : ℕ) (name : Name) → slice_get names place ≡ Some name
      → IfSome (slice_index_or spans place None) (StandsAt texts name.term)
