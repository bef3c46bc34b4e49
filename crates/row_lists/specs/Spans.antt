-- Texts in a buffer, and their positions, called spans.
use Rattle.std.specs.Prelude.{ℕ, ◌≡◌, ◌≤◌, ◌++◌, List, All, length, slice_range, IsCharBoundary}
use Rattle.row_lists.specs.declared.spans.Span.{Span}

-- the text at `span` in the buffer `texts`
abbrev pub text_at : List ℕ → Span → List ℕ
text_at texts span = slice_range texts span.start span.end

-- an empty span at the front of a buffer
abbrev pub no_span : Span
no_span = record { start = 0; end = 0 }

-- the span lies within the buffer
pub record IsSpanOf (texts : List ℕ) (span : Span) : Type 0 where
  -- the span does not end before it begins
  pub rise : span.start ≤ span.end
  -- the span ends within the buffer
  pub within : span.end ≤ length texts

-- each of the spans lies within the buffer
abbrev pub AreSpansOf : List ℕ → List Span → Type 0
AreSpansOf texts spans = All (λ span. IsSpanOf texts span) spans

-- the span lies within the buffer, and begins and ends between two characters
pub record IsTextSpanOf (texts : List ℕ) (span : Span) : Type 0 where
  -- the span lies within the buffer
  pub placed : IsSpanOf texts span
  -- the span begins between two characters
  pub start : IsCharBoundary texts span.start
  -- the span ends between two characters
  pub end : IsCharBoundary texts span.end

-- the text at the span is `text`
pub record StandsAt (texts text : List ℕ) (span : Span) : Type 0 where
  -- the span lies within the buffer
  pub placed : IsSpanOf texts span
  -- the bytes at the span are those of the text
  pub same : text_at texts span ≡ text

-- `after` is `before` with more at its end
abbrev pub Extends : {X : Type 0} → List X → List X → Type 0
Extends {X} before after = (more : List X) × (after ≡ before ++ more)
