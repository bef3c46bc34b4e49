-- The query lines of an input, and the texts that answer them.
use Rattle.std.specs.Prelude.{◌≡◌, ◌≢◌, ℕ, ◌==◌, List, [], ◌∷◌, ◌++◌, length, All, Option, count_by}
use Rattle.std.specs.Io.KnownBytes.{Appends}
use Rattle.std.specs.List.{slice_split}

-- the byte that ends a line
abbrev pub line_feed : ℕ
line_feed = 10

-- the lines without the last one, if the last one is empty
unfoldable pub without_empty_last : List (List ℕ) → List (List ℕ)
without_empty_last [] = []
without_empty_last ([] ∷ []) = []
without_empty_last (line ∷ lines) = line ∷ without_empty_last lines

-- the query lines of an input: the text before each line feed, and the text after the last line
-- feed unless it is empty
unfoldable pub query_lines : List ℕ → List (List ℕ)
query_lines bytes = without_empty_last (slice_split (λ byte. byte == line_feed) bytes)

-- how many line feeds the bytes have
abbrev pub line_feed_count : List ℕ → ℕ
line_feed_count bytes = count_by (λ byte. byte == line_feed) bytes

-- a relation between a query line and the texts that answer it
abbrev pub Answers : Type 1
Answers = List ℕ → List ℕ → Type 0

-- `text` consists of an answer to each of `lines`, one after the other
abbrev pub AreAnswers : Answers → List (List ℕ) → List ℕ → Type 0
AreAnswers answers [] text = text ≡ []
AreAnswers answers (line ∷ lines) text =
    (first : List ℕ) × (rest : List ℕ)
    × answers line first × AreAnswers answers lines rest × (text ≡ first ++ rest)

-- an answer to each of `lines` was written, one after the other, and nothing else
abbrev pub AreWritten : Answers → List (List ℕ) → Option (List ℕ) → Option (List ℕ) → Type 0
AreWritten answers lines before after =
    (text : List ℕ) × AreAnswers answers lines text × Appends before after text

-- the bytes have no line feed
abbrev pub HasNoFeed : List ℕ → Type 0
HasNoFeed bytes = All (λ byte. byte ≢ line_feed) bytes

-- `bytes` consist of the ended lines `lines` and then `pending`, which waits for its line feed;
-- later bytes continue `pending`
pub record IsCutInto (bytes : List ℕ) (lines : List (List ℕ)) (pending : List ℕ) : Type 0 where
  -- `pending` has no line feed
  pub unended : HasNoFeed pending
  -- there are as many lines as line feeds
  pub feeds : length lines ≡ line_feed_count bytes
  -- with any later bytes, the query lines are `lines`, and then those of `pending` and the later
  -- bytes
  pub goes_on : (later : List ℕ)
      → query_lines (bytes ++ later) ≡ lines ++ query_lines (pending ++ later)
