-- Lemmas on how an input is cut into query lines.
use Rattle.std.proofs.Common.{◌≡◌, ◌≢◌, ℕ, ◌+◌, ◌<◌, Bool, false, eqb, List, [], ◌∷◌, ◌++◌, length, cond, refl, sym}
use Rattle.std.proofs.Common.{subst, ap, ◌∙◌, append-nil, append_assoc, length-append, arith}
use Rattle.std.specs.Prelude.{All}
use Rattle.std.specs.List.{slice_split}
use Rattle.std.proofs.lemmas.Bool.{ne_eqb}
use Rattle.std.proofs.lemmas.List.Splits.{slice_split_at, slice_split_none, length-slice_split}
use Rattle.std.proofs.lemmas.List.Elements.{All-nil, All-append, All-weaker}
use Rattle.std.proofs.lemmas.List.Sums.{sum_by-append}
use Rattle.query_run.specs.Lines.{line_feed_count, query_lines, without_empty_last, HasNoFeed, IsCutInto}

-- whether a byte is a line feed
abbrev is_feed : ℕ → Bool
is_feed byte = eqb byte 10

-- if a line has no line feed, `is_feed` is false for each of its bytes
no_cut : (line : List ℕ) → HasNoFeed line → All (λ byte. is_feed byte ≡ false) line
no_cut line clear = All-weaker (λ byte. byte ≢ 10) (λ byte. is_feed byte ≡ false) (λ byte other. ne_eqb byte 10 other)
    line clear

-- splitting bytes at line feeds gives at least one part
some_part : (bytes : List ℕ) → slice_split is_feed bytes ≡ [] → ⊥
some_part bytes none = absurd (omega (arith, length-slice_split is_feed bytes, ap length none))

-- if other parts follow `line`, dropping an empty last part keeps `line`
without_empty_last-cons : (line : List ℕ) (parts : List (List ℕ)) → (parts ≡ [] → ⊥)
    → without_empty_last (line ∷ parts) ≡ line ∷ without_empty_last parts
unfolding without_empty_last
without_empty_last-cons line [] some = absurd (some refl)
without_empty_last-cons [] (part ∷ parts) some = refl
without_empty_last-cons (byte ∷ line) (part ∷ parts) some = refl

-- the empty input has no query line
pub query_lines-nil : query_lines [] ≡ []
unfolding query_lines without_empty_last
query_lines-nil = refl

-- if `line` has no line feed, the query lines of `line`, a line feed and `rest` are `line` and then those of `rest`
query_lines_ended : (line rest : List ℕ) → HasNoFeed line → query_lines (line ++ 10 ∷ rest) ≡ line ∷ query_lines rest
unfolding query_lines
query_lines_ended line rest clear =
    ap without_empty_last (slice_split_at is_feed line 10 rest (no_cut line clear) refl)
    ∙ without_empty_last-cons line (slice_split is_feed rest) (some_part rest)

-- bytes without a line feed are one query line, if there is at least one byte
query_lines_unended : (byte : ℕ) (line : List ℕ) → HasNoFeed (byte ∷ line)
    → query_lines (byte ∷ line) ≡ (byte ∷ line) ∷ []
unfolding query_lines without_empty_last
query_lines_unended byte line clear =
    ap without_empty_last (slice_split_none is_feed (byte ∷ line) (no_cut (byte ∷ line) clear))

-- a non-empty text without a line feed is one query line
pub query_lines_pending : (line : List ℕ) → HasNoFeed line → 0 < length line → query_lines line ≡ line ∷ []
query_lines_pending [] clear some = absurd (omega arith)
query_lines_pending (byte ∷ line) clear some = query_lines_unended byte line clear

-- the line feeds of `xs ++ ys` are as many as those of `xs` and of `ys` together
feeds-append : (xs ys : List ℕ) → line_feed_count (xs ++ ys) ≡ line_feed_count xs + line_feed_count ys
feeds-append xs ys = sum_by-append (λ byte. cond (is_feed byte) 1 0) xs ys

-- a text without a line feed has 0 line feeds
no_feeds : (line : List ℕ) → HasNoFeed line → line_feed_count line ≡ 0
no_feeds line clear = omega
    (arith, length-slice_split is_feed line, ap length (slice_split_none is_feed line (no_cut line clear)))

-- bytes without a line feed consist of no ended line, and all of them are pending
pub IsCutInto-pending : (bytes : List ℕ) → HasNoFeed bytes → IsCutInto bytes [] bytes
IsCutInto-pending bytes clear = record {
  unended = clear;
  feeds = sym (no_feeds bytes clear);
  goes_on = λ later. refl;
}

-- a line followed by its line feed is cut into this line, and nothing is pending
IsCutInto-line : (line : List ℕ) → HasNoFeed line → IsCutInto (line ++ 10 ∷ []) (line ∷ []) []
IsCutInto-line line clear = record {
  unended = All-nil (λ byte. byte ≢ 10);
  feeds = omega (arith, feeds-append line (10 ∷ []), no_feeds line clear);
  goes_on = λ later. rw append_assoc (query_lines_ended line later clear);
}

-- if `bytes` are cut into `lines` and `pending`, and `pending ++ piece` into `more` and `rest`, then `bytes ++
-- piece` are cut into `lines ++ more` and `rest`
pub IsCutInto-then : (bytes : List ℕ) (lines : List (List ℕ)) (pending piece : List ℕ) (more : List (List ℕ))
    (rest : List ℕ) → IsCutInto bytes lines pending
    → IsCutInto (pending ++ piece) more rest → IsCutInto (bytes ++ piece) (lines ++ more) rest
IsCutInto-then bytes lines pending piece more rest first second = record {
  unended = second.unended;
  feeds = omega (
    arith,
    length-append lines more,
    feeds-append bytes piece,
    feeds-append pending piece,
    no_feeds pending first.unended,
    first.feeds,
    second.feeds,
  );
  goes_on = λ later.
      ap query_lines (append_assoc bytes piece later)
      ∙ first.goes_on (piece ++ later)
      ∙ ap (λ (text : List ℕ). lines ++ query_lines text) (sym (append_assoc pending piece later))
      ∙ ap (λ (found : List (List ℕ)). lines ++ found) (second.goes_on later)
      ∙ sym (append_assoc lines more (query_lines (rest ++ later)));
}

-- if `bytes` are cut into `lines` and `pending`, and `line` with a line feed follows, then the next line is `pending
-- ++ line`, and nothing is pending
pub IsCutInto-ended : (bytes : List ℕ) (lines : List (List ℕ)) (pending line : List ℕ) → IsCutInto bytes lines pending
    → HasNoFeed line
    → IsCutInto (bytes ++ (line ++ 10 ∷ [])) (lines ++ (pending ++ line) ∷ []) []
IsCutInto-ended bytes lines pending line cut clear =
    let next : IsCutInto (pending ++ (line ++ 10 ∷ [])) ((pending ++ line) ∷ []) [] =
    rw (← append_assoc) (IsCutInto-line (pending ++ line)
    (All-append (λ byte. byte ≢ 10) pending line cut.unended clear)) in
    IsCutInto-then bytes lines pending (line ++ 10 ∷ []) ((pending ++ line) ∷ []) [] cut next

-- if `bytes` are cut into `lines` and `pending`, then the query lines of `bytes`, `line`, a line feed and `rest` are
-- `lines`, then `pending ++ line`, then those of `rest`
pub query_lines_from : (bytes : List ℕ) (lines : List (List ℕ)) (pending line rest : List ℕ)
    → IsCutInto bytes lines pending → HasNoFeed line
    → query_lines (bytes ++ (line ++ 10 ∷ rest)) ≡ lines ++ (pending ++ line) ∷ query_lines rest
query_lines_from bytes lines pending line rest cut clear =
    cut.goes_on (line ++ 10 ∷ rest)
    ∙ ap (λ (text : List ℕ). lines ++ query_lines text) (sym (append_assoc pending line (10 ∷ rest)))
    ∙ ap (λ (found : List (List ℕ)). lines ++ found)
    (query_lines_ended (pending ++ line) rest (All-append (λ byte. byte ≢ 10) pending line cut.unended clear))

-- if bytes without a line feed follow, they are added to the pending bytes
pub IsCutInto-unended : (bytes : List ℕ) (lines : List (List ℕ)) (pending piece : List ℕ)
    → IsCutInto bytes lines pending → HasNoFeed piece
    → IsCutInto (bytes ++ piece) lines (pending ++ piece)
IsCutInto-unended bytes lines pending piece cut clear =
    let next = IsCutInto-pending (pending ++ piece)
    (All-append (λ byte. byte ≢ 10) pending piece cut.unended clear) in
    subst (λ (found : List (List ℕ)). IsCutInto (bytes ++ piece) found (pending ++ piece))
    (append-nil lines)
    (IsCutInto-then bytes lines pending piece [] (pending ++ piece) cut next)

-- if an input that has ended is cut into `lines` and `pending`, its query lines are `lines` and then those of
-- `pending`: one, or none if `pending` is empty
pub query_lines_cut : (bytes : List ℕ) (lines : List (List ℕ)) (pending : List ℕ) → IsCutInto bytes lines pending
    → query_lines bytes ≡ lines ++ query_lines pending
query_lines_cut bytes lines pending cut =
    ap query_lines (sym (append-nil bytes)) ∙ cut.goes_on []
    ∙ ap (λ (text : List ℕ). lines ++ query_lines text) (append-nil pending)
