-- The kept bytes of a line have the same answers as the whole line.
use Rattle.std.proofs.Common.{◌≡◌, ◌≢◌, ℕ, ◌⊎◌, List, [], ◌∷◌, ◌++◌, length, inl, inr, sym, ap, ◌∙◌, subst, append-nil}
use Rattle.std.proofs.Common.{Option, min, arith}
use Rattle.std.proofs.lemmas.Bool.{cases_lt}
use Rattle.std.proofs.lemmas.List.{length-take, length-take-le, nil_from_length, take_all, take-append-le}
use Rattle.std.proofs.lemmas.List.Elements.{All-take}
use Rattle.query_run.specs.Fault.{LeavesWritten}
use Rattle.query_run.specs.KeptLine.{kept_of}
use Rattle.query_run.specs.Lines.{Answers, AreWritten, HasNoFeed, query_lines}
use Rattle.query_run.specs.declared.running.RunFault.{RunFault}
use Rattle.query_run.specs.declared.running.RunFault.TheVariants as run
use Rattle.query_run.proofs.LineLemmas.{query_lines_pending}

-- the first 65,536 bytes of `kept_of line ++ bytes` are those of `line ++ bytes`
kept_twice : (line bytes : List ℕ) → kept_of (kept_of line ++ bytes) ≡ kept_of (line ++ bytes)
kept_twice line bytes = elim (cases_lt 65536 (length line)) [
  | inl many ↦
      let full : length (kept_of line) ≡ 65536 = length-take-le 65536 line (omega (arith, many)) in
      take-append-le 65536 (kept_of line) bytes (omega (arith, full))
      ∙ take_all 65536 (kept_of line) (omega (arith, full))
      ∙ sym (take-append-le 65536 line bytes (omega (arith, many)))
  | inr few ↦ ap (λ (kept : List ℕ). kept_of (kept ++ bytes)) (take_all 65536 line few)
]

-- if `kept` are the kept bytes of `line`, then the kept bytes of `kept ++ bytes` are those of `line ++ bytes`
pub kept_more : (line kept bytes more : List ℕ) → kept ≡ kept_of line → more ≡ kept_of (kept ++ bytes)
    → more ≡ kept_of (line ++ bytes)
kept_more line kept bytes more is now = now ∙ ap (λ (front : List ℕ). kept_of (front ++ bytes)) is
    ∙ kept_twice line bytes

module _ (line kept : List ℕ) (is : kept ≡ kept_of line) (clear : HasNoFeed line) where
  -- if `line` has no line feed, its kept bytes have none
  pub kept_clear : HasNoFeed kept
  kept_clear = subst HasNoFeed (sym is) (All-take (λ byte. byte ≢ 10) 65536 line clear)

  -- the kept bytes are as many as `line` has, but at most 65,536
  kept_length : length kept ≡ min 65536 (length line)
  kept_length = ap length is ∙ length-take 65536 line

  -- either `line` and its kept bytes are empty, or each of them is one query line
  last_line : ((line ≡ []) × (kept ≡ []))
      ⊎ ((query_lines line ≡ (line ++ []) ∷ []) × (query_lines kept ≡ (kept ++ []) ∷ []))
  last_line = elim (cases_lt 0 (length line)) [
    | inl some ↦ inr (
      query_lines_pending line clear some ∙ ap (λ (text : List ℕ). text ∷ []) (sym (append-nil line)),
      query_lines_pending kept kept_clear (omega (arith, some, kept_length))
          ∙ ap (λ (text : List ℕ). text ∷ []) (sym (append-nil kept)),
    )
    | inr none ↦ inl (
      nil_from_length line (omega (arith, none)),
      nil_from_length kept
          (omega (arith, none, kept_length)),
    )
  ]

  -- `line` and its kept bytes are the same number of query lines: one, or none if both are empty
  pub last_count : length (query_lines kept) ≡ length (query_lines line)
  last_count = elim last_line [
    | inl none ↦ ap (λ (text : List ℕ). length (query_lines text)) (none.1 ∙ sym none.0)
    | inr one ↦ ap length one.1 ∙ sym (ap length one.0)
  ]

-- ---- lines whose first 65,536 bytes are equal have the same answers
module _ (answers : Answers) (same_front : (one other text : List ℕ) → kept_of one ≡ kept_of other → answers one text
    → answers other text)
    (line kept : List ℕ) (is : kept ≡ kept_of line) where
  -- a text that answers the kept bytes followed by `end` also answers `line` followed by `end`
  answer_kept : (end text : List ℕ) → answers (kept ++ end) text → answers (line ++ end) text
  answer_kept end text = same_front (kept ++ end) (line ++ end) text (ap (λ (front : List ℕ). kept_of (front ++ end)) is
      ∙ kept_twice line end)

  -- if the answer to the kept bytes followed by `end` is written, then the answer to `line` followed by `end` is
  -- written
  pub written_kept : (end : List ℕ) (before after : Option (List ℕ))
      → AreWritten answers ((kept ++ end) ∷ []) before after → AreWritten answers ((line ++ end) ∷ []) before after
  written_kept end before after (text, (first, rest, answered, none, joined), wrote) =
      (text, (first, rest, answer_kept end first answered, none, joined), wrote)

  -- what a fault leaves of the answer to the kept bytes followed by `end` is what it leaves of the answer to `line`
  -- followed by `end`
  pub leaves_kept : (end : List ℕ) (fault : RunFault) (before after : Option (List ℕ))
      → LeavesWritten answers ((kept ++ end) ∷ []) 0 fault before after
      → LeavesWritten answers ((line ++ end) ∷ []) 0 fault before after
  leaves_kept end (run.Read count) before after leaves = (omega arith, leaves.1)
  leaves_kept end (run.Write count) before after (whole, next, place, within, wholes, answered, less, wrote) =
      (whole, next, place, omega arith, wholes, answer_kept end next answered, less, wrote)
  leaves_kept end (run.Memory count) before after leaves = (omega arith, leaves.1)
  leaves_kept end (run.Turns count) before after leaves = (omega arith, leaves.1)

  module _ (clear : HasNoFeed line) where
    -- if the answer to the kept bytes as the last line is written, then the answer to `line` as the last line is
    -- written
    pub last_written : (before after : Option (List ℕ)) → AreWritten answers (query_lines kept) before after
        → AreWritten answers (query_lines line) before after
    last_written before after wrote = elim (last_line line kept is clear) [
      | inl none ↦ subst (λ (text : List ℕ). AreWritten answers (query_lines text) before after) (none.1 ∙ sym none.0)
          wrote
      | inr one ↦
          subst (λ (lines : List (List ℕ)). AreWritten answers lines before after) (sym one.0)
          (written_kept [] before after (subst (λ (lines : List (List ℕ)). AreWritten answers lines before after) one.1
          wrote))
    ]

    -- what a fault leaves of the answer to the kept bytes as the last line is what it leaves of the answer to `line`
    -- as the last line
    pub last_leaves : (fault : RunFault) (before after : Option (List ℕ))
        → LeavesWritten answers (query_lines kept) 0 fault before after
        → LeavesWritten answers (query_lines line) 0 fault before after
    last_leaves fault before after leaves = elim (last_line line kept is clear) [
      | inl none ↦ subst (λ (text : List ℕ). LeavesWritten answers (query_lines text) 0 fault before after) (none.1
          ∙ sym none.0) leaves
      | inr one ↦
          subst (λ (lines : List (List ℕ)). LeavesWritten answers lines 0 fault before after) (sym one.0)
          (leaves_kept [] fault before after (subst
          (λ (lines : List (List ℕ)). LeavesWritten answers lines 0 fault before after) one.1 leaves))
    ]
