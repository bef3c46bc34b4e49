-- The marks of rows, one row after another.
use Rattle.std.proofs.Common.{ℕ, ◌+◌, ◌≡◌, ◌<◌, ◌++◌, ◌∷◌, [], ◌∙◌, Bool}
use Rattle.std.proofs.Common.{not, List, length, get_or, take, sym, ap, append_assoc}
use Rattle.std.specs.Cmp.{IsEquivalence, and_equiv, nat_eq_equiv, on_equiv}
use Rattle.std.specs.List.{list_any}
use Rattle.std.proofs.lemmas.List.{append-nil, take_more}
use Rattle.postings.specs.inside.Coded.{code_eq, marks_after}
use Rattle.postings.specs.Columns.{Flagged}
use Rattle.held_release.specs.declared.coded_rows.CodedRow.{CodedRow}

-- the equality test of pairs of numbers is an equivalence
pub code_eq_equiv : IsEquivalence code_eq
code_eq_equiv = and_equiv (on_equiv (λ (code : ℕ × ℕ). code.0) nat_eq_equiv)
    (on_equiv (λ (code : ℕ × ℕ). code.1) nat_eq_equiv)

module _ (same : CodedRow → CodedRow → Bool) where
  -- the marks of `rows ++ row ∷ []` are those of `rows`, with the mark of `row` at the end
  pub marks_after-more : (number : CodedRow → ℕ) (before rows : List CodedRow) (row : CodedRow)
      → marks_after same number before (rows ++ row ∷ [])
      ≡ marks_after same number before rows
      ++ record { number = number row; is_first = not (list_any (same row) (before ++ rows)) }
      ∷ []
  marks_after-more number before [] row = λ i. record
      { number = number row; is_first = not (list_any (same row) (sym (append-nil before) i)) } ∷ []
  marks_after-more number before (first ∷ rows) row =
      let rest : marks_after same number (before ++ first ∷ []) (rows ++ row ∷ [])
      ≡ marks_after same number (before ++ first ∷ []) rows
      ++ record { number = number row; is_first = not (list_any (same row) (before ++ first ∷ rows)) } ∷ [] =
      marks_after-more number (before ++ first ∷ []) rows row
      ∙ (λ i. marks_after same number (before ++ first ∷ []) rows
      ++ record { number = number row; is_first = not (list_any (same row) (append_assoc before (first ∷ []) rows i)) }
      ∷ []) in
      ap (λ marks. record { number = number first; is_first = not (list_any (same first) before) } ∷ marks) rest

  -- the marks of the first `i + 1` rows are those of the first `i`, with the mark of row `i` at the end
  pub marks_more : (number : CodedRow → ℕ) (rows : List CodedRow) (i : ℕ) (d : CodedRow) (mark : Flagged)
      → i < length rows
      → mark.number ≡ number (get_or rows i d) → mark.is_first ≡ not (list_any (same (get_or rows i d)) (take i rows))
      → marks_after same number [] (take i rows) ++ mark ∷ [] ≡ marks_after same number [] (take (i + 1) rows)
  marks_more number rows i d mark within numbered first =
      (λ j. marks_after same number [] (take i rows) ++ record { number = numbered j; is_first = first j } ∷ [])
      ∙ sym (marks_after-more number [] (take i rows) (get_or rows i d))
      ∙ ap (marks_after same number []) (sym (take_more rows i d within))
