-- The flags of entries and of marks, and what stands next to them.
use Rattle.std.proofs.Common.{ℕ, ◌≡◌, ◌++◌, ◌∷◌, [], not, List, map, Bool, refl, ap}
use Rattle.std.specs.List.{list_any}
use Rattle.release_model.specs.Release.{Attribute}
use Rattle.postings.specs.inside.Coded.{marks_after}
use Rattle.postings.specs.Columns.{Flagged}
use Rattle.postings.specs.Entries.{Entry, entries_after, is_alike, is_alike_in_group}
use Rattle.held_release.specs.declared.coded_rows.CodedRow.{CodedRow}
use Rattle.postings.proofs.FlagLemmas.{flags_after}

-- the rows of the entries of `rows` are `rows`
pub rows_of_entries : (before rows : List Attribute) → map (λ (entry : Entry). entry.row) (entries_after before rows)
    ≡ rows
rows_of_entries before [] = refl
rows_of_entries before (row ∷ rows) =
    ap (λ (rest : List Attribute). row ∷ rest) (rows_of_entries (before ++ row ∷ []) rows)

-- the flags `is_first` of the entries of `rows` are the flags by equal source and pair
pub firsts_of_entries : (before rows : List Attribute)
    → map (λ (entry : Entry). entry.is_first) (entries_after before rows) ≡ flags_after is_alike before rows
firsts_of_entries before [] = refl
firsts_of_entries before (row ∷ rows) = ap (λ (rest : List Bool). not (list_any (is_alike row) before) ∷ rest)
    (firsts_of_entries (before ++ row ∷ []) rows)

-- the flags `is_first_in_group` of the entries of `rows` are the flags by equal source, group number and pair
pub firsts_in_group : (before rows : List Attribute)
    → map (λ (entry : Entry). entry.is_first_in_group) (entries_after before rows)
    ≡ flags_after is_alike_in_group before rows
firsts_in_group before [] = refl
firsts_in_group before (row ∷ rows) = ap (λ (rest : List Bool). not (list_any (is_alike_in_group row) before) ∷ rest)
    (firsts_in_group (before ++ row ∷ []) rows)

-- the numbers of the marks of `rows` are `number` of each row
pub numbers_of_marks : (same : CodedRow → CodedRow → Bool) (number : CodedRow → ℕ) (before rows : List CodedRow)
    → map (λ (mark : Flagged). mark.number) (marks_after same number before rows) ≡ map number rows
numbers_of_marks same number before [] = refl
numbers_of_marks same number before (row ∷ rows) =
    ap (λ (rest : List ℕ). number row ∷ rest) (numbers_of_marks same number (before ++ row ∷ []) rows)

-- the flags of the marks of `rows` say which rows are the first among those that are equal by `same`
pub firsts_of_marks : (same : CodedRow → CodedRow → Bool) (number : CodedRow → ℕ) (before rows : List CodedRow)
    → map (λ (mark : Flagged). mark.is_first) (marks_after same number before rows) ≡ flags_after same before rows
firsts_of_marks same number before [] = refl
firsts_of_marks same number before (row ∷ rows) =
    ap (λ (rest : List Bool). not (list_any (same row) before) ∷ rest)
    (firsts_of_marks same number (before ++ row ∷ []) rows)
