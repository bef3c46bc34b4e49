-- The pairs and the groups of attribute rows as numbers (coded rows).
use Rattle.std.specs.Prelude.{ℕ, ◌+◌, ◌==◌, ◌≡◌, ◌≤◌, ◌&&◌, ◌++◌, Bool, not}
use Rattle.std.specs.Prelude.{if◌then◌else◌, List, [], ◌∷◌}
use Rattle.std.specs.Prelude.{filter, length, map, slice_index, vec_len}
use Rattle.std.specs.List.{flat_map, list_any, position_or_len, range_with_len}
use Rattle.number_lists.specs.Distinct.{distinct}
use Rattle.number_lists.specs.RisingOrder.{rising}
use Rattle.postings.specs.Columns.{Flagged}
use Rattle.postings.specs.declared.groups.RowMarks.{RowMarks}
use Rattle.held_release.specs.declared.coded_rows.CodedRow.{CodedRow}

-- the rows of `rows` whose source has the number `source`
abbrev pub of_source : List CodedRow → ℕ → List CodedRow
of_source rows source = filter (λ (row : CodedRow). row.source == source) rows

-- `rows` are ordered by source, and the number of each source is below `count`
abbrev pub IsBySource : ℕ → List CodedRow → Type 0
IsBySource count rows = rows ≡ flat_map (of_source rows) (range_with_len 0 count)

-- the pair of a row: the place of its type and the number of its value
abbrev pub pair_code : CodedRow → ℕ × ℕ
pair_code row = (row.type_place, row.value)

-- whether two pairs of numbers are equal
abbrev pub code_eq : ℕ × ℕ → ℕ × ℕ → Bool
code_eq one other = (one.0 == other.0) && (one.1 == other.1)

-- whether two rows have equal pairs
abbrev pub has_same_pair : CodedRow → CodedRow → Bool
has_same_pair one other = code_eq (pair_code one) (pair_code other)

-- whether two rows have equal group numbers and equal pairs
abbrev pub has_same_in_group : CodedRow → CodedRow → Bool
has_same_in_group one other = (one.group == other.group) && has_same_pair one other

-- the marks of `rows` if the rows `before` come before them: the number that `number` gives a row,
-- and whether no earlier row equals it by `same`
abbrev pub marks_after : (CodedRow → CodedRow → Bool) → (CodedRow → ℕ) → List CodedRow
    → List CodedRow → List Flagged
marks_after same number before [] = []
marks_after same number before (row ∷ rows) =
    record { number = number row; is_first = not (list_any (same row) before) }
    ∷ marks_after same number (before ++ row ∷ []) rows

-- the group numbers of the rows of one source, without 0, rising and each once
abbrev pub numbers_of_groups : List CodedRow → List ℕ
numbers_of_groups rows =
    rising (filter (λ group. not (group == 0)) (map (λ (row : CodedRow). row.group) rows))

-- the distinct pairs of the rows of one source with the group number 0, in the order of the first
-- row of each
abbrev pub ungrouped_pairs : List CodedRow → List (ℕ × ℕ)
ungrouped_pairs rows = distinct code_eq
    (map pair_code (filter (λ (row : CodedRow). row.group == 0) rows))

-- the groups of the rows of one source: first those with a group number, then one for each distinct
-- pair without a number
abbrev pub group_codes : List CodedRow → List (ℕ × (ℕ × ℕ))
group_codes rows = map (λ group. (group, (0, 0))) (numbers_of_groups rows)
    ++ map (λ (pair : ℕ × ℕ). (0, pair)) (ungrouped_pairs rows)

-- the place of the group of `row` among the groups of its source, whose rows are `rows`
abbrev pub place_in_source : List CodedRow → CodedRow → ℕ
place_in_source rows row =
    if row.group == 0 then length (numbers_of_groups rows)
    + position_or_len (code_eq (pair_code row)) (ungrouped_pairs rows)
    else position_or_len (λ group. row.group == group) (numbers_of_groups rows)

-- how many groups the sources before `source` have
abbrev pub groups_ahead : List CodedRow → ℕ → ℕ
groups_ahead rows source =
    length (flat_map (λ other. group_codes (of_source rows other)) (range_with_len 0 source))

-- the marks of the rows of one source: the source, and whether a row is the first with its pair in
-- it
abbrev pub source_marks : List CodedRow → List Flagged
source_marks rows = marks_after has_same_pair (λ (row : CodedRow). row.source) [] rows

-- the marks of the rows of one source: the group, numbered from `ahead`, and whether a row is the
-- first with its pair in its group
abbrev pub group_marks : ℕ → List CodedRow → List Flagged
group_marks ahead rows =
    marks_after has_same_in_group (λ (row : CodedRow). ahead + place_in_source rows row) [] rows

-- the marks with the source for the rows of the first `count` sources
abbrev pub all_source_marks : List CodedRow → ℕ → List Flagged
all_source_marks rows count =
    flat_map (λ source. source_marks (of_source rows source)) (range_with_len 0 count)

-- the marks with the group for the rows of the first `count` sources
abbrev pub all_group_marks : List CodedRow → ℕ → List Flagged
all_group_marks rows count =
    flat_map (λ source. group_marks (groups_ahead rows source) (of_source rows source))
    (range_with_len 0 count)

-- `marks` has the marks of `rows`, whose sources are `count` concepts, and for each source the
-- number of groups before it
pub record AreRowMarks (count : ℕ) (rows : List CodedRow) (marks : RowMarks) : Type 0 where
  -- the marks with the source are those of all rows
  pub sources : marks.sources.items ≡ all_source_marks rows count
  -- the marks with the group are those of all rows
  pub groups : marks.groups.items ≡ all_group_marks rows count
  -- there is a start for each source, and one at the end
  pub starts_len : vec_len marks.starts ≡ count + 1
  -- the start of a source is the number of groups of the sources before it
  pub starts : (source : ℕ) → source ≤ count
      → slice_index marks.starts.items source ≡ groups_ahead rows source
