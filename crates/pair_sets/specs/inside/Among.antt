-- How many rows of a concept or a group count as matching pairs, by row numbers.
use Rattle.std.specs.Prelude.{ℕ, ◌&&◌, Bool, false, true, List, [], Option, None, Some, count_by, slice_get}
use Rattle.std.specs.Prelude.{slice_index}
use Rattle.release_model.specs.Release.{Value}
use Rattle.postings.specs.Entries.{Entry, entries_of, entries_with_value}
use Rattle.postings.specs.Groups.{ConceptGroup, rows_of_group}
use Rattle.postings.specs.Indexed.{Indexed, rows_by_source}
use Rattle.pair_sets.specs.inside.Hits.{has_pair_in, has_source_in}

-- whether there is an entry, and it passes `test`
abbrev pub at_entry : (Entry → Bool) → Option Entry → Bool
at_entry test None = false
at_entry test (Some entry) = test entry

-- whether a row counts as a matching pair of its group, or, if the first argument is false, of its
-- source
abbrev pub pair_counts : Bool → (ℕ → Bool) → (Value → Bool) → Entry → Bool
pair_counts true one passes entry = entry.is_first_in_group && has_pair_in one passes entry.row
pair_counts false one passes entry = entry.is_first && has_pair_in one passes entry.row

-- how many of `rows`, which are row numbers, count as matching pairs: of their group if `grouped`,
-- else of their source
abbrev pub pairs_among : Indexed → Bool → (ℕ → Bool) → (Value → Bool) → List ℕ → ℕ
pairs_among indexed grouped one passes rows =
    count_by (λ n. at_entry (pair_counts grouped one passes)
    (slice_get (entries_of indexed.rows) n)) rows

-- how many rows count as matching pairs of the concept with the number `number`: its own rows, or
-- (if the `Bool` is true) read backwards, the rows with it as value
abbrev pub pairs_of_concept : Indexed → Bool → (ℕ → Bool) → (Value → Bool) → ℕ → ℕ
pairs_of_concept indexed true one passes number =
    count_by (λ entry. entry.is_first && has_source_in one passes entry.row)
    (entries_with_value indexed.rows (slice_index indexed.concepts number))
pairs_of_concept indexed false one passes number =
    pairs_among indexed false one passes (rows_by_source indexed number)

-- the numbers of the rows of a group; none if there is no group
abbrev pub rows_of_group_number : Indexed → Option ConceptGroup → List ℕ
rows_of_group_number indexed None = []
rows_of_group_number indexed (Some group) = rows_of_group indexed group
