-- How many rows have a concept as their value or as their source.
use Rattle.std.specs.Prelude.{ℕ, ◌+◌, ◌-◌, ◌^◌, Bool, if◌then◌else◌, Option, Some, None, length}
use Rattle.postings.specs.Indexed.{Indexed, rows_by_source, rows_by_value}
use Rattle.reading.specs.Counted.{full}
use Rattle.candidates.specs.declared.candidates.CandidateStats.{CandidateStats}

-- how many rows have the concept with the number `number` as their value, or, if `back`, as their
-- source
abbrev pub row_count_of : Indexed → Bool → ℕ → ℕ
row_count_of indexed back number =
    length (if back then rows_by_source indexed number else rows_by_value indexed number)

-- how many items a node reads that goes through the candidates and all their rows; 2^64 - 1 if
-- every concept or group is a candidate
abbrev pub stats_items : Option CandidateStats → ℕ
stats_items (Some stats) = full (stats.items + stats.rows)
stats_items None = 2 ^ 64 - 1
