-- How many rows the found values have, added up while they are found.
use Rattle.std.specs.Prelude.{ℕ, ◌≡◌, ◌≤◌, ◌+◌, Bool, List, Option, Some, None}
use Rattle.std.specs.List.{sum_by}
use Rattle.postings.specs.Indexed.{Indexed}
use Rattle.reading.specs.Counted.{full}
use Rattle.candidates.specs.RowCounts.{row_count_of}

-- what a `RowEstimate` counts: the rows of the values that were found
pub record Estimate : Type 0 where
  -- the indexes that hold the rows; `None` if rows are not counted
  pub indexed : Option Indexed
  -- whether attributes are read backwards, so that rows are counted by source
  pub back : Bool
  -- an upper limit of how many rows the values have; `None` if no limit is known
  pub rows : Option ℕ

-- how many rows `values` have together; 0 without indexes
abbrev pub estimate_sum : Option Indexed → Bool → List ℕ → ℕ
estimate_sum None back values = 0
estimate_sum (Some indexed) back values = sum_by (row_count_of indexed back) values

-- `late` is the estimate `early` after `values` were found: it has added their rows, or its count
-- is no longer known
pub record Adds (values : List ℕ) (early late : Estimate) : Type 0 where
  -- the indexes stay as they are
  pub indexed : late.indexed ≡ early.indexed
  -- the direction stays as it is
  pub back : late.back ≡ early.back
  -- if `late` knows a count, so did `early`, and the count rose by the rows of `values` or more,
  -- saturated
  pub rows : (all : ℕ) → late.rows ≡ Some all
      → (before : ℕ) × ((early.rows ≡ Some before)
      × (full (before + estimate_sum early.indexed early.back values) ≤ all))
