-- The summary of the sizes of a node's parts, which takes the parts one by one: their sum, or the
-- largest number of 64 bits if the sum is larger, and the least of them, or another number if there
-- are no parts.
use Rattle.std.specs.Prelude.{ℕ, ◌+◌, ◌==◌, ◌≡◌, if◌then◌else◌, List, [], ◌∷◌, min}
use Rattle.plan_bounds.specs.Bounds.{capped}
use Rattle.plan_bounds.specs.Sizes.{least_of, total}
use Rattle.plan_bounds.specs.declared.summary.SizeSummary.{SizeSummary}

-- the summary of no parts: the sum is 0, and `other` stands for the least size
abbrev pub no_summary : ℕ → SizeSummary
no_summary other = record { sum = 0; least = other }

-- the summary with one more part of size `size`; `place` is the number of parts before it
abbrev pub summary_with : ℕ → SizeSummary → ℕ → SizeSummary
summary_with place summary size = record {
  sum = capped (summary.sum + size);
  least = if place == 0 then size else min summary.least size;
}

-- the summary with further parts, whose sizes a list has; `place` is the number of parts before the
-- first
abbrev pub summary_on : ℕ → SizeSummary → List ℕ → SizeSummary
summary_on place summary [] = summary
summary_on place summary (size ∷ sizes) =
    summary_on (place + 1) (summary_with place summary size) sizes

-- the summary of parts whose sizes a list has; `other` stands for the least size if the list is
-- empty
abbrev pub summary_of : ℕ → List ℕ → SizeSummary
summary_of other sizes = summary_on 0 (no_summary other) sizes

-- `summary` has the sum of `sizes`, capped at 64 bits, and the least of them, or `other` if there
-- is none
pub record IsSummaryOf (other : ℕ) (sizes : List ℕ) (summary : SizeSummary) : Type 0 where
  -- the sum of the summary is the total of `sizes`, capped at 64 bits
  pub sum : summary.sum ≡ capped (total sizes)
  -- the least of the summary is the least of `sizes`, or `other` if there is none
  pub least : summary.least ≡ least_of other sizes
