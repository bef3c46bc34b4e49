use Rattle.std.proofs.Common.{◌≡◌, ◌+◌, take}
use Rattle.std.specs.List.{sum_by}
use Rattle.reading.specs.Counted.{full}
use Rattle.candidates.specs.RowCounts.{row_count_of}
use Rattle.candidates.proofs.estimate.rows_after.Given as goal

-- `rows` is `before` plus the rows of the concepts so far, saturated
abbrev pub invariant-loop-concept : goal.invariant-loop-concept
invariant-loop-concept l =
    l.rows ≡ full (l.before + sum_by (row_count_of l.reader.indexes.now l.back) (take l.concept-index l.concepts))
