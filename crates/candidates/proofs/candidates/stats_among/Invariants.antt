use Rattle.std.proofs.Common.{◌≤◌, true, false, take}
use Rattle.reading.specs.Counted.{full_sum}
use Rattle.candidates.specs.Extents.{group_count_of}
use Rattle.candidates.specs.RowCounts.{row_count_of}
use Rattle.candidates.proofs.candidates.stats_among.Given as goal

-- `rows`, `back_rows` and `groups` are at least what the concepts so far have
abbrev pub invariant-loop-concept : goal.invariant-loop-concept
invariant-loop-concept l = record {
  rows : full_sum (row_count_of l.reader.indexes.now true) (take l.concept-index l.concepts) ≤ l.rows;
  back_rows : full_sum (row_count_of l.reader.indexes.now false) (take l.concept-index l.concepts) ≤ l.back_rows;
  groups : full_sum (group_count_of l.reader.indexes.now) (take l.concept-index l.concepts) ≤ l.groups;
}
