use Rattle.std.proofs.Common.{◌≤◌, take}
use Rattle.reading.specs.Counted.{full_sum}
use Rattle.candidates.specs.Extents.{group_row_count}
use Rattle.candidates.proofs.candidates.group_stats_among.Given as goal

-- `rows` is at least the number of rows of the groups so far
abbrev pub invariant-loop-group : goal.invariant-loop-group
invariant-loop-group l = full_sum (group_row_count l.reader.indexes.now) (take l.group-index l.groups) ≤ l.rows
